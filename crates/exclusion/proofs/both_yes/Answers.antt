-- `both_yes` meets its contract: literals that exclude each other never both get YES.
use mathlib.Core.Path.{refl}
use lib.ListN.{length}
use Rattle.exclusion.specs.Exclusion.{call_of}
use Rattle.exclusion.proofs.Exclusion.{literal_asked_lem, two_calls}
use Rattle.exclusion.proofs.both_yes.Goals as goal

pub returns : goal.returns
returns c =
    let a = c.args in
    let first = c.says_yes-first.ensures in
    let second = c.says_yes-second.ensures in (
      two_calls a.image.now a.literal a.literal2
          (call_of a.foreign a.literal a.budget (length a.arguments.now) (length a.nodes.now))
          (call_of a.foreign2 a.literal2 a.budget2 (length a.arguments2.now) (length a.nodes2.now))
          (literal_asked_lem a.foreign _ _ _ _) (literal_asked_lem a.foreign2 _ _ _ _) _ _ _ first.0 second.0 refl,
      first.1,
      second.1,
    )
