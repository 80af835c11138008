use mathlib.Core.Path.{ap, ◌∙◌}
use Prim.Native.Nat.{ℕ}
use lib.ListN.{length-set}
use Rattle.literals.specs.Sets.{insert}
use Rattle.literals.specs.Inside.Words.{set_of}
use Rattle.collecting.proofs.Puts.{put_none, put_more}
use Rattle.collecting.proofs.put.Goals as goal

pub loop-k-preserved : goal.loop-k-preserved
unfolding set_of
loop-k-preserved c = (
  simp length-set c.loop-k.invariant.0,
  λ d m.
      c.loop-k.invariant.1 d
      (put_more c.args.l c.loop-k.k-iterator.left c.in-Some.k c.insert-s.result.lo c.insert-s.result.hi c.loop-k.columns d
      c.in-Some.ensures.steps.0.member c.in-Some.ensures.steps.0.small (c.loop-k.invariant.0 ∙ c.told-columns)
      (c.insert-s.ensures ∙ ap (λ (s : ℕ). insert s c.args.l) c.of_words.ensures)
      (rw c.in-Some.ensures.steps.1 at m)),
)

pub returns : goal.returns
returns c = c.loop-k.invariant.1 _ (put_none _ c.loop-k.k-iterator.left _ c.in-None.ensures.steps.0)
