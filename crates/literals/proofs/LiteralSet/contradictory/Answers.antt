-- `LiteralSet::contradictory` meets its contract: each word is tested by itself.
use mathlib.Core.Path.{sym, ap, ap₂, ◌∙◌}
use mathlib.Core.Bool.{Bool, not, ◌||◌}
use lib.Dec.{eqb}
use borrow.Author.Rules.{rules}
use Rattle.literals.specs.Inside.Words.{set_of}
use Rattle.literals.proofs.Tests.{not_and}
use Rattle.literals.proofs.Members.{union_empty}
use Rattle.literals.proofs.Pairs.{pairs, pairs_clash}
use Rattle.literals.proofs.Words.{joined_clash}
use Rattle.literals.proofs.LiteralSet.contradictory.Goals as goal

pub returns : goal.returns
unfolding set_of
returns c = let s = c.args.self in
    ap not (union_empty (pairs s.lo) (pairs s.hi)) ∙ not_and (eqb (pairs s.lo) 0) (eqb (pairs s.hi) 0)
    ∙ ap₂ (λ (x y : Bool). x || y) (pairs_clash s.lo) (pairs_clash s.hi)
    ∙ sym (joined_clash s.hi s.lo (search rules))
