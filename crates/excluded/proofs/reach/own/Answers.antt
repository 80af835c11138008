use mathlib.Core.Path.{ap, ◌∙◌}
use Prim.Native.Nat.{ℕ}
use Rattle.literals.specs.Sets.{insert}
use Rattle.literals.specs.Inside.Words.{set_of}
use Rattle.literals.specs.declared.LiteralSet.{LiteralSet}
use Rattle.excluded.specs.Inside.Rows.{Own}
use Rattle.excluded.proofs.Eaches.{going_none, going_more, going_all}
use borrow.Author.Rules.{rules}
use Rattle.excluded.proofs.reach.own.Goals as goal

pub loop-x-init : goal.loop-x-init
loop-x-init c = going_none _ _ _ _ (ap (λ (s : LiteralSet). set_of s) c.into_iter-x-iterator.ensures.into_iter_gives) c.told-rows

pub loop-x-preserved : goal.loop-x-preserved
unfolding set_of
loop-x-preserved c = going_more Own _ _ (set_of c.loop-x.x-iterator.left) _ c.in-Some.x _ c.in-Some.ensures.steps _ _ _ c.store.ensures (search rules, c.insert.ensures ∙ ap (λ (z : ℕ). insert z c.in-Some.x) c.empty.ensures) c.loop-x.invariant

pub returns : goal.returns
returns c = going_all _ _ _ _ _ c.in-None.ensures.steps.0 c.loop-x.invariant
