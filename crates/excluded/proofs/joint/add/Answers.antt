use mathlib.Core.Path.{ap, ◌∙◌}
use Prim.Native.Nat.{ℕ}
use Rattle.literals.specs.Sets.{union}
use Rattle.literals.specs.Inside.Words.{set_of}
use Rattle.literals.specs.declared.LiteralSet.{LiteralSet}
use Rattle.excluded.specs.Inside.Rows.{Gained}
use Rattle.excluded.proofs.Eaches.{going_none, going_more, going_all, added}
use Rattle.excluded.proofs.joint.add.Goals as goal

pub loop-literal-init : goal.loop-literal-init
loop-literal-init c = going_none _ _ _ _ (ap (λ (s : LiteralSet). set_of s) c.into_iter-literal-iterator.ensures.into_iter_gives) c.told-exclusions

pub loop-literal-preserved : goal.loop-literal-preserved
unfolding set_of
loop-literal-preserved c = going_more (Gained (set_of c.args.v)) _ _ (set_of c.loop-literal.literal-iterator.left) _ c.in-Some.literal _ c.in-Some.ensures.steps _ _ _ c.store.ensures (c.union.ensures ∙ ap (λ (z : ℕ). union z (set_of c.args.v)) c.entry.ensures.row) c.loop-literal.invariant

pub returns : goal.returns
returns c = added _ _ _ _ (going_all _ _ _ _ _ c.in-None.ensures.steps.0 c.loop-literal.invariant)
