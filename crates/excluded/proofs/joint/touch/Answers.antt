use mathlib.Core.Logic.{inl}
use mathlib.Core.Path.{ap, ◌∙◌}
use Rattle.literals.specs.Sets.{has}
use Rattle.literals.specs.Inside.Words.{set_of}
use Rattle.literals.specs.declared.LiteralSet.{LiteralSet}
use Rattle.excluded.proofs.Crossings.{touching_more, touching_all}
use Rattle.excluded.proofs.joint.touch.Goals as goal

pub loop-literal-init : goal.loop-literal-init
loop-literal-init c l a m small h = inl (ap (λ (s : LiteralSet). has (set_of s) l) c.into_iter-literal-iterator.ensures.into_iter_gives ∙ m)

pub loop-literal-preserved : goal.loop-literal-preserved
loop-literal-preserved c = touching_more _ _ (set_of c.loop-literal.literal-iterator.left) c.in-Some.literal _ _ _ _ c.in-Some.ensures.steps c.entry.ensures.bits c.union-found.ensures c.loop-literal.invariant

pub returns : goal.returns
returns c = touching_all _ _ _ _ c.in-None.ensures.steps.0 c.loop-literal.invariant
