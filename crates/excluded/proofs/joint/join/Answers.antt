use mathlib.Core.Path.{ap}
use Rattle.literals.specs.Inside.Words.{set_of}
use Rattle.literals.specs.declared.LiteralSet.{LiteralSet}
use Rattle.excluded.specs.Inside.Rows.{Joined}
use Rattle.excluded.proofs.Eaches.{going_none, going_more, going_all}
use Rattle.excluded.proofs.joint.join.Goals as goal

pub loop-literal-init : goal.loop-literal-init
loop-literal-init c = going_none _ _ _ _ (ap (λ (s : LiteralSet). set_of s) c.into_iter-literal-iterator.ensures.into_iter_gives) c.told-exclusions

pub loop-literal-preserved : goal.loop-literal-preserved
unfolding set_of
loop-literal-preserved c = going_more (Joined (set_of c.args.u) c.args.laid.now.rules.now c.args.reach.now) _ _ (set_of c.loop-literal.literal-iterator.left) _ c.in-Some.literal _ c.in-Some.ensures.steps _ _ _ c.store.ensures c.together.ensures c.loop-literal.invariant

pub returns : goal.returns
returns c = going_all _ _ _ _ _ c.in-None.ensures.steps.0 c.loop-literal.invariant
