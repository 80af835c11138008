use Rattle.literals.specs.Inside.Words.{set_of}
use Rattle.plans.proofs.Bearings.{joined_none, joined_more}
use Rattle.plans.proofs.join.Goals as goal

pub loop-literal-init : goal.loop-literal-init
loop-literal-init c = rw c.into_iter-literal-iterator.ensures.into_iter_gives (λ r m. m)

pub loop-literal-preserved : goal.loop-literal-preserved
loop-literal-preserved c = rw c.in-Some.ensures.steps.1 (λ r m.
    c.loop-literal.invariant r (joined_more _ (set_of c.loop-literal.literal-iterator.left) _ c.in-Some.literal r m))

pub returns : goal.returns
returns c = c.loop-literal.invariant _ (joined_none _ (set_of c.loop-literal.literal-iterator.left) _ c.in-None.ensures.steps.0)
