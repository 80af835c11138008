use Rattle.literals.specs.Inside.Words.{set_of}
use Rattle.literals.proofs.Words.{joined_below}
use Rattle.plans.proofs.Places.{left_all, left_more, left_none}
use native.Mathlib.Omega.{arith}
use borrow.Author.Rules.{rules}
use Rattle.plans.proofs.place.Goals as goal

pub loop-literal-init : goal.loop-literal-init
loop-literal-init c = rw c.into_iter-literal-iterator.ensures.into_iter_gives (left_all _ _ _ _ c.requires.start_bound)

pub loop-literal-preserved : goal.loop-literal-preserved
loop-literal-preserved c = rw c.in-Some.ensures.steps.1 (left_more _ _ _ _ _ _ _ c.in-Some.literal c.requires.small c.in-Some.ensures.steps.0
    (omega (arith, c.in-Some.ensures.steps.0.small, c.loop-literal.invariant.sized, c.told-base)) c.loop-literal.invariant)

pub returns : goal.returns
unfolding set_of
returns c = record {
  result_bounds = (c.loop-literal.invariant.from, c.loop-literal.invariant.low);
  placed_in = left_none c.in-None.ensures.steps.0 c.loop-literal.invariant;
  literals_bound = joined_below c.args.literals.hi c.args.literals.lo (search rules) (search rules);
}
