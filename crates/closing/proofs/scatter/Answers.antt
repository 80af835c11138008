use mathlib.Core.Path.{◌∙◌}
use lib.ListN.{get_or, length-set}
use native.Mathlib.Omega.{arith}
use Rattle.literals.specs.Inside.Words.{set_of}
use Rattle.literals.proofs.Words.{joined_below}
use Rattle.closing.proofs.Scatterings.{scattered_none, scattered_more}
use borrow.Author.Rules.{rules}
use Rattle.closing.proofs.scatter.Goals as goal

pub loop-l-preserved : goal.loop-l-preserved
loop-l-preserved c = rw c.in-Some.ensures.steps.1 (
  length-set c.loop-l.table _ _ ∙ c.loop-l.invariant.0,
  λ d s.
      c.loop-l.invariant.1 d
      (scattered_more c.args.at _ c.in-Some.l (λ l. get_or c.args.values.now l 0) c.loop-l.table c.in-Some.ensures.steps.0.member
      (omega (arith, c.in-Some.ensures.steps.0.small, c.requires, c.loop-l.invariant.0)) d s),
)

pub returns-clause-set_bound : goal.returns-clause-set_bound
unfolding set_of
returns-clause-set_bound c = joined_below c.args.set.hi c.args.set.lo (search rules) (search rules)

pub returns-clause-scattered : goal.returns-clause-scattered
returns-clause-scattered c = c.loop-l.invariant.1 _ (scattered_none _ (set_of c.loop-l.l-iterator.left) _ _ c.in-None.ensures.steps.0)
