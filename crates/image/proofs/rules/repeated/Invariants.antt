-- From link to link no row is the same so far.
use Rattle.literals.specs.Inside.Words.{set_of}
use Rattle.image.proofs.Repeated.{Missed}
use Rattle.image.proofs.rules.repeated.Given as goal

abbrev pub invariant-loop-after : goal.invariant-loop-after
invariant-loop-after l = Missed l.table l.after l.i l.rule.defeasible l.rule.head (set_of l.rule.body)

abbrev pub decreases-loop-after : goal.decreases-loop-after
decreases-loop-after l = l.after
