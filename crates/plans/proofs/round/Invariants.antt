-- `round` meets its contract: the rules up to i have passed.
use Rattle.plans.specs.Steps.{Bears}
use Rattle.plans.proofs.round.Given as goal

abbrev pub invariant-loop-i : goal.invariant-loop-i
invariant-loop-i l = Bears l.table 0 l.i l.initial.keep l.keep l.grown
