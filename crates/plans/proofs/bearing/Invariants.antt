-- `bearing` meets its contract: a round that adds something leaves less to add.
use Rattle.rows.specs.Steps.{slack}
use Rattle.plans.specs.Steps.{Small}
use Rattle.plans.proofs.bearing.Given as goal

abbrev pub invariant-loop : goal.invariant-loop
invariant-loop l = Small l.keep

abbrev pub decreases-loop : goal.decreases-loop
decreases-loop l = slack l.keep
