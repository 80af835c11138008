-- `fill` meets its contract: what the rows have is derived, and after the last round they have all that is.
use Rattle.rows.specs.Steps.{slack}
use Rattle.rows.proofs.Filled.{Grown}
use Rattle.rows.proofs.fill.Given as goal

abbrev pub invariant-loop : goal.invariant-loop
invariant-loop l = Grown l.table l.keep l.base l.initial.rows l.rows

abbrev pub decreases-loop : goal.decreases-loop
decreases-loop l = slack l.rows
