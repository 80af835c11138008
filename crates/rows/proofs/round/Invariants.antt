-- `round` meets its contract: the rules up to i have passed.
use Rattle.literals.specs.Inside.Words.{set_of}
use Rattle.rows.specs.Steps.{Rounds}
use Rattle.rows.proofs.round.Given as goal

abbrev pub invariant-loop-i : goal.invariant-loop-i
invariant-loop-i l = Rounds l.table l.keep l.base l.i (set_of l.seen) l.initial.rows l.rows l.late
