-- `live_rules` meets its contract: the last pass takes all that are left.
use Rattle.literals.specs.Inside.Words.{set_of}
use Rattle.live.specs.Steps.{Taken}
use Rattle.live.proofs.live_rules.Given as goal

abbrev pub invariant-loop : goal.invariant-loop
invariant-loop l = Taken l.table (set_of l.derived) (set_of l.literals) l.taken.n (set_of l.taken.taken) l.live
