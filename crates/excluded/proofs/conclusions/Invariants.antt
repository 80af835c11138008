-- `conclusions` meets its contract: the literals of the arguments that are passed are found.
use Rattle.literals.specs.Inside.Words.{set_of}
use Rattle.excluded.proofs.Concluded.{Looked}
use Rattle.excluded.proofs.conclusions.Given as goal

abbrev pub invariant-loop-x : goal.invariant-loop-x
invariant-loop-x l = Looked l.arguments (set_of l.found) l.x-index
