-- The entries of the parts from the k-th number on are left to be written.
use Rattle.writing.proofs.Outputs.{Entering}
use Rattle.writing.proofs.entries.Given as goal

abbrev pub invariant-loop-number : goal.invariant-loop-number
invariant-loop-number l = Entering l.image l.order l.initial.out l.out l.at l.next l.start l.from l.number-index
