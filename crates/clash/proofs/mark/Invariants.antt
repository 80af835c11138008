-- `mark` meets its contract. The invariant: the bytes from i on are still to be written.
use Rattle.literals.specs.Inside.Words.{set_of}
use Rattle.clash.proofs.Turns.{Marking}
use Rattle.clash.proofs.mark.Given as goal

abbrev pub invariant-loop-i : goal.invariant-loop-i
invariant-loop-i l = Marking (set_of l.small) l.rules l.initial.marks l.marks l.i
