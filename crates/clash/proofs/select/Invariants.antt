-- `select` meets its contract. The invariant: the rules of the set from rule i on are still to be written.
use Rattle.literals.specs.Inside.Words.{set_of}
use Rattle.clash.proofs.Selected.{Selecting}
use Rattle.clash.proofs.select.Given as goal

abbrev pub invariant-loop-i : goal.invariant-loop-i
invariant-loop-i l = Selecting l.table (set_of l.chosen) l.rules l.i l.n l.part
