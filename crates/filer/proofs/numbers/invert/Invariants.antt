-- The first numbers are below how many there are and have their places; no other has one.
use Rattle.filer.proofs.Renumberings.{Placing}
use Rattle.filer.proofs.numbers.invert.Given as goal

abbrev pub invariant-loop-i : goal.invariant-loop-i
invariant-loop-i l = Placing l.numbers l.initial.places l.places l.i
