-- `derivation::round` meets its contract. The invariant: the rules from i on make of the set what all rules make of the start.
use Rattle.literals.specs.Inside.Words.{set_of}
use Rattle.derivation.proofs.Turns.{Turning}
use Rattle.derivation.proofs.round.Given as goal

abbrev pub invariant-loop-i : goal.invariant-loop-i
invariant-loop-i l = Turning l.mask l.table (set_of l.initial.s) l.rules l.i (set_of l.s) l.read
