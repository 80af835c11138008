-- `joint::joint` meets its contract: the rules before i are looked at.
use Rattle.literals.specs.Inside.Words.{set_of}
use Rattle.excluded.proofs.Crossings.{SpreadTo}
use Rattle.excluded.proofs.joint.joint.Given as goal

abbrev pub invariant-loop-i : goal.invariant-loop-i
invariant-loop-i l = SpreadTo l.rules l.reach l.i (set_of l.found)
