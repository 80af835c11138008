-- `joint::cross` meets its contract: the atoms before one are looked at.
use Rattle.excluded.proofs.Crossings.{Crossing}
use Rattle.excluded.proofs.joint.cross.Given as goal

abbrev pub invariant-loop-atom : goal.invariant-loop-atom
invariant-loop-atom l = Crossing l.reach l.exclusions l.atom l.clashes
