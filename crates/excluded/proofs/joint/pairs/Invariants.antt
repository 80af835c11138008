-- `joint::pairs` meets its contract: the atoms before one are looked at.
use Rattle.literals.specs.Inside.Words.{set_of}
use Rattle.excluded.specs.Inside.Joint.{Pairs}
use Rattle.excluded.proofs.joint.pairs.Given as goal

abbrev pub invariant-loop-atom : goal.invariant-loop-atom
invariant-loop-atom l = Pairs l.rows l.atom (set_of l.found)
