-- `joint::add` meets its contract: what is left, once done, makes the whole.
use Rattle.literals.specs.Inside.Words.{set_of}
use Rattle.excluded.specs.Inside.Rows.{Gained}
use Rattle.excluded.proofs.Eaches.{Going}
use Rattle.excluded.proofs.joint.add.Given as goal

abbrev pub invariant-loop-literal : goal.invariant-loop-literal
invariant-loop-literal l = Going (Gained (set_of l.v)) (set_of l.fn.s) l.initial.exclusions (set_of l.literal-iterator.left) l.exclusions
