-- `joint::join` meets its contract: what is left, once done, makes the whole.
use Rattle.literals.specs.Inside.Words.{set_of}
use Rattle.excluded.specs.Inside.Rows.{Joined}
use Rattle.excluded.proofs.Eaches.{Going}
use Rattle.excluded.proofs.joint.join.Given as goal

abbrev pub invariant-loop-literal : goal.invariant-loop-literal
invariant-loop-literal l = Going (Joined (set_of l.u) l.laid.rules.now l.reach) (set_of l.fn.joint) l.initial.exclusions (set_of l.literal-iterator.left) l.exclusions
