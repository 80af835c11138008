-- `reach::whole` meets its contract: what is left, once done, makes the whole.
use Rattle.literals.specs.Inside.Words.{set_of}
use Rattle.excluded.specs.Inside.Rows.{Whole}
use Rattle.excluded.proofs.Eaches.{Going}
use Rattle.excluded.proofs.reach.whole.Given as goal

abbrev pub invariant-loop-literal : goal.invariant-loop-literal
invariant-loop-literal l = Going (Whole (set_of l.u)) (set_of l.fn.s) l.initial.rows (set_of l.literal-iterator.left) l.rows
