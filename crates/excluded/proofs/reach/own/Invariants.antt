-- `reach::own` meets its contract: what is left, once done, makes the whole.
use Rattle.literals.specs.Inside.Words.{set_of}
use Rattle.excluded.specs.Inside.Rows.{Own}
use Rattle.excluded.proofs.Eaches.{Going}
use Rattle.excluded.proofs.reach.own.Given as goal

abbrev pub invariant-loop-x : goal.invariant-loop-x
invariant-loop-x l = Going Own (set_of l.fn.u) l.initial.rows (set_of l.x-iterator.left) l.rows
