-- `fire` meets its contract: the words of the row that are not to come have had their turn.
use mathlib.Core.Path.{◌≡◌}
use Rattle.rows.specs.Steps.{Fires, Above}
use Rattle.rows.proofs.fire.Given as goal

abbrev pub invariant-loop-w : goal.invariant-loop-w
invariant-loop-w l = (l.w-iterator.span ≡ l.kept) × Fires l.table l.keep l.base l.i (Above l.table l.keep l.i l.w-iterator.end) l.initial.rows l.rows l.grown
