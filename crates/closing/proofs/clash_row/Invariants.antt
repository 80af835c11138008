-- `clash_row` meets its contract: one word at a time, in descending order.
use mathlib.Core.Path.{◌≡◌}
use Rattle.literals.specs.Inside.Words.{set_of}
use Rattle.closing.proofs.Clashings.{ClashedTo}
use Rattle.closing.proofs.clash_row.Given as goal

abbrev pub invariant-loop-w : goal.invariant-loop-w
invariant-loop-w l = (l.w-iterator.span ≡ l.span) × ClashedTo (set_of l.pairs) l.end l.span l.w-iterator.end l.initial.rows l.rows
