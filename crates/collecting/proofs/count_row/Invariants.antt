-- `count_row` meets its contract: the words that are to come are left.
use mathlib.Core.Path.{◌≡◌}
use mathlib.Core.List.{List}
use lib.ListN.{length}
use Rattle.collecting.specs.Inside.Columns.{Marks, InRow}
use Rattle.collecting.proofs.Counts.{RowLeft}
use Rattle.collecting.proofs.Marks.{Below}
use Prim.Native.Nat.{ℕ}
use Rattle.collecting.proofs.count_row.Given as goal

abbrev pub invariant-loop-w : goal.invariant-loop-w
invariant-loop-w now = record {
  span : now.w-iterator.span ≡ now.span;
  left : RowLeft now.rows now.literal now.w-iterator.end now.found;
  sized : length now.touched ≡ length now.initial.touched;
  marks : (v : List ℕ) → Marks now.rows (Below now.literal now.w-iterator.end) now.touched v → Marks now.rows (InRow (λ l. l ≡ now.literal)) now.initial.touched v;
}
