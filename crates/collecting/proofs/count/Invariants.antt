-- `count` meets its contract: the arguments for the literals that are left are left to be counted.
use mathlib.Core.Path.{◌≡◌}
use mathlib.Core.List.{List}
use Prim.Native.Nat.{ℕ, ◌+◌}
use lib.ListN.{length}
use Rattle.literals.specs.Inside.Words.{set_of}
use Rattle.collecting.specs.Inside.Columns.{literals_count, Marks, Members, InRow}
use Rattle.collecting.proofs.count.Given as goal

abbrev pub invariant-loop-literal : goal.invariant-loop-literal
invariant-loop-literal l = record {
  counted : l.found + literals_count l.rows (set_of l.literal-iterator.left) ≡ literals_count l.rows (set_of l.fn.literals);
  sized : length l.touched ≡ length l.initial.touched;
  marks : (v : List ℕ) → Marks l.rows (InRow (Members (set_of l.literal-iterator.left))) l.touched v → Marks l.rows (InRow (Members (set_of l.fn.literals))) l.initial.touched v;
}
