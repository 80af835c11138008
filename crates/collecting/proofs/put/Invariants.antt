-- `put` meets its contract: the columns that are left.
use mathlib.Core.Path.{◌≡◌}
use mathlib.Core.List.{List}
use Prim.Native.Nat.{ℕ}
use lib.ListN.{length}
use Rattle.collecting.specs.Inside.Columns.{Put}
use Rattle.collecting.proofs.put.Given as goal

abbrev pub invariant-loop-k : goal.invariant-loop-k
invariant-loop-k l = (length l.columns ≡ length l.initial.columns) × ((d : List ℕ) → Put l.l l.k-iterator.left l.columns d → Put l.l l.x l.initial.columns d)
