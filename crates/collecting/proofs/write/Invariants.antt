-- `write` meets its contract: the words from 64 i on are left to be written.
use mathlib.Core.List.{List}
use Prim.Native.Nat.{ℕ, ◌-◌}
use lib.ListN.{get_or}
use Rattle.lists.proofs.Stores.{Writing}
use Rattle.literals.specs.Inside.Words.{set_of}
use Rattle.collecting.specs.Inside.Folds.{lists}
use Rattle.collecting.specs.Inside.Columns.{words_list, list_of}
use Rattle.collecting.proofs.write.Given as goal

-- the arguments of the marked words from 64 j on
abbrev pub marked : List ℕ → ℕ → List ℕ → ℕ → List ℕ
marked rows s touched j = words_list rows s (get_or touched j 0) j

abbrev pub invariant-loop-i : goal.invariant-loop-i
invariant-loop-i l = Writing l.initial.arguments l.arguments 0 l.at (list_of l.rows (set_of l.literals)) (lists (marked l.rows (set_of l.literals) l.touched) l.i (16 - l.i))
