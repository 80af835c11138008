-- `scatter` meets its contract: one literal at a time.
use Prim.Native.Nat.{ℕ}
use mathlib.Core.List.{List}
use mathlib.Core.Path.{◌≡◌}
use lib.ListN.{length, get_or}
use Rattle.literals.specs.Inside.Words.{set_of}
use Rattle.closing.specs.Inside.Steps.{Scattered}
use Rattle.closing.proofs.scatter.Given as goal

abbrev pub invariant-loop-l : goal.invariant-loop-l
invariant-loop-l now = (length now.table ≡ length now.initial.table) × ((d : List ℕ) → Scattered now.at (set_of now.l-iterator.left) (λ l. get_or now.values l 0) now.table d → Scattered now.at (set_of now.fn.set) (λ l. get_or now.values l 0) now.initial.table d)
