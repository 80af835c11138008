-- Bit by bit.
use mathlib.Core.Path.{◌≡◌}
use Prim.Native.Nat.{ℕ, ◌<◌}
use lib.ListN.{get_or}
use Rattle.program.specs.Inside.Table.{beaten_at}
use Rattle.image.proofs.pairs.clear.Given as goal

abbrev pub invariant-loop-b : goal.invariant-loop-b
invariant-loop-b l = ((k : ℕ) → k < l.b → beaten_at l.table k ≡ 0) × ((w : ℕ) → w < 400 → get_or l.table w 0 ≡ get_or l.initial.table w 0)
