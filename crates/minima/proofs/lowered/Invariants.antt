-- `lowered` meets its contract: one bit more at a time.
use mathlib.Core.Path.{◌≡◌}
use Prim.Native.Nat.{ℕ, ◌<◌}
use Rattle.literals.specs.Sets.{has}
use Rattle.minima.specs.Steps.{less_below}
use Rattle.minima.proofs.lowered.Given as goal

abbrev pub invariant-loop-bit : goal.invariant-loop-bit
invariant-loop-bit l = (k : ℕ) → k < 64 → has l.places k ≡ less_below l.x k l.bit
