-- Numbers in another order.
use mathlib.Core.List.{List, Memᴰ}
use Rattle.std.specs.Prelude.{ℕ, ◌<◌}
use Rattle.lists.specs.Lists.{Distinct}

-- each number below n stands in the list once, and no other does
pub record Numbering (n : ℕ) (order : List ℕ) : Type 0 where
  pub once : Distinct order
  pub below : (i : ℕ) → Memᴰ i order → i < n
  pub each : (i : ℕ) → i < n → Memᴰ i order
