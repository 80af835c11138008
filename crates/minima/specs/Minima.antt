-- The minimal masks of a row. A row is given by its words, f i for the masks from 64 i on.
use Rattle.std.specs.Prelude.{◌≡◌, Bool, true, false, ℕ, ◌+◌, ◌*◌, ◌/◌, ◌%◌, ◌^◌, ◌<◌}
use Rattle.literals.specs.Sets.{has, minus}

-- bit m of the row
abbrev pub row_by : (ℕ → ℕ) → ℕ → Bool
row_by f m = has (f (m / 64)) (m % 64)

-- m is set, and no mask with one rule less is
pub record Minimal (f : ℕ → ℕ) (m : ℕ) : Type 0 where
  pub set_at : row_by f m ≡ true
  pub none_less_lem : (b : ℕ) → has m b ≡ true → row_by f (minus m (2 ^ b)) ≡ false

-- x has the minimal masks among those from 64 i on
pub record Minima (f : ℕ → ℕ) (i x : ℕ) : Type 0 where
  pub says : (k : ℕ) → k < 64 → has x k ≡ true → Minimal f (64 * i + k)
  pub passes : (k : ℕ) → k < 64 → Minimal f (64 * i + k) → has x k ≡ true
