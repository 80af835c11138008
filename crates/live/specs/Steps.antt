-- The live rules that are taken, so far.
use Rattle.std.specs.Prelude.{◌≡◌, true, List, ℕ, ◌^◌, ◌<◌, ◌≤◌, length}
use Rattle.std.specs.Int.Count.{ones}
use Rattle.literals.specs.Sets.{has}
use Rattle.live.specs.Live.{live_at, LiveRow}

-- the first n rows of u are the rules of taken
pub record Taken (t : List ℕ) (d s n taken : ℕ) (u : List ℕ) : Type 0 where
  pub few : n ≤ ones taken
  pub below : taken < 2 ^ 96
  pub from : length u ≡ 419 → (j : ℕ) → j < n → (i : ℕ) × LiveRow t d s i u j
  pub all : length u ≡ 419 → (i : ℕ) → has taken i ≡ true → (j : ℕ) × (j < n) × LiveRow t d s i u j

-- each live rule before i is one of taken, if no literal is awaited
abbrev pub TakenTo : List ℕ → ℕ → ℕ → ℕ → ℕ → ℕ → Type 0
TakenTo t d s awaited i taken = awaited ≡ 0 → (k : ℕ) → k < i → live_at t d s k ≡ true → has taken k ≡ true
