-- What the private steps of the code compute.
use Rattle.std.specs.Prelude.{◌≡◌, Bool, true, false, ◌&&◌, ◌||◌, ℕ, zero, suc, ◌^◌, ◌<◌}
use Rattle.literals.specs.Sets.{has, minus}

-- x has the places of s at which the words without one bit of the number i, one that is a member of left, have nothing
pub record Cut (f : ℕ → ℕ) (i left s x : ℕ) : Type 0 where
  pub started : (k : ℕ) → has x k ≡ true → has s k ≡ true
  pub each : (k : ℕ) → has x k ≡ true → (c : ℕ) → has left c ≡ true → has (f (minus i (2 ^ c))) k ≡ false
  pub passes : (k : ℕ) → has s k ≡ true → ((c : ℕ) → has left c ≡ true → has (f (minus i (2 ^ c))) k ≡ false) → has x k ≡ true

-- y has the places that have bit b and are in x without it
abbrev pub Lowered : ℕ → ℕ → ℕ → Type 0
Lowered x b y = (k : ℕ) → k < 64 → has y k ≡ (has k b && has x (minus k (2 ^ b)))

-- place k is in x without one of those of its bits that are below n
unfoldable pub less_below : ℕ → ℕ → ℕ → Bool
less_below x k zero = false
less_below x k (suc b) = (has k b && has x (minus k (2 ^ b))) || less_below x k b
