-- A scan of the numbers from `start` to `count`, as a loop does it: up to j all were missed.
use Prim.Native.Nat.{ℕ, ◌+◌, ◌≤◌, ◌<◌}
use native.Mathlib.Omega.{arith}
use borrow.Author.Count.{below_more}

pub record Scanned (Miss : ℕ → Type 0) (start count j : ℕ) : Type 0 where
  pub low : start ≤ j
  pub high : j ≤ count
  pub missed : (i : ℕ) → start ≤ i → i < j → Miss i

module _ {Miss : ℕ → Type 0} {start count : ℕ} where
  pub scan_start : start ≤ count → Scanned Miss start count start
  scan_start h = record { low = omega arith; high = h; missed = λ i a b. absurd (omega arith) }

  pub scan_more : {j : ℕ} → Scanned Miss start count j → j < count → Miss j → Scanned Miss start count (j + 1)
  scan_more {j} s h m = record {
    low = omega arith;
    high = omega arith;
    missed = λ i a b. below_more (λ (k : ℕ). start ≤ k → Miss k) j (λ k l g. s.missed k g l) (λ g. m) i b a;
  }

  pub scan_end : {j : ℕ} → Scanned Miss start count j → count ≤ j → Scanned Miss start count count
  scan_end s h = record { low = omega arith; high = omega arith; missed = λ i a b. s.missed i a (omega arith) }
