-- What is claimed of a call that fills lent byte tables, by its verdict.
use Rattle.std.specs.Prelude.{◌≡◌, List, ◌↔◌, ℕ, ◌<◌, length, take, drop}
use Rattle.calls.specs.Verdicts.{Verdict, Accepted, Refused}
use Rattle.calls.specs.Outcomes.{Outcome}
use Rattle.calls.specs.Outcomes as outcomes
use Rattle.calls.specs.Calls.{Carries}
use Rattle.calls.specs.Causes.{Judged}

-- its result, and the number that a C program gets, where it writes so many bytes
pub record Returns (Cause : (number place : ℕ) → Type 0) (verdict : Verdict) (count : ℕ) (result : Outcome ℕ) (packed : ℕ) : Type 0 where
  -- it is accepted where no cause applies, else refused by the first that does
  pub judged : Judged Cause verdict
  pub writes : verdict ≡ Accepted → (result ≡ outcomes.Given count) × (packed ≡ count)
  -- a refusal hands back its number and its place, and passes for no length
  pub refused : (number place : ℕ) → verdict ≡ Refused number place
      → (result ≡ outcomes.Refused number place) × Carries packed number place
  pub told : (verdict ≡ Accepted) ↔ (packed < 0x1_0000_0000)

-- a lent table before and after it
pub record Fills (verdict : Verdict) (content before after : List ℕ) : Type 0 where
  pub front_written : verdict ≡ Accepted → take (length content) after ≡ content
  pub past_kept : verdict ≡ Accepted → drop (length content) after ≡ drop (length content) before
  -- a refusal leaves the table as it was
  pub left : (number place : ℕ) → verdict ≡ Refused number place → after ≡ before
  -- nothing is written past the table
  pub as_long : length after ≡ length before
