-- The words within a span, in descending order.
use Rattle.std.specs.Prelude.{◌≡◌, true, ℕ, ◌-◌, ◌<◌, ◌≤◌}
use Rattle.std.specs.Int.Bits.{bit_and}
use Rattle.literals.specs.Sets.{within}

-- none is left out between e and (e - 1) & span
abbrev pub Bounds : ℕ → ℕ → Type 0
Bounds span e = (v : ℕ) → within v span ≡ true → v < e → v ≤ bit_and (e - 1) span

-- w is the greatest word within the span that is below e
pub record Greatest (span e w : ℕ) : Type 0 where
  pub inside : within w span ≡ true
  pub below : w < e
  pub greatest : (v : ℕ) → within v span ≡ true → v < e → v ≤ w
