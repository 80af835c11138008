-- One step over the members of a set of two words: its lowest member is that of the low word, or of the high word where the
-- low one is empty, and it goes out of that word.
use mathlib.Core.Path.{◌≡◌, sym, ap, ap₂, subst, ◌∙◌}
use mathlib.Core.Bool.{false}
use Prim.Native.Nat.{ℕ, ◌+◌, ◌-◌, ◌^◌, ◌<◌, ◌≤◌}
use native.Mathlib.Nat.{zero-mul, zero-add, add-zero}
use native.Mathlib.Omega.{arith}
use native.Mathlib.Decide.{dec_lt}
use lib.Bits.{bit_and, and_le_l, and_le_r}
use lib.Pow.{pow-add, pow-lt}
use Rattle.literals.specs.Sets.{has, minus, LowestBelow, Lowest}
use Rattle.literals.specs.Inside.Words.{joined}
use Rattle.literals.proofs.Members.{has_empty}
use Rattle.literals.proofs.Words.{has_joined_low, has_joined_high, joined_minus}

pub lowest_low : (h w k : ℕ) → Lowest w k → LowestBelow 128 (joined h w) k
lowest_low h w k low = record {
  member = has_joined_low h w k low.small ∙ low.member;
  least = λ j l. has_joined_low h w j (omega (arith, low.small)) ∙ low.least j l;
  small = omega (arith, low.small);
}

pub lowest_high : (h k : ℕ) → Lowest h k → LowestBelow 128 (joined h 0) (64 + k)
lowest_high h k low = record {
  member = has_joined_high h 0 k (omega arith) ∙ low.member;
  least = λ j l.
      elim (dec_lt j 64) [
        | yes p ↦ has_joined_low h 0 j p ∙ has_empty j
        | no n ↦
            let e : 64 + (j - 64) ≡ j = omega arith in
            subst (λ (i : ℕ). has (joined h 0) i ≡ false) e (has_joined_high h 0 (j - 64) (omega arith) ∙ low.least (j - 64) (omega arith))
      ];
  small = omega (arith, low.small);
}

pub minus_low : (h w k : ℕ) → w < 2 ^ 64 → k < 64 → minus (joined h w) (2 ^ k) ≡ joined h (minus w (2 ^ k))
minus_low h w k p q =
    let e : joined 0 (2 ^ k) ≡ 2 ^ k = omega arith in
    let f : minus h 0 ≡ h = omega (arith, and_le_l h 0, and_le_r h 0) in
    sym (ap (λ (x : ℕ). joined x (minus w (2 ^ k))) (sym f) ∙ joined_minus h w 0 (2 ^ k) p (pow-lt q) ∙ ap (minus (joined h w)) e)

pub minus_high : (h k : ℕ) → minus (joined h 0) (2 ^ (64 + k)) ≡ joined (minus h (2 ^ k)) 0
minus_high h k =
    let e : joined (2 ^ k) 0 ≡ 2 ^ (64 + k) = omega (arith, pow-add 2 64 k) in
    let f : minus 0 0 ≡ 0 = omega (arith, and_le_l 0 0) in
    sym (ap (joined (minus h (2 ^ k))) (sym f) ∙ joined_minus h 0 (2 ^ k) 0 (omega arith) (omega arith) ∙ ap (minus (joined h 0)) e)
