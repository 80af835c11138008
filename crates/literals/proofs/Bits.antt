-- The digits of a number. Each law goes by halving: digit 0 is the remainder by 2, the others are digits of the half.
use mathlib.Core.Path.{◌≡◌, refl, sym, ap, ◌∙◌}
use mathlib.Core.Logic.{◌⊎◌, inl, inr, ⊎_elim}
use Prim.Native.Nat.{ℕ, zero, suc, ◌+◌, ◌-◌, ◌*◌, ◌/◌, ◌%◌, ◌^◌, ◌<◌, ◌≤◌, min, max}
use native.Mathlib.Nat.{mod-lt, div-one, pow-suc, zero-lt-suc, div-eq_of_lt, lt_of_lt_of_le, mul_assoc}
use native.Mathlib.Decide.{dec_lt}
use native.Mathlib.Numerals.{one-add}
use native.Mathlib.Omega.{arith}
use lib.Arith.{bin_ind}
use lib.Pow.{shr-shr, high, pow_mono}
use lib.Count.{count_trailing_zeros, under}
use lib.Bits.{bit_and, bit_or, and_zero_r, block_half, block_odd, and_step, or_step, and_shr, or_shr, and_le_l, and_self}
use Rattle.literals.specs.Sets.{bit, minus}

pub bit_below : (s k : ℕ) → bit s k < 2
unfolding bit
bit_below s k = mod-lt (s / 2 ^ k) (zero-lt-suc 1)

pub digit_cases : (d : ℕ) → d < 2 → (d ≡ 0) ⊎ (d ≡ 1)
digit_cases zero h = inl refl
digit_cases (suc zero) h = inr refl
digit_cases (suc (suc d)) h = absurd (omega arith)

pub bit_cases : (s k : ℕ) → (bit s k ≡ 0) ⊎ (bit s k ≡ 1)
bit_cases s k = digit_cases (bit s k) (bit_below s k)

pub bit_first : (s : ℕ) → bit s 0 ≡ s % 2
unfolding bit
bit_first s = ap (λ (x : ℕ). x % 2) (div-one s)

pub bit_half : (s k : ℕ) → bit s (suc k) ≡ bit (s / 2) k
unfolding bit
bit_half s k = sym (ap (λ (x : ℕ). x % 2) (shr-shr s 1 k ∙ ap (λ (x : ℕ). s / 2 ^ x) (one-add k)))

pub bit_empty : (k : ℕ) → bit 0 k ≡ 0
bit_empty zero = bit_first 0
bit_empty (suc k) = bit_half 0 k ∙ bit_empty k

pub bit_and_lem : (a b k : ℕ) → bit (bit_and a b) k ≡ min (bit a k) (bit b k)
unfolding bit
bit_and_lem a b k = ap (λ (x : ℕ). x % 2) (and_shr a b k) ∙ omega (arith, and_step (a / 2 ^ k) (b / 2 ^ k))

pub bit_or_lem : (a b k : ℕ) → bit (bit_or a b) k ≡ max (bit a k) (bit b k)
unfolding bit
bit_or_lem a b k = ap (λ (x : ℕ). x % 2) (or_shr a b k) ∙ omega (arith, or_step (a / 2 ^ k) (b / 2 ^ k))

pub bit_minus : (a b k : ℕ) → bit (minus a b) k ≡ bit a k - bit b k
bit_minus a b zero =
    bit_first (minus a b) ∙ omega (arith, and_step a b, and_le_l (a / 2) (b / 2), bit_first a, bit_first b)
bit_minus a b (suc k) =
    let half : minus a b / 2 ≡ minus (a / 2) (b / 2) = omega (arith, and_step a b, and_le_l (a / 2) (b / 2)) in
    bit_half (minus a b) k ∙ ap (λ (x : ℕ). bit x k) half ∙ bit_minus (a / 2) (b / 2) k ∙ rw (bit_half a k, bit_half b k)

-- a power of 2 has one digit
power_half : (j : ℕ) → 2 ^ suc j / 2 ≡ 2 ^ j
power_half j = omega (arith, pow-suc 2 j)

power_even : (j : ℕ) → 2 ^ suc j % 2 ≡ 0
power_even j = omega (arith, pow-suc 2 j)

pub bit_power_same : (k : ℕ) → bit (2 ^ k) k ≡ 1
bit_power_same zero = bit_first 1
bit_power_same (suc k) = bit_half (2 ^ suc k) k ∙ ap (λ (x : ℕ). bit x k) (power_half k) ∙ bit_power_same k

pub bit_power_only : (j k : ℕ) → bit (2 ^ j) k ≡ 1 → k ≡ j
bit_power_only zero zero e = refl
bit_power_only zero (suc k) e = absurd (omega (arith, bit_half 1 k, bit_empty k))
bit_power_only (suc j) zero e = absurd (omega (arith, bit_first (2 ^ suc j), power_even j))
bit_power_only (suc j) (suc k) e =
    ap suc (bit_power_only j k (sym (ap (λ (x : ℕ). bit x k) (power_half j)) ∙ sym (bit_half (2 ^ suc j) k) ∙ e))

-- what a set has in common with one digit
pub and_power : (s k : ℕ) → bit_and s (2 ^ k) ≡ bit s k * 2 ^ k
and_power s zero = omega (arith, and_step s 1, and_zero_r (s / 2), bit_first s)
and_power s (suc k) =
    let half : bit_and (s / 2) (2 ^ suc k / 2) ≡ bit s (suc k) * 2 ^ k
    = ap (bit_and (s / 2)) (power_half k) ∙ and_power (s / 2) k ∙ ap (λ (x : ℕ). x * 2 ^ k) (sym (bit_half s k)) in
    let low : bit_and s (2 ^ suc k) ≡ bit_and (s / 2) (2 ^ suc k / 2) * 2 = omega (arith, and_step s (2 ^ suc k), power_even k) in
    low ∙ ap (λ (x : ℕ). x * 2) half ∙ mul_assoc (bit s (suc k)) (2 ^ k) 2 ∙ ap (λ (x : ℕ). bit s (suc k) * x) (sym (pow-suc 2 k))

-- a number below 2 ^ n has its digits below n, and only such a number has
pub bit_bound : (s n k : ℕ) → s < 2 ^ n → bit s k ≡ 1 → k < n
unfolding bit
bit_bound s n k l e = go (dec_lt k n)
  where
    go : Dec (k < n) → k < n
    go (yes q) = q
    go (no q) =
        let z : s / 2 ^ k ≡ 0 = div-eq_of_lt (lt_of_lt_of_le l (pow_mono (omega arith))) in
        absurd (omega arith)

no_digits : (s : ℕ) → ((k : ℕ) → bit s k ≡ 0) → s ≡ 0
no_digits =
    bin_ind (λ (s : ℕ). ((k : ℕ) → bit s k ≡ 0) → s ≡ 0) (λ h. refl)
    (λ s half h.
    let z : s / 2 ≡ 0 = half (λ k. sym (bit_half s k) ∙ h (suc k)) in
    omega (arith, bit_first s, h 0))

pub bits_below : (n s : ℕ) → ((k : ℕ) → bit s k ≡ 1 → k < n) → s < 2 ^ n
bits_below zero s h = omega (arith, no_digits s (λ k. ⊎_elim (λ z. z) (λ e. absurd (none k (h k e))) (bit_cases s k)))
  where
    none : (k : ℕ) → k < 0 → ⊥
    none k l = omega arith
bits_below (suc n) s h =
    omega (arith, bits_below n (s / 2) (λ k e. less k (h (suc k) (bit_half s k ∙ e))), pow-suc 2 n)
  where
    less : (k : ℕ) → suc k < suc n → k < n
    less k l = omega arith

-- a number above n digits of another
pub bit_low : (h w n k : ℕ) → k < n → bit (h * 2 ^ n + w) k ≡ bit w k
bit_low h w zero k p = absurd (omega arith)
bit_low h w (suc n) zero p = bit_first (h * 2 ^ suc n + w) ∙ block_odd h n w ∙ sym (bit_first w)
bit_low h w (suc n) (suc k) p =
    bit_half (h * 2 ^ suc n + w) k ∙ ap (λ (x : ℕ). bit x k) (block_half h n w) ∙ bit_low h (w / 2) n k (omega arith)
    ∙ sym (bit_half w k)

pub bit_high : (h w n k : ℕ) → w < 2 ^ n → bit (h * 2 ^ n + w) (n + k) ≡ bit h k
unfolding bit
bit_high h w n k p =
    ap (λ (x : ℕ). x % 2) (sym (shr-shr (h * 2 ^ n + w) n k) ∙ ap (λ (x : ℕ). x / 2 ^ k) (high h n p))

-- a number is at least each of its digits' powers
pub bit_le : (s k : ℕ) → bit s k ≡ 1 → 2 ^ k ≤ s
bit_le s zero e = omega (arith, bit_first s)
bit_le s (suc k) e = omega (arith, bit_le (s / 2) k (sym (bit_half s k) ∙ e), pow-suc 2 k)

-- a number that is not 0 has a digit
pub bit_some : (s : ℕ) → (s ≡ 0 → ⊥) → (k : ℕ) × (bit s k ≡ 1)
bit_some =
    bin_ind (λ (s : ℕ). (s ≡ 0 → ⊥) → (k : ℕ) × (bit s k ≡ 1)) (λ n. absurd (n refl))
    (λ s half n.
    ⊎_elim
    (λ z. let r : (k : ℕ) × (bit (s / 2) k ≡ 1) = half (λ q. n (omega arith)) in (suc r.0, bit_half s r.0 ∙ r.1))
    (λ o. (0, bit_first s ∙ o))
    (digit_cases (s % 2) (omega arith)))

-- two numbers with the same digits are equal
pub bit_ext : (a b : ℕ) → ((k : ℕ) → bit a k ≡ bit b k) → a ≡ b
bit_ext =
    bin_ind (λ (a : ℕ). (b : ℕ) → ((k : ℕ) → bit a k ≡ bit b k) → a ≡ b)
    (λ b h. sym (no_digits b (λ k. sym (h k) ∙ bit_empty k)))
    (λ a half b h.
    let e : a / 2 ≡ b / 2 = half (b / 2) (λ k. sym (bit_half a k) ∙ h (suc k) ∙ bit_half b k) in
    omega (arith, bit_first a, bit_first b, h 0))

-- the zeros below a number's lowest digit, and that digit
pub bit_trailing : (n s : ℕ) → s < 2 ^ n → (s ≡ 0 → ⊥) → bit s (count_trailing_zeros n s) ≡ 1
unfolding count_trailing_zeros
bit_trailing zero s l e = absurd (e (omega arith))
bit_trailing (suc n) s l e =
    go (digit_cases (s % 2) (omega arith)) (λ q. bit_trailing n (s / 2) (omega (arith, pow-suc 2 n)) q)
  where
    go : (s % 2 ≡ 0) ⊎ (s % 2 ≡ 1) → ((s / 2 ≡ 0 → ⊥) → bit (s / 2) (count_trailing_zeros n (s / 2)) ≡ 1)
        → bit s (under (s % 2) (count_trailing_zeros n (s / 2))) ≡ 1
    go (inl z) half = rw z (bit_half s (count_trailing_zeros n (s / 2)) ∙ half (λ q. e (omega arith)))
    go (inr o) half = rw o (bit_first s ∙ o)

pub bit_under_trailing : (n s k : ℕ) → k < count_trailing_zeros n s → bit s k ≡ 0
unfolding count_trailing_zeros
bit_under_trailing zero s k l = absurd (omega arith)
bit_under_trailing (suc n) s k l = go (digit_cases (s % 2) (omega arith)) k l (λ j h. bit_under_trailing n (s / 2) j h)
  where
    go : (s % 2 ≡ 0) ⊎ (s % 2 ≡ 1) → (k : ℕ) → k < under (s % 2) (count_trailing_zeros n (s / 2))
        → ((j : ℕ) → j < count_trailing_zeros n (s / 2) → bit (s / 2) j ≡ 0) → bit s k ≡ 0
    go (inl z) zero h half = bit_first s ∙ z
    go (inl z) (suc j) h half =
        let g : suc j < suc (count_trailing_zeros n (s / 2)) = rw z at h in bit_half s j ∙ half j (omega arith)
    go (inr o) k h half = let g : k < 0 = rw o at h in absurd (omega arith)

-- a number and the one below it have all digits but the lowest in common
pub and_pred : (s k : ℕ) → bit s k ≡ 1 → ((j : ℕ) → j < k → bit s j ≡ 0) → bit_and s (s - 1) ≡ s - 2 ^ k
and_pred s zero e f =
    let odd : s % 2 ≡ 1 = sym (bit_first s) ∙ e in
    let half : bit_and (s / 2) ((s - 1) / 2) ≡ s / 2 = ap (bit_and (s / 2)) (omega arith) ∙ and_self (s / 2) in
    omega (arith, and_step s (s - 1))
and_pred s (suc k) e f =
    let even : s % 2 ≡ 0 = sym (bit_first s) ∙ f 0 (omega arith) in
    let some : 0 < s = omega (arith, bit_le s (suc k) e, pow_mono {i = 0} {j = suc k} (omega arith)) in
    let half : bit_and (s / 2) ((s - 1) / 2) ≡ s / 2 - 2 ^ k
    = ap (bit_and (s / 2)) (omega arith)
    ∙ and_pred (s / 2) k (sym (bit_half s k) ∙ e) (λ j h. sym (bit_half s j) ∙ f (suc j) (omega arith)) in
    omega (arith, and_step s (s - 1), pow-suc 2 k)
