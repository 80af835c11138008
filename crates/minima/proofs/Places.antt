-- Places in a word: a shift moves each of them up, and takes a bit away from the one that has it.
use mathlib.Core.Path.{◌≡◌, refl, sym, ap, ap₂, ◌∙◌}
use mathlib.Core.Bool.{Bool, true, false, not, ◌&&◌, ◌||◌, false≢true}
use Prim.Native.Nat.{ℕ, ◌+◌, ◌-◌, ◌*◌, ◌/◌, ◌%◌, ◌^◌, ◌<◌, ◌≤◌}
use native.Mathlib.Decide.{dec_lt}
use native.Mathlib.Nat.{add-zero}
use native.Mathlib.Numerals.{add-one}
use native.Mathlib.Omega.{arith}
use lib.Bits.{bit_or}
use lib.Dec.{eqb}
use lib.Pow.{split, pow_pos}
use borrow.Author.Tests.{eq-eqb}
use Rattle.lists.specs.Lists.{choose}
use Rattle.literals.specs.Sets.{has, insert, minus}
use Rattle.literals.proofs.Tests.{same_test, and_intro, and_left, and_right, not_true_false}
use Rattle.literals.proofs.Bits.{bit_low, bit_high, bit_le}
use Rattle.literals.proofs.Members.{has_bit, has_empty, has_minus, minus_power, has_minus_power, has_insert_same, has_union}
use Rattle.rows.specs.declared.TheConstants.{PLACES}
use Rattle.rows.proofs.Patterns.{place_at}
use Rattle.minima.specs.Steps.{Lowered, less_below}
use lib.ListN.{get_or}

has_low : (h w n k : ℕ) → k < n → has (h * 2 ^ n + w) k ≡ has w k
unfolding has
has_low h w n k p = ap (λ (x : ℕ). eqb x 1) (bit_low h w n k p)

has_high : (h w n k : ℕ) → w < 2 ^ n → has (h * 2 ^ n + w) (n + k) ≡ has h k
unfolding has
has_high h w n k p = ap (λ (x : ℕ). eqb x 1) (bit_high h w n k p)

-- the digits of a word that is cut at 64
has_word : (s k : ℕ) → k < 64 → has (s % 2 ^ 64) k ≡ has s k
has_word s k h = sym (has_low (s / 2 ^ 64) (s % 2 ^ 64) 64 k h) ∙ ap (λ (x : ℕ). has x k) (split s 64)

shifted_low : (y n k : ℕ) → k < n → has (y * 2 ^ n) k ≡ false
shifted_low y n k h = ap (λ (x : ℕ). has x k) (sym (add-zero (y * 2 ^ n))) ∙ has_low y 0 n k h ∙ has_empty k

shifted_high : (y n k : ℕ) → has (y * 2 ^ n) (n + k) ≡ has y k
shifted_high y n k = ap (λ (x : ℕ). has x (n + k)) (sym (add-zero (y * 2 ^ n))) ∙ has_high y 0 n k (pow_pos n)

-- a place without a bit that it has, and one that gets a bit that it has not
less_power : (k b : ℕ) → has k b ≡ true → (minus k (2 ^ b) ≡ k - 2 ^ b) × (2 ^ b ≤ k)
less_power k b e = (minus_power k b e, bit_le k b (has_bit k b e))

less_lacks : (k b : ℕ) → has (minus k (2 ^ b)) b ≡ false
less_lacks k b =
    not_true_false (has (minus k (2 ^ b)) b) (λ e.
    let t : not (eqb b b) ≡ true = and_right (has k b) (not (eqb b b)) (sym (has_minus_power k b b) ∙ e) in
    false≢true (sym (ap not (eq-eqb b b refl)) ∙ t))

gets_bit : (j b : ℕ) → has j b ≡ false → has (j + 2 ^ b) b ≡ true
unfolding insert
gets_bit j b e = ap (λ (x : ℕ). has x b) (sym (ap (λ (t : Bool). choose t j (j + 2 ^ b)) e)) ∙ has_insert_same j b

module _ (x b : ℕ) (few : b < 6) where
  abbrev pattern : ℕ
  pattern = get_or PLACES b 0

  pattern_is : (k : ℕ) → k < 64 → has pattern k ≡ has k b
  pattern_is k h = place_at b k few h

  abbrev rest : ℕ
  rest = minus x pattern

  pub lowers : Lowered x b ((minus x (get_or PLACES b 0) * 2 ^ (2 ^ b)) % 2 ^ 64)
  lowers k h =
      has_word (rest * 2 ^ (2 ^ b)) k h
      ∙ same_test (has (rest * 2 ^ (2 ^ b)) k) (has k b && has x (minus k (2 ^ b))) (λ e. to e (dec_lt k (2 ^ b))) from
    where
      to : has (rest * 2 ^ (2 ^ b)) k ≡ true → Dec (k < 2 ^ b) → (has k b && has x (minus k (2 ^ b))) ≡ true
      to e (yes q) = absurd (false≢true (sym (shifted_low rest (2 ^ b) k q) ∙ e))
      to e (no q) =
          let j : ℕ = k - 2 ^ b in
          let up : 2 ^ b + (k - 2 ^ b) ≡ k = omega arith in
          let back : (k - 2 ^ b) + 2 ^ b ≡ k = omega arith in
          let both : (has x (k - 2 ^ b) && not (has pattern (k - 2 ^ b))) ≡ true
          = sym (has_minus x pattern (k - 2 ^ b)) ∙ sym (shifted_high rest (2 ^ b) (k - 2 ^ b))
          ∙ ap (has (rest * 2 ^ (2 ^ b))) up ∙ e in
          let lacks : has (k - 2 ^ b) b ≡ false
          = sym (pattern_is (k - 2 ^ b) (omega arith)) ∙ off (has pattern (k - 2 ^ b)) (and_right (has x (k - 2 ^ b)) (not (has pattern (k - 2 ^ b))) both) in
          let there : has k b ≡ true = ap (λ (y : ℕ). has y b) (sym back) ∙ gets_bit (k - 2 ^ b) b lacks in
          and_intro (has k b) (has x (minus k (2 ^ b))) there
          (ap (has x) (minus_power k b there) ∙ and_left (has x (k - 2 ^ b)) (not (has pattern (k - 2 ^ b))) both)
        where
          off : (t : Bool) → not t ≡ true → t ≡ false
          off true z = absurd (false≢true z)
          off false z = refl

      from : (has k b && has x (minus k (2 ^ b))) ≡ true → has (rest * 2 ^ (2 ^ b)) k ≡ true
      from e =
          let there : has k b ≡ true = and_left (has k b) (has x (minus k (2 ^ b))) e in
          let set : has x (minus k (2 ^ b)) ≡ true = and_right (has k b) (has x (minus k (2 ^ b))) e in
          let power = less_power k b there in
          let up : 2 ^ b + minus k (2 ^ b) ≡ k = omega (arith, power.0, power.1) in
          let small : minus k (2 ^ b) < 64 = omega (arith, power.0) in
          ap (has (rest * 2 ^ (2 ^ b))) (sym up) ∙ shifted_high rest (2 ^ b) (minus k (2 ^ b)) ∙ has_minus x pattern (minus k (2 ^ b))
          ∙ and_intro (has x (minus k (2 ^ b))) (not (has pattern (minus k (2 ^ b)))) set
          (ap not (pattern_is (minus k (2 ^ b)) small ∙ less_lacks k b))

-- one bit more
pub less_more : (x b low y : ℕ) → Lowered x b low → ((k : ℕ) → k < 64 → has y k ≡ less_below x k b)
    → (k : ℕ) → k < 64 → has (bit_or low y) k ≡ less_below x k (b + 1)
unfolding less_below
less_more x b low y lowered before k h =
    has_union low y k ∙ ap₂ ◌||◌ (lowered k h) (before k h) ∙ ap (less_below x k) (sym (add-one b))
