-- What the members of each set are.
use mathlib.Core.Path.{◌≡◌, refl, sym, ap, ◌∙◌, subst}
use mathlib.Core.Bool.{Bool, true, false, not, ◌&&◌, ◌||◌, false≢true}
use mathlib.Core.Logic.{◌⊎◌, inl, inr, ⊎_elim}
use Prim.Native.Nat.{ℕ, zero, suc, ◌+◌, ◌-◌, ◌*◌, ◌/◌, ◌^◌, ◌<◌, min, max}
use native.Mathlib.Nat.{one-mul, zero-mul}
use native.Mathlib.Omega.{arith}
use lib.Dec.{eqb}
use lib.Pow.{pow-lt, pow_pos}
use lib.Bits.{bit_and, or_add_and, or_lt, and_le_l, and_le_r}
use borrow.Author.Tests.{eqb-true, eqb-false, eq-eqb, ne_eqb}
use Rattle.lists.specs.Lists.{choose}
use Rattle.literals.specs.Sets.{bit, has, insert, union, minus}
use Rattle.literals.proofs.Tests.{same_test, and_intro, and_left, and_right, or_right, or_cases}
use Rattle.literals.proofs.Bits.{bit_below, bit_cases, bit_half, bit_empty, bit_and_lem, bit_or_lem, bit_minus, bit_power_same, bit_power_only}
use Rattle.literals.proofs.Bits.{bit_bound, bits_below, bit_le, bit_some, bit_ext, and_power}

-- membership and the digit
pub has_bit : (s k : ℕ) → has s k ≡ true → bit s k ≡ 1
unfolding has
has_bit s k e = eqb-true (bit s k) 1 e

pub bit_has : (s k : ℕ) → bit s k ≡ 1 → has s k ≡ true
unfolding has
bit_has s k e = eq-eqb (bit s k) 1 e

pub lacks_bit : (s k : ℕ) → has s k ≡ false → bit s k ≡ 0
unfolding has
lacks_bit s k e = ⊎_elim (λ z. z) (λ o. absurd (eqb-false (bit s k) 1 e o)) (bit_cases s k)

pub bit_lacks : (s k : ℕ) → bit s k ≡ 0 → has s k ≡ false
unfolding has
bit_lacks s k e = ap (λ (x : ℕ). eqb x 1) e

pub has_cases : (s k : ℕ) → (has s k ≡ true) ⊎ (has s k ≡ false)
has_cases s k = ⊎_elim (λ z. inr (bit_lacks s k z)) (λ o. inl (bit_has s k o)) (bit_cases s k)

-- sets with the same members are equal
pub has_ext : (a b : ℕ) → ((k : ℕ) → has a k ≡ has b k) → a ≡ b
has_ext a b h =
    bit_ext a b (λ k.
    ⊎_elim (λ z. z ∙ sym (lacks_bit b k (sym (h k) ∙ bit_lacks a k z)))
    (λ o. o ∙ sym (has_bit b k (sym (h k) ∙ bit_has a k o))) (bit_cases a k))

-- a set below 2 ^ n has its members below n, and only such a set has
pub has_bound : (s n k : ℕ) → s < 2 ^ n → has s k ≡ true → k < n
has_bound s n k l e = bit_bound s n k l (has_bit s k e)

pub members_below : (n s : ℕ) → ((k : ℕ) → has s k ≡ true → k < n) → s < 2 ^ n
members_below n s h = bits_below n s (λ k e. h k (bit_has s k e))

pub has_empty : (k : ℕ) → has 0 k ≡ false
has_empty k = bit_lacks 0 k (bit_empty k)

-- a set is not empty exactly if it has a member
pub has_some : (s : ℕ) → (s ≡ 0 → ⊥) → (k : ℕ) × (has s k ≡ true)
has_some s n = let r = bit_some s n in (r.0, bit_has s r.0 r.1)

pub has_not_empty : (s k : ℕ) → has s k ≡ true → s ≡ 0 → ⊥
has_not_empty s k e z = false≢true (sym (has_empty k) ∙ ap (λ (x : ℕ). has x k) (sym z) ∙ e)

pub has_half : (s k : ℕ) → has (s / 2) k ≡ has s (suc k)
unfolding has
has_half s k = ap (λ (x : ℕ). eqb x 1) (sym (bit_half s k))

pub has_power : (j k : ℕ) → has (2 ^ j) k ≡ eqb k j
has_power j k =
    same_test (has (2 ^ j) k) (eqb k j) (λ e. eq-eqb k j (bit_power_only j k (has_bit (2 ^ j) k e)))
    (λ e. bit_has (2 ^ j) k (ap (bit (2 ^ j)) (eqb-true k j e) ∙ bit_power_same j))

-- an operation on two digits is one on the two tests, if it is so at each of the four pairs of digits
by_digits : (f : ℕ → ℕ → ℕ) (g : Bool → Bool → Bool)
    → eqb (f 0 0) 1 ≡ g false false → eqb (f 0 1) 1 ≡ g false true → eqb (f 1 0) 1 ≡ g true false → eqb (f 1 1) 1 ≡ g true true
    → (x y : ℕ) → x < 2 → y < 2 → eqb (f x y) 1 ≡ g (eqb x 1) (eqb y 1)
by_digits f g p q r t zero zero h l = p
by_digits f g p q r t zero (suc zero) h l = q
by_digits f g p q r t zero (suc (suc y)) h l = absurd (omega arith)
by_digits f g p q r t (suc zero) zero h l = r
by_digits f g p q r t (suc zero) (suc zero) h l = t
by_digits f g p q r t (suc zero) (suc (suc y)) h l = absurd (omega arith)
by_digits f g p q r t (suc (suc x)) y h l = absurd (omega arith)

pub has_and : (a b k : ℕ) → has (bit_and a b) k ≡ (has a k && has b k)
unfolding has
has_and a b k =
    ap (λ (x : ℕ). eqb x 1) (bit_and_lem a b k)
    ∙ by_digits min ◌&&◌ refl refl refl refl (bit a k) (bit b k) (bit_below a k) (bit_below b k)

pub has_union : (a b k : ℕ) → has (union a b) k ≡ (has a k || has b k)
unfolding has
has_union a b k =
    ap (λ (x : ℕ). eqb x 1) (bit_or_lem a b k)
    ∙ by_digits max ◌||◌ refl refl refl refl (bit a k) (bit b k) (bit_below a k) (bit_below b k)

pub union_empty : (a b : ℕ) → eqb (union a b) 0 ≡ (eqb a 0 && eqb b 0)
union_empty a b =
    same_test (eqb (union a b) 0) (eqb a 0 && eqb b 0)
    (λ e.
    let z : union a b ≡ 0 = eqb-true (union a b) 0 e in
    and_intro (eqb a 0) (eqb b 0) (eq-eqb a 0 (omega (arith, or_add_and a b, and_le_r a b)))
    (eq-eqb b 0 (omega (arith, or_add_and a b, and_le_l a b))))
    (λ e.
    let p : a ≡ 0 = eqb-true a 0 (and_left (eqb a 0) (eqb b 0) e) in
    let q : b ≡ 0 = eqb-true b 0 (and_right (eqb a 0) (eqb b 0) e) in
    eq-eqb (union a b) 0 (omega (arith, or_add_and a b)))

pub has_minus : (a b k : ℕ) → has (minus a b) k ≡ (has a k && not (has b k))
unfolding has
has_minus a b k =
    ap (λ (x : ℕ). eqb x 1) (bit_minus a b k)
    ∙ by_digits ◌-◌ (λ (x y : Bool). x && not y) refl refl refl refl (bit a k) (bit b k) (bit_below a k) (bit_below b k)

-- insert is a union, and a member is taken away by subtraction
pub insert_union : (s k : ℕ) → insert s k ≡ union s (2 ^ k)
unfolding insert
insert_union s k = ⊎_elim in_it not_in_it (has_cases s k)
  where
    in_it : has s k ≡ true → choose (has s k) s (s + 2 ^ k) ≡ union s (2 ^ k)
    in_it e =
        let one : bit_and s (2 ^ k) ≡ 2 ^ k = and_power s k ∙ ap (λ (x : ℕ). x * 2 ^ k) (has_bit s k e) ∙ one-mul (2 ^ k) in
        ap (λ (t : Bool). choose t s (s + 2 ^ k)) e ∙ omega (arith, or_add_and s (2 ^ k))

    not_in_it : has s k ≡ false → choose (has s k) s (s + 2 ^ k) ≡ union s (2 ^ k)
    not_in_it e =
        let none : bit_and s (2 ^ k) ≡ 0 = and_power s k ∙ ap (λ (x : ℕ). x * 2 ^ k) (lacks_bit s k e) ∙ zero-mul (2 ^ k) in
        ap (λ (t : Bool). choose t s (s + 2 ^ k)) e ∙ omega (arith, or_add_and s (2 ^ k))

pub insert_present : (s k : ℕ) → has s k ≡ true → insert s k ≡ s
unfolding insert
insert_present s k e = ap (λ (t : Bool). choose t s (s + 2 ^ k)) e

pub minus_power : (s k : ℕ) → has s k ≡ true → minus s (2 ^ k) ≡ s - 2 ^ k
minus_power s k e =
    ap (λ (x : ℕ). s - x) (and_power s k ∙ ap (λ (x : ℕ). x * 2 ^ k) (has_bit s k e) ∙ one-mul (2 ^ k))

pub minus_less : (s k : ℕ) → has s k ≡ true → minus s (2 ^ k) < s
minus_less s k e = omega (arith, minus_power s k e, bit_le s k (has_bit s k e), pow_pos k)

pub has_minus_power : (s j k : ℕ) → has (minus s (2 ^ j)) k ≡ (has s k && not (eqb k j))
has_minus_power s j k = has_minus s (2 ^ j) k ∙ ap (λ (t : Bool). has s k && not t) (has_power j k)

pub has_insert : (s j k : ℕ) → has (insert s j) k ≡ (has s k || eqb k j)
has_insert s j k =
    ap (λ (x : ℕ). has x k) (insert_union s j) ∙ has_union s (2 ^ j) k ∙ ap (λ (t : Bool). has s k || t) (has_power j k)

pub has_insert_same : (s k : ℕ) → has (insert s k) k ≡ true
has_insert_same s k = has_insert s k k ∙ or_right (has s k) (eqb k k) (eq-eqb k k refl)

pub has_insert_other : (s j k : ℕ) → (k ≡ j → ⊥) → has (insert s j) k ≡ has s k
has_insert_other s j k n = has_insert s j k ∙ ap (λ (t : Bool). has s k || t) (ne_eqb k j n) ∙ or_false (has s k)
  where
    or_false : (t : Bool) → (t || false) ≡ t
    or_false true = refl
    or_false false = refl

pub insert_cases : (s j k : ℕ) → has (insert s j) k ≡ true → (has s k ≡ true) ⊎ (k ≡ j)
insert_cases s j k e =
    ⊎_elim (λ p. inl p) (λ p. inr (eqb-true k j p)) (or_cases (has s k) (eqb k j) (sym (has_insert s j k) ∙ e))

pub insert_keeps : (s j k : ℕ) → has s k ≡ true → has (insert s j) k ≡ true
insert_keeps s j k e = has_insert s j k ∙ ap (λ (t : Bool). t || eqb k j) e

pub insert_below : (n s k : ℕ) → s < 2 ^ n → k < n → insert s k < 2 ^ n
insert_below n s k l h = subst (λ (x : ℕ). x < 2 ^ n) (sym (insert_union s k)) (or_lt n s (2 ^ k) l (pow-lt h))
