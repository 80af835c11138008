-- Sets within sets, sets that meet, and how many members a set has.
use mathlib.Core.Path.{◌≡◌, refl, sym, ap, ◌∙◌}
use mathlib.Core.Bool.{Bool, true, false, not, ◌&&◌, false≢true}
use mathlib.Core.Logic.{◌⊎◌, inl, inr, ⊎_elim}
use Prim.Native.Nat.{ℕ, suc, ◌/◌, ◌%◌, ◌^◌, ◌<◌, ◌≤◌}
use native.Mathlib.Nat.{eq-or-lt_of_le}
use native.Mathlib.Omega.{arith}
use lib.Arith.{bin_ind}
use lib.Bits.{bit_and, and_comm, and_le_r}
use lib.Count.{ones, ones_in, ones_step}
use lib.Dec.{eqb}
use borrow.Author.Tests.{eqb-true, eqb-false, eq-eqb, ne_eqb, not-true}
use Rattle.literals.specs.Sets.{bit, has, insert, union, minus, within, meets}
use Rattle.literals.proofs.Tests.{and_intro, and_left, and_right, or_left, or_right, or_cases}
use Rattle.literals.proofs.Bits.{bit_first, bit_half, bit_and_lem, digit_cases}
use Rattle.literals.proofs.Members.{has_ext, has_some, has_not_empty, has_empty, has_minus_power, has_and, has_union, has_minus, insert_cases, insert_keeps}

-- a is within b exactly if each member of a is one of b
pub within_each : (a b : ℕ) → within a b ≡ true → (k : ℕ) → has a k ≡ true → has b k ≡ true
within_each a b w k e =
    and_right (has a k) (has b k) (sym (has_and a b k) ∙ ap (λ (x : ℕ). has x k) (eqb-true (bit_and a b) a w) ∙ e)

pub each_within : (a b : ℕ) → ((k : ℕ) → has a k ≡ true → has b k ≡ true) → within a b ≡ true
each_within a b h =
    eq-eqb (bit_and a b) a (has_ext (bit_and a b) a (λ k. has_and a b k ∙ absorb (has a k) (has b k) (h k)))
  where
    absorb : (x y : Bool) → (x ≡ true → y ≡ true) → (x && y) ≡ x
    absorb true y f = f refl
    absorb false y f = refl

pub within_refl : (a : ℕ) → within a a ≡ true
within_refl a = each_within a a (λ k e. e)

pub within_trans : (a b c : ℕ) → within a b ≡ true → within b c ≡ true → within a c ≡ true
within_trans a b c v w = each_within a c (λ k e. within_each b c w k (within_each a b v k e))

pub within_antisym : (a b : ℕ) → within a b ≡ true → within b a ≡ true → a ≡ b
within_antisym a b v w = sym (eqb-true (bit_and a b) a v) ∙ and_comm a b ∙ eqb-true (bit_and b a) b w

-- a set is a number at most that of a set that it is within
pub within_le : (a b : ℕ) → within a b ≡ true → a ≤ b
within_le a b w = omega (arith, eqb-true (bit_and a b) a w, and_le_r a b)

pub within_empty : (b : ℕ) → within 0 b ≡ true
within_empty b = each_within 0 b (λ k e. absurd (false≢true (sym (has_empty k) ∙ e)))

pub within_union_left : (a b : ℕ) → within a (union a b) ≡ true
within_union_left a b = each_within a (union a b) (λ k e. has_union a b k ∙ or_left (has a k) (has b k) e)

pub within_union_right : (a b : ℕ) → within b (union a b) ≡ true
within_union_right a b = each_within b (union a b) (λ k e. has_union a b k ∙ or_right (has a k) (has b k) e)

pub union_within : (a b c : ℕ) → within a c ≡ true → within b c ≡ true → within (union a b) c ≡ true
union_within a b c v w =
    each_within (union a b) c (λ k e.
    ⊎_elim (within_each a c v k) (within_each b c w k) (or_cases (has a k) (has b k) (sym (has_union a b k) ∙ e)))

pub within_insert : (s k : ℕ) → within s (insert s k) ≡ true
within_insert s k = each_within s (insert s k) (insert_keeps s k)

pub insert_within : (s k c : ℕ) → within s c ≡ true → has c k ≡ true → within (insert s k) c ≡ true
insert_within s k c w h =
    each_within (insert s k) c (λ j e.
    ⊎_elim (within_each s c w j) (λ q. ap (has c) q ∙ h) (insert_cases s k j e))

pub minus_within : (a b : ℕ) → within (minus a b) a ≡ true
minus_within a b =
    each_within (minus a b) a (λ k e. and_left (has a k) (not (has b k)) (sym (has_minus a b k) ∙ e))

-- a set within b that lacks k is within b without k
pub within_without : (a b k : ℕ) → within a b ≡ true → has a k ≡ false → within a (minus b (2 ^ k)) ≡ true
within_without a b k w n =
    each_within a (minus b (2 ^ k)) (λ j e.
    has_minus_power b k j
    ∙ and_intro (has b j) (not (eqb j k)) (within_each a b w j e)
    (ap not (ne_eqb j k (λ q. false≢true (sym n ∙ ap (has a) (sym q) ∙ e)))))

-- a set within another and not that set lacks some member of it
pub within_lacks : (a b : ℕ) → within a b ≡ true → (a ≡ b → ⊥) → (k : ℕ) × (has b k ≡ true) × (has a k ≡ false)
within_lacks a b w n =
    found (has_some (minus b a) (λ z. n (omega (arith, and_comm a b, eqb-true (bit_and a b) a w, and_le_r a b))))
  where
    found : (k : ℕ) × (has (minus b a) k ≡ true) → (k : ℕ) × (has b k ≡ true) × (has a k ≡ false)
    found (k, e) =
        let both : (has b k && not (has a k)) ≡ true = sym (has_minus b a k) ∙ e in
        (k, and_left (has b k) (not (has a k)) both, not-true (has a k) (and_right (has b k) (not (has a k)) both))

-- and has fewer members
ones_pos : (b : ℕ) → (0 ≡ b) ⊎ (ones 0 < ones b)
unfolding ones ones_in
ones_pos =
    bin_ind (λ (b : ℕ). (0 ≡ b) ⊎ (ones 0 < ones b)) (inl refl)
    (λ b half.
    ⊎_elim
    (λ z. ⊎_elim (λ y. inl (omega arith)) (λ y. inr (omega (arith, ones_step b))) (digit_cases (b % 2) (omega arith)))
    (λ l. inr (omega (arith, ones_step b))) half)

ones_by_bits : (a b : ℕ) → ((k : ℕ) → bit a k ≤ bit b k) → (a ≡ b) ⊎ (ones a < ones b)
ones_by_bits =
    bin_ind (λ (a : ℕ). (b : ℕ) → ((k : ℕ) → bit a k ≤ bit b k) → (a ≡ b) ⊎ (ones a < ones b)) (λ b h. ones_pos b)
    (λ a half b h.
    let low : a % 2 ≤ b % 2 = omega (arith, bit_first a, bit_first b, h 0) in
    ⊎_elim
    (λ e.
    ⊎_elim (λ q. inl (omega arith)) (λ q. inr (omega (arith, ones_step a, ones_step b, ap ones e))) (eq-or-lt_of_le low))
    (λ l. inr (omega (arith, ones_step a, ones_step b)))
    (half (b / 2) (λ k. omega (arith, bit_half a k, bit_half b k, h (suc k)))))

pub ones_more : (a b : ℕ) → within a b ≡ true → (a ≡ b → ⊥) → ones a < ones b
ones_more a b w n =
    ⊎_elim (λ e. absurd (n e)) (λ l. l)
    (ones_by_bits a b (λ k. omega (arith, bit_and_lem a b k, ap (λ (x : ℕ). bit x k) (eqb-true (bit_and a b) a w))))

-- two sets meet exactly if some number is in both
pub meets_both : (a b : ℕ) → meets a b ≡ true → (k : ℕ) × (has a k ≡ true) × (has b k ≡ true)
meets_both a b e = found (has_some (bit_and a b) (eqb-false (bit_and a b) 0 (not-true (eqb (bit_and a b) 0) e)))
  where
    found : (k : ℕ) × (has (bit_and a b) k ≡ true) → (k : ℕ) × (has a k ≡ true) × (has b k ≡ true)
    found (k, h) =
        let both : (has a k && has b k) ≡ true = sym (has_and a b k) ∙ h in
        (k, and_left (has a k) (has b k) both, and_right (has a k) (has b k) both)

pub both_meets : (a b k : ℕ) → has a k ≡ true → has b k ≡ true → meets a b ≡ true
both_meets a b k p q =
    ap not (ne_eqb (bit_and a b) 0 (has_not_empty (bit_and a b) k (has_and a b k ∙ and_intro (has a k) (has b k) p q)))
