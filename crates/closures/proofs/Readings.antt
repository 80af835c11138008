-- What is read off the rows: a word of a row cut down to what bears on it, and the row's minimal masks.
use mathlib.Core.Path.{◌≡◌, sym, ap, ap₂, ◌∙◌}
use mathlib.Core.Bool.{true}
use mathlib.Core.List.{List}
use Prim.Native.Nat.{ℕ, ◌+◌, ◌*◌, ◌/◌, ◌%◌, ◌^◌, ◌<◌}
use native.Mathlib.Omega.{arith}
use lib.Bits.{bit_and, and_le_r}
use lib.ListN.{length, get_or}
use borrow.Author.Tests.{eqb-true}
use Rattle.literals.specs.Sets.{has, minus, within}
use Rattle.literals.proofs.Within.{within_each, each_within, within_refl, minus_within}
use Rattle.rows.proofs.Patterns.{has_block}
use Rattle.minima.specs.Minima.{row_by, Minimal, Minima}
use Rattle.closures.specs.Inside.Table.{begins_at, keeps_at, word_at, Laid}

-- the number of a mask's word has the bits of the mask above the lowest six
pub has_word : (m c : ℕ) → has m (6 + c) ≡ has (m / 64) c
has_word m c =
    let e : m ≡ 64 * (m / 64) + m % 64 = omega arith in
    ap (λ (x : ℕ). has x (6 + c)) e ∙ has_block (m / 64) (m % 64) c (omega arith)

pub word_within : (n m : ℕ) → within n m ≡ true → within (n / 64) (m / 64) ≡ true
word_within n m i = each_within (n / 64) (m / 64) (λ c e. sym (has_word m c) ∙ within_each n m i (6 + c) (has_word n c ∙ e))

-- the word that is read is in the table
pub word_inside : (t : List ℕ) (l w : ℕ) → Laid t → l < 129 → begins_at t l + bit_and w (keeps_at t l) < length t
word_inside t l w laid h = omega (arith, laid.inside l h, and_le_r w (keeps_at t l))

-- a place in a word is a mask
pub row_at : (f : ℕ → ℕ) (w k : ℕ) → k < 64 → row_by f (64 * w + k) ≡ has (f w) k
row_at f w k h =
    let word : (64 * w + k) / 64 ≡ w = omega arith in
    let place : (64 * w + k) % 64 ≡ k = omega arith in
    ap₂ (λ (x y : ℕ). has (f x) y) word place

-- what is minimal among masks hangs on the words of their numbers only
minimal_same : (f g : ℕ → ℕ) (m : ℕ) → ((j : ℕ) → within j (m / 64) ≡ true → f j ≡ g j) → Minimal f m → Minimal g m
minimal_same f g m same least = record {
  set_at = ap (λ (x : ℕ). has x (m % 64)) (sym (same (m / 64) (within_refl (m / 64)))) ∙ least.set_at;
  none_less_lem = λ b h.
      ap (λ (x : ℕ). has x (minus m (2 ^ b) % 64)) (sym (same (minus m (2 ^ b) / 64) (word_within (minus m (2 ^ b)) m (minus_within m (2 ^ b)))))
      ∙ least.none_less_lem b h;
}

pub minima_same : (f g : ℕ → ℕ) (w x : ℕ) → ((j : ℕ) → within j w ≡ true → f j ≡ g j) → Minima f w x → Minima g w x
minima_same f g w x same minima = record {
  says = λ k h e. minimal_same f g (64 * w + k) (λ j i. same j (here k j h i)) (minima.says k h e);
  passes = λ k h least. minima.passes k h (minimal_same g f (64 * w + k) (λ j i. sym (same j (here k j h i))) least);
}
  where
    here : (k j : ℕ) → k < 64 → within j ((64 * w + k) / 64) ≡ true → within j w ≡ true
    here k j h i =
        let word : (64 * w + k) / 64 ≡ w = omega arith in
        ap (within j) (sym word) ∙ i

-- a word whose number is within what the row keeps stands at that number
pub minima_kept : (t : List ℕ) (l w x : ℕ) → within w (keeps_at t l) ≡ true
    → Minima (λ j. get_or t (begins_at t l + j) 0) w x → Minima (word_at t l) w x
minima_kept t l w x kept =
    minima_same (λ j. get_or t (begins_at t l + j) 0) (word_at t l) w x (λ j i.
    ap (λ (n : ℕ). get_or t (begins_at t l + n) 0)
    (sym (eqb-true (bit_and j (keeps_at t l)) j (each_within j (keeps_at t l) (λ k e. within_each w (keeps_at t l) kept k (within_each j w i k e))))))
