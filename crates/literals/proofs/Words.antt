-- A set held in two words: its digits are those of the words, and each operation goes word by word.
use mathlib.Core.Path.{◌≡◌, sym, ap, ap₂, ◌∙◌}
use mathlib.Core.Bool.{true, not, ◌&&◌, ◌||◌}
use mathlib.Core.Logic.{⊎_elim}
use Prim.Native.Nat.{ℕ, ◌+◌, ◌-◌, ◌*◌, ◌%◌, ◌^◌, ◌<◌}
use native.Mathlib.Nat.{one-mul, zero-add, add-zero}
use native.Mathlib.Decide.{dec_lt}
use native.Mathlib.Omega.{arith}
use lib.Arith.{digits_lt}
use lib.Bits.{bit_and, bit_or, and_block, or_block, and_le_l, and_lt, or_zero_r}
use lib.Dec.{eqb, lit<}
use lib.Pow.{shl_exact, pow-lt, pow-add}
use borrow.Author.Tests.{eqb-true, eq-eqb}
use Rattle.literals.specs.Sets.{has, insert, union, minus, within, meets, clash_below, clash}
use Rattle.literals.specs.declared.LiteralSet.{LiteralSet}
use Rattle.literals.specs.Inside.Words.{joined, set_of}
use Rattle.literals.proofs.Tests.{same_test, and_intro, and_left, and_right, or_left, or_right, or_cases}
use Rattle.literals.proofs.Bits.{bit_low, bit_high}
use Rattle.literals.proofs.Members.{union_empty, insert_union}
use Rattle.literals.proofs.Clashes.{Pair, clash_pair, pair_clash}

-- the digits of the set are those of its words
pub has_joined_low : (h w k : ℕ) → k < 64 → has (joined h w) k ≡ has w k
unfolding has
has_joined_low h w k p = ap (λ (x : ℕ). eqb x 1) (bit_low h w 64 k p)

pub has_joined_high : (h w k : ℕ) → w < 2 ^ 64 → has (joined h w) (64 + k) ≡ has h k
unfolding has
has_joined_high h w k p = ap (λ (x : ℕ). eqb x 1) (bit_high h w 64 k p)

pub joined_below : (h w : ℕ) → h < 2 ^ 64 → w < 2 ^ 64 → joined h w < 2 ^ 128
joined_below h w p q = digits_lt p q

-- `1 << k` in a word, and its digit put into one
pub shifted_one : (k : ℕ) → k < 64 → (1 * 2 ^ k) % 2 ^ 64 ≡ 2 ^ k
shifted_one k l = shl_exact {a = 1} 1 k 64 (omega arith) (omega arith) ∙ one-mul (2 ^ k)

pub shifted_insert : (w k : ℕ) → k < 64 → bit_or w ((1 * 2 ^ k) % 2 ^ 64) ≡ insert w k
shifted_insert w k l = ap (bit_or w) (shifted_one k l) ∙ sym (insert_union w k)

-- the two words a, b and the two words c, d, high word first
module _ (a b c d : ℕ) (hb : b < 2 ^ 64) (hd : d < 2 ^ 64) where
  pub joined_union : joined (union a c) (union b d) ≡ union (joined a b) (joined c d)
  joined_union = sym (or_block 64 a c b d hb hd)

  pub joined_and : joined (bit_and a c) (bit_and b d) ≡ bit_and (joined a b) (joined c d)
  joined_and = sym (and_block 64 a c b d hb hd)

  pub joined_minus : joined (minus a c) (minus b d) ≡ minus (joined a b) (joined c d)
  joined_minus = omega (arith, joined_and, and_le_l a c, and_le_l b d)

  -- both tests on the words, the low one first, are the test on the set
  pub joined_eqb : (eqb b d && eqb a c) ≡ eqb (joined a b) (joined c d)
  joined_eqb =
      same_test (eqb b d && eqb a c) (eqb (joined a b) (joined c d))
      (λ e.
      let p : a ≡ c = eqb-true a c (and_right (eqb b d) (eqb a c) e) in
      let q : b ≡ d = eqb-true b d (and_left (eqb b d) (eqb a c) e) in
      eq-eqb (joined a b) (joined c d) (ap₂ joined p q))
      (λ e.
      let q : joined a b ≡ joined c d = eqb-true (joined a b) (joined c d) e in
      and_intro (eqb b d) (eqb a c) (eq-eqb b d (omega arith)) (eq-eqb a c (omega arith)))

-- two words hold the empty set exactly if both are 0
pub joined_empty : (h w : ℕ) → w < 2 ^ 64 → eqb (bit_or w h) 0 ≡ eqb (joined h w) 0
joined_empty h w l = union_empty w h ∙ joined_eqb h w 0 0 l (lit< tt)

module _ (a b c d : ℕ) (hb : b < 2 ^ 64) (hd : d < 2 ^ 64) where
  low_and : bit_and b d < 2 ^ 64
  low_and = and_lt 64 b d hb hd

  pub joined_within : (within b d && within a c) ≡ within (joined a b) (joined c d)
  joined_within =
      joined_eqb (bit_and a c) (bit_and b d) a b low_and hb
      ∙ ap (λ (x : ℕ). eqb x (joined a b)) (joined_and a b c d hb hd)

  pub joined_meets : not (eqb (bit_or (bit_and b d) (bit_and a c)) 0) ≡ meets (joined a b) (joined c d)
  joined_meets =
      ap not (joined_empty (bit_and a c) (bit_and b d) low_and)
      ∙ ap (λ (x : ℕ). not (eqb x 0)) (joined_and a b c d hb hd)

-- a member goes into the low word, or into the high one
pub joined_insert_low : (h w k : ℕ) → w < 2 ^ 64 → k < 64 → joined h (insert w k) ≡ insert (joined h w) k
joined_insert_low h w k p l =
    ap₂ joined (sym (or_zero_r h)) (insert_union w k) ∙ joined_union h w 0 (2 ^ k) p (pow-lt l)
    ∙ ap (union (joined h w)) (zero-add (2 ^ k)) ∙ sym (insert_union (joined h w) k)

pub joined_insert_high : (h w k : ℕ) → w < 2 ^ 64 → joined (insert h k) w ≡ insert (joined h w) (64 + k)
joined_insert_high h w k p =
    ap₂ joined (insert_union h k) (sym (or_zero_r w)) ∙ joined_union h w (2 ^ k) 0 p (lit< tt)
    ∙ ap (union (joined h w)) (add-zero (2 ^ k * 2 ^ 64) ∙ sym (pow-add 2 k 64) ∙ ap (λ (x : ℕ). 2 ^ x) (omega arith))
    ∙ sym (insert_union (joined h w) (64 + k))

-- a clash is one in either word, since no pair lies across the two
module _ (h w : ℕ) (l : w < 2 ^ 64) where
  at_high : (k j : ℕ) → k ≡ 64 + j → has (joined h w) k ≡ has h j
  at_high k j e = ap (has (joined h w)) e ∙ has_joined_high h w j l

  clash_of_low : Pair 32 w → clash (joined h w) ≡ true
  clash_of_low (a, p, x, y) =
      pair_clash 64 (joined h w) a (omega arith) (has_joined_low h w (2 * a) (omega arith) ∙ x)
      (has_joined_low h w (2 * a + 1) (omega arith) ∙ y)

  clash_of_high : Pair 32 h → clash (joined h w) ≡ true
  clash_of_high (a, p, x, y) =
      pair_clash 64 (joined h w) (32 + a) (omega arith) (at_high (2 * (32 + a)) (2 * a) (omega arith) ∙ x)
      (at_high (2 * (32 + a) + 1) (2 * a + 1) (omega arith) ∙ y)

  word_of_clash : Pair 64 (joined h w) → (clash_below 32 w || clash_below 32 h) ≡ true
  word_of_clash (a, p, x, y) = go (dec_lt a 32)
    where
      go : Dec (a < 32) → (clash_below 32 w || clash_below 32 h) ≡ true
      go (yes q) =
          or_left (clash_below 32 w) (clash_below 32 h)
          (pair_clash 32 w a q (sym (has_joined_low h w (2 * a) (omega arith)) ∙ x)
          (sym (has_joined_low h w (2 * a + 1) (omega arith)) ∙ y))
      go (no n) =
          or_right (clash_below 32 w) (clash_below 32 h)
          (pair_clash 32 h (a - 32) (omega arith) (sym (at_high (2 * a) (2 * (a - 32)) (omega arith)) ∙ x)
          (sym (at_high (2 * a + 1) (2 * (a - 32) + 1) (omega arith)) ∙ y))

  pub joined_clash : clash (joined h w) ≡ (clash_below 32 w || clash_below 32 h)
  joined_clash =
      same_test (clash (joined h w)) (clash_below 32 w || clash_below 32 h) (λ e. word_of_clash (clash_pair 64 (joined h w) e))
      (λ e.
      ⊎_elim (λ q. clash_of_low (clash_pair 32 w q)) (λ q. clash_of_high (clash_pair 32 h q))
      (or_cases (clash_below 32 w) (clash_below 32 h) e))

-- whether two sets are equal as pairs of words is whether they are equal
pub same_set : (s t : LiteralSet) → s.lo < 2 ^ 64 → t.lo < 2 ^ 64 → (eqb s.lo t.lo && eqb s.hi t.hi) ≡ eqb (set_of s) (set_of t)
unfolding set_of
same_set s t p q = joined_eqb s.hi s.lo t.hi t.lo p q
