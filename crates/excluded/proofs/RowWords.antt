-- The two words of a row, one bit at a time, and what a store leaves in them.
use mathlib.Core.Path.{◌≡◌, refl, sym, ap, ap₂, ◌∙◌, subst}
use mathlib.Core.List.{List}
use Prim.Native.Nat.{ℕ, zero, suc, ◌+◌, ◌*◌, ◌/◌, ◌%◌, ◌^◌, ◌<◌}
use native.Mathlib.Decide.{dec_lt}
use native.Mathlib.Omega.{arith}
use lib.Bits.{bit_and}
use lib.ListN.{length, get_or, set, replicate, length-set}
use lib.Seq.{get_or-set_same, get_or-set_other}
use Rattle.literals.specs.Sets.{has}
use Rattle.literals.specs.Inside.Words.{joined}
use Rattle.literals.proofs.Words.{has_joined_low, has_joined_high, joined_below}
use Rattle.rows.specs.Layout.{row_has}
use Rattle.excluded.specs.Inside.Rows.{reaches, Read, low, high}

pub reaches_joined : (c : List ℕ) (l x : ℕ) → x < 128 → low c l < 2 ^ 64 → has (joined (high c l) (low c l)) x ≡ reaches c l x
reaches_joined c l x small fits = go (dec_lt x 64)
  where
    go : Dec (x < 64) → has (joined (high c l) (low c l)) x ≡ reaches c l x
    go (yes h) =
        let place : 2 * l ≡ 2 * l + x / 64 = omega arith in
        let bit : x ≡ x % 64 = omega arith in
        has_joined_low (high c l) (low c l) x h ∙ ap₂ (λ (n k : ℕ). has (get_or c n 0) k) place bit
    go (no h) =
        let place : 2 * l + 1 ≡ 2 * l + x / 64 = omega arith in
        let whole : x ≡ 64 + x % 64 = omega arith in
        ap (has (joined (high c l) (low c l))) whole ∙ has_joined_high (high c l) (low c l) (x % 64) fits
        ∙ ap (λ (n : ℕ). has (get_or c n 0) (x % 64)) place

-- a row whose words are those of a set
pub row_reaches : (c : List ℕ) (l s x : ℕ) → x < 128 → low c l < 2 ^ 64 → joined (high c l) (low c l) ≡ s → reaches c l x ≡ has s x
row_reaches c l s x small fits e = sym (reaches_joined c l x small fits) ∙ ap (λ (z : ℕ). has z x) e

-- a row that is read
pub row_read : (c : List ℕ) (l s : ℕ) → low c l < 2 ^ 64 → high c l < 2 ^ 64 → s ≡ joined (high c l) (low c l) → Read c l s
row_read c l s fits above e = record {
  bits = λ x small. ap (λ (z : ℕ). has z x) e ∙ reaches_joined c l x small fits;
  below = subst (λ (z : ℕ). z < 2 ^ 128) (sym e) (joined_below (high c l) (low c l) above fits);
}

-- a row with the same words
pub row_same : (c d : List ℕ) (l x : ℕ) → x < 128 → (low d l ≡ low c l) × (high d l ≡ high c l) → reaches d l x ≡ reaches c l x
row_same c d l x small (e, f) = go (dec_lt x 64)
  where
    go : Dec (x < 64) → reaches d l x ≡ reaches c l x
    go (yes h) =
        let place : 2 * l + x / 64 ≡ 2 * l = omega arith in
        subst (λ (n : ℕ). has (get_or d n 0) (x % 64) ≡ has (get_or c n 0) (x % 64)) (sym place) (ap (λ (z : ℕ). has z (x % 64)) e)
    go (no h) =
        let place : 2 * l + x / 64 ≡ 2 * l + 1 = omega arith in
        subst (λ (n : ℕ). has (get_or d n 0) (x % 64) ≡ has (get_or c n 0) (x % 64)) (sym place) (ap (λ (z : ℕ). has z (x % 64)) f)

-- a row of the leaf, where it keeps one bit and begins at the double of its number
pub row_bit : (keep base c : List ℕ) (l x : ℕ) → x < 128 → get_or keep l 0 ≡ 1 → get_or base l 0 ≡ 2 * l → row_has keep base c l x ≡ reaches c l x
row_bit keep base c l x small kept based =
    ap₂ (λ (b k : ℕ). has (get_or c (b + bit_and (x / 64) k) 0) (x % 64)) based kept
    ∙ ap (λ (n : ℕ). has (get_or c (2 * l + n) 0) (x % 64)) (cut (x / 64) (omega arith))
  where
    zero_cut : bit_and 0 1 ≡ 0
    zero_cut = refl

    one_cut : bit_and 1 1 ≡ 1
    one_cut = refl

    cut : (w : ℕ) → w < 2 → bit_and w 1 ≡ w
    cut w h = go (dec_lt w 1)
      where
        go : Dec (w < 1) → bit_and w 1 ≡ w
        go (yes q) = let e : w ≡ 0 = omega arith in subst (λ (n : ℕ). bit_and n 1 ≡ n) (sym e) zero_cut
        go (no q) = let e : w ≡ 1 = omega arith in subst (λ (n : ℕ). bit_and n 1 ≡ n) (sym e) one_cut

-- the row of a stored
module _ (e : List ℕ) (a lo hi : ℕ) where
  abbrev pub stored : List ℕ
  stored = set (set e (2 * a) lo) (2 * a + 1) hi

  pub stored_length : length (set (set e (2 * a) lo) (2 * a + 1) hi) ≡ length e
  stored_length = simp length-set

  pub stored_low : 2 * a + 1 < length e → low (set (set e (2 * a) lo) (2 * a + 1) hi) a ≡ lo
  stored_low room =
      get_or-set_other (set e (2 * a) lo) (2 * a + 1) (2 * a) hi 0 (λ q. omega arith) ∙ get_or-set_same e (2 * a) lo 0 (omega arith)

  pub stored_high : 2 * a + 1 < length e → high (set (set e (2 * a) lo) (2 * a + 1) hi) a ≡ hi
  stored_high room = get_or-set_same (set e (2 * a) lo) (2 * a + 1) hi 0 (simp length-set room)

  pub stored_others : (n : ℕ) → (n ≡ a → ⊥)
      → (low (set (set e (2 * a) lo) (2 * a + 1) hi) n ≡ low e n) × (high (set (set e (2 * a) lo) (2 * a + 1) hi) n ≡ high e n)
  stored_others n o = (
    kept (2 * n) (λ q. o (omega arith)) (λ q. o (omega arith)),
    kept (2 * n + 1) (λ q. o (omega arith)) (λ q. o (omega arith)),
  )
    where
      kept : (k : ℕ) → (k ≡ 2 * a → ⊥) → (k ≡ 2 * a + 1 → ⊥) → get_or stored k 0 ≡ get_or e k 0
      kept k f g = get_or-set_other (set e (2 * a) lo) (2 * a + 1) k hi 0 g ∙ get_or-set_other e (2 * a) k lo 0 f

pub stored_sized : (e : List ℕ) (a lo hi n : ℕ) (g : List ℕ) → length e ≡ n → g ≡ set (set e (2 * a) lo) (2 * a + 1) hi → length g ≡ n
stored_sized e a lo hi n g long eg = ap length eg ∙ stored_length e a lo hi ∙ long

-- the words of a new array of zeros
pub replicate_zero : (n l : ℕ) → get_or (replicate {A = ℕ} n 0) l 0 ≡ 0
replicate_zero zero l = refl
replicate_zero (suc n) zero = refl
replicate_zero (suc n) (suc l) = replicate_zero n l
