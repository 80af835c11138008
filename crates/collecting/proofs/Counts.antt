-- How many arguments there are: by masks and then literals, as the list has them, or by literals and then words, as they are
-- counted.
use mathlib.Core.Path.{◌≡◌, refl, sym, ap, ap₂, ◌∙◌}
use mathlib.Core.Bool.{Bool, true, false, ◌&&◌}
use mathlib.Core.List.{List}
use Prim.Native.Nat.{ℕ, zero, suc, ◌+◌, ◌-◌, ◌*◌, ◌^◌, ◌<◌, ◌≤◌}
use native.Mathlib.Nat.{add-zero, zero-add, add_assoc, suc-mul}
use native.Mathlib.Omega.{arith}
use lib.Count.{ones}
use lib.ListN.{length, length-append}
use Rattle.lists.specs.Lists.{choose, keep}
use Rattle.literals.specs.Sets.{has, minus, within, LowestBelow}
use Rattle.literals.proofs.Members.{has_empty}
use Rattle.literals.proofs.Within.{within_le}
use Rattle.argument.specs.List.{picked, list_by}
use Rattle.listing.proofs.Picks.{members_length}
use Rattle.rows.specs.Span.{Greatest}
use Rattle.closures.specs.Inside.Table.{keeps_at}
use Rattle.collecting.specs.Inside.Folds.{fold_from, only, sum}
use Rattle.collecting.specs.Inside.Columns.{argues, argues_for, Word, one, word_count, row_count, literals_count, list_of}
use Rattle.collecting.proofs.Folds.{fold_ext, fold_none, fold_split, fold_shift, fold_blocks, fold_empty, fold_lowest}
use Rattle.collecting.proofs.Told.{none_beyond}

-- ---- sums

sum_ext : (f g : ℕ → ℕ) (k n : ℕ) → ((j : ℕ) → k ≤ j → j < k + n → f j ≡ g j) → sum f k n ≡ sum g k n
sum_ext = fold_ext ℕ ◌+◌ 0 zero-add add_assoc

sum_none : (f : ℕ → ℕ) (k n : ℕ) → ((j : ℕ) → k ≤ j → j < k + n → f j ≡ 0) → sum f k n ≡ 0
sum_none = fold_none ℕ ◌+◌ 0 zero-add add_assoc

sum_split : (f : ℕ → ℕ) (k a n : ℕ) → sum f k (a + n) ≡ sum f k a + sum f (k + a) n
sum_split = fold_split ℕ ◌+◌ 0 zero-add add_assoc

sum_from : (f : ℕ → ℕ) (c n : ℕ) → sum f c n ≡ sum (λ j. f (c + j)) 0 n
sum_from f c n = ap (λ (x : ℕ). sum f x n) (sym (add-zero c)) ∙ fold_shift ℕ ◌+◌ 0 zero-add add_assoc f c 0 n

sum_add : (f g : ℕ → ℕ) (k n : ℕ) → sum (λ j. f j + g j) k n ≡ sum f k n + sum g k n
unfolding fold_from
sum_add f g k zero = refl
sum_add f g k (suc n) = let rest = sum_add f g (suc k) n in omega arith

sum_swap : (g : ℕ → ℕ → ℕ) (k n a q : ℕ) → sum (λ m. sum (g m) a q) k n ≡ sum (λ h. sum (λ m. g m h) k n) a q
unfolding fold_from
sum_swap g k zero a q = sym (sum_none (λ h. 0) a q (λ j x y. refl))
sum_swap g k (suc n) a q =
    ap (λ (x : ℕ). sum (g k) a q + x) (sum_swap g (suc k) n a q) ∙ sym (sum_add (g k) (λ h. sum (λ m. g m h) (suc k) n) a q)

sum_le : (f : ℕ → ℕ) (c k n : ℕ) → ((j : ℕ) → f j ≤ c) → sum f k n ≤ n * c
unfolding fold_from
sum_le f c k zero h = omega arith
sum_le f c k (suc n) h = omega (arith, h k, sum_le f c (suc k) n h, suc-mul n c)

-- what is added past a is nothing
sum_short : (f : ℕ → ℕ) (a b : ℕ) → a ≤ b → ((j : ℕ) → a ≤ j → j < b → f j ≡ 0) → sum f 0 b ≡ sum f 0 a
sum_short f a b l h =
    let whole : b ≡ a + (b - a) = omega arith in
    ap (sum f 0) whole ∙ sum_split f 0 a (b - a)
    ∙ ap (λ (x : ℕ). sum f 0 a + x) (sum_none f (0 + a) (b - a) (λ j x y. h j (omega arith) (omega arith)))
    ∙ add-zero (sum f 0 a)

sum_last : (f : ℕ → ℕ) (n : ℕ) → sum f 0 (n + 1) ≡ sum f 0 n + f n
unfolding fold_from
sum_last f n =
    sum_split f 0 n 1 ∙ ap (λ (x : ℕ). sum f 0 n + x) (add-zero (f (0 + n)) ∙ ap f (zero-add n))

-- ---- a word

picked_length : (f : ℕ → Bool) (base k n : ℕ) → length (picked f base k n) ≡ sum (λ j. one (f j)) k n
unfolding picked fold_from
picked_length f base k zero = refl
picked_length f base k (suc n) = first (f k) ∙ ap (λ (x : ℕ). one (f k) + x) (picked_length f base (suc k) n)
  where
    first : (b : Bool) → length (keep b (base + k) (picked f base (suc k) n)) ≡ one b + length (picked f base (suc k) n)
    first true = omega arith
    first false = omega arith

pub word_count_lem : (t : List ℕ) (l w x : ℕ) → x < 2 ^ 64 → Word t l w x → ones x ≡ word_count t l w
word_count_lem t l w x small word =
    sym (members_length 64 0 x small) ∙ picked_length (has x) 0 0 64
    ∙ sum_ext (λ k. one (has x k)) (λ k. one (argues t (64 * w + k) l)) 0 64 (λ k a b. ap one (word k (omega arith)))
    ∙ sym (sum_from (λ m. one (argues t m l)) (64 * w) 64)

pub word_none : (t : List ℕ) (l w x : ℕ) → x ≡ 0 → Word t l w x → 0 ≡ word_count t l w
word_none t l w x z word =
    sym
    (sum_none (λ m. one (argues t m l)) (64 * w) 64 (λ m a b.
    let e : m ≡ 64 * w + (m - 64 * w) = omega arith in
    ap one
    (ap (λ (j : ℕ). argues t j l) e ∙ sym (word (m - 64 * w) (omega arith)) ∙ ap (λ (y : ℕ). has y (m - 64 * w)) z
    ∙ has_empty (m - 64 * w))))

one_le : (b : Bool) → one b ≤ 1
one_le true = omega arith
one_le false = omega arith

pub word_few : (t : List ℕ) (l w : ℕ) → word_count t l w ≤ 64
word_few t l w = sum_le (λ m. one (argues t m l)) 1 (64 * w) 64 (λ m. one_le (argues t m l))

pub row_few : (t : List ℕ) (l : ℕ) → row_count t l ≤ 65536
row_few t l = sum_le (word_count t l) 64 0 1024 (word_few t l)

pub literals_few : (t : List ℕ) (s : ℕ) → literals_count t s ≤ 8388608
literals_few t s =
    sum_le (only ℕ 0 s (row_count t)) 65536 0 128 (λ l. each (has s l) (row_count t l) (row_few t l))
  where
    each : (s : Bool) (n : ℕ) → n ≤ 65536 → choose s n 0 ≤ 65536
    each true n h = h
    each false n h = omega arith

-- ---- a row

module _ (t : List ℕ) (l : ℕ) where
  -- a word that the row does not span adds nothing
  beyond_none : (w : ℕ) → w < 1024 → within w (keeps_at t l) ≡ false → word_count t l w ≡ 0
  beyond_none w low beyond =
      sum_none (λ m. one (argues t m l)) (64 * w) 64 (λ m a b.
      let e : m ≡ 64 * w + (m - 64 * w) = omega arith in
      ap one (ap (λ (j : ℕ). argues t j l) e ∙ none_beyond t l w low beyond (m - 64 * w) (omega arith)))

  skipped : (w : ℕ) → w < 1024 → (within w (keeps_at t l) ≡ true → ⊥) → word_count t l w ≡ 0
  skipped w low n = go (within w (keeps_at t l)) refl
    where
      go : (b : Bool) → within w (keeps_at t l) ≡ b → word_count t l w ≡ 0
      go true e = absurd (n e)
      go false e = beyond_none w low e

  -- the words below e are left
  pub record RowLeft (e found : ℕ) : Type 0 where
    pub low : e ≤ 1024
    pub rest : found + sum (word_count t l) 0 e ≡ row_count t l

  pub row_all : keeps_at t l < 1024 → RowLeft (keeps_at t l + 1) 0
  row_all few = record {
    low = omega arith;
    rest =
        let short = sum_short (word_count t l) (keeps_at t l + 1) 1024 (omega arith) (λ j a b.
        skipped j (omega arith) (λ i. omega (arith, within_le j (keeps_at t l) i))) in
        omega (arith, short);
  }

  pub row_next : (e w found n : ℕ) → Greatest (keeps_at t l) e w → RowLeft e found → n ≡ word_count t l w → RowLeft w (found + n)
  row_next e w found n next left is = record {
    low = omega (arith, next.below, left.low);
    rest =
        let last = sum_last (word_count t l) w in
        let below : w + 1 ≤ e = omega (arith, next.below) in
        let short = sum_short (word_count t l) (w + 1) e below (λ j a b.
        skipped j (omega (arith, left.low)) (λ i. omega (arith, next.greatest j i b))) in
        omega (arith, left.rest, last, short, is);
  }

  pub row_last : (e found : ℕ) → e ≡ 0 → RowLeft e found → found ≡ row_count t l
  row_last e found z left =
      let none : sum (word_count t l) 0 e ≡ 0 = ap (sum (word_count t l) 0) z ∙ sum_zero in
      omega (arith, left.rest, none)
    where
      sum_zero : sum (word_count t l) 0 0 ≡ 0
      sum_zero = sum_none (word_count t l) 0 0 (λ j a b. absurd (omega arith))

-- ---- the literals of a set

pub literals_next : (t : List ℕ) (s l : ℕ) → LowestBelow 128 s l → literals_count t s ≡ row_count t l + literals_count t (minus s (2 ^ l))
literals_next t s l lowest = fold_lowest ℕ ◌+◌ 0 zero-add add_assoc (row_count t) 128 s l lowest

pub literals_none : (t : List ℕ) (s : ℕ) → s ≡ 0 → literals_count t s ≡ 0
literals_none t s e = fold_empty ℕ ◌+◌ 0 zero-add add_assoc (row_count t) s 128 e

-- ---- the list

listed_length : (f : ℕ → ℕ → Bool) (k n : ℕ) → length (list_by f k n) ≡ sum (λ m. sum (λ h. one (f m h)) 0 128) k n
unfolding list_by fold_from
listed_length f k zero = refl
listed_length f k (suc n) =
    length-append (picked (f k) (k * 128) 0 128) (list_by f (suc k) n)
    ∙ ap₂ ◌+◌ (picked_length (f k) (k * 128) 0 128) (listed_length f (suc k) n)

row_sum : (t : List ℕ) (s h : ℕ) → sum (λ m. one (argues_for t s m h)) 0 65536 ≡ choose (has s h) (row_count t h) 0
row_sum t s h = go (has s h)
  where
    go : (b : Bool) → sum (λ m. one (b && argues t m h)) 0 65536 ≡ choose b (row_count t h) 0
    go true = fold_blocks ℕ ◌+◌ 0 zero-add add_assoc (λ m. one (argues t m h)) 0 1024
    go false = sum_none (λ m. 0) 0 65536 (λ j a b. refl)

pub list_count : (t : List ℕ) (s : ℕ) → length (list_of t s) ≡ literals_count t s
unfolding list_of
list_count t s =
    listed_length (argues_for t s) 0 65536
    ∙ sum_swap (λ m h. one (argues_for t s m h)) 0 65536 0 128
    ∙ sum_ext (λ h. sum (λ m. one (argues_for t s m h)) 0 65536) (only ℕ 0 s (row_count t)) 0 128 (λ h a b. row_sum t s h)
