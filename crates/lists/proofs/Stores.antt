-- Lists that are written into tables, one number or one part after the other.
use mathlib.Core.Path.{◌≡◌, refl, sym, ap, ap₂, ◌∙◌}
use mathlib.Core.List.{List, [], ◌∷◌, ◌++◌, Memᴰ}
use Prim.Native.Nat.{ℕ, suc, ◌+◌, ◌<◌, ◌≤◌}
use native.Mathlib.Nat.{add-zero, add-suc, suc-add}
use native.Mathlib.Decide.{ℕ_discrete}
use native.Mathlib.Numerals.{add-one}
use native.Mathlib.Omega.{arith}
use lib.ListN.{length, get_or, take, drop, set, length-set, length-append}
use lib.Seq.{sets, sets-eq, length-sets, length-take-le, take_at, drop_at, set-get_or, set-set, drop-set-lt, set_comm, get_or-set_other, get_or-set_same}
use Rattle.lists.specs.Inside.Stores.{Written}

-- ---- runs of stores

-- one run, then another
pub sets_append : (t : List ℕ) (at : ℕ) (xs ys : List ℕ) → sets t at (xs ++ ys) ≡ sets (sets t at xs) (at + length xs) ys
sets_append t at [] ys = rw add-zero
sets_append t at (x ∷ xs) ys = sets_append (set t at x) (suc at) xs ys ∙ rw (suc-add, add-suc)

-- a run keeps what stands past it
pub drop_sets : (t : List ℕ) (at : ℕ) (xs : List ℕ) (n : ℕ) → at + length xs ≤ n → drop n (sets t at xs) ≡ drop n t
drop_sets t at [] n h = refl
drop_sets t at (x ∷ xs) n h = drop_sets (set t at x) (suc at) xs n (omega arith) ∙ drop-set-lt n t at x (omega arith)

-- a store below a run may come first
pub set_sets : (t : List ℕ) (k at v : ℕ) (xs : List ℕ) → k < at → set (sets t at xs) k v ≡ sets (set t k v) at xs
set_sets t k at v [] h = refl
set_sets t k at v (x ∷ xs) h =
    set_sets (set t at x) k (suc at) v xs (omega arith)
    ∙ ap (λ (m : List ℕ). sets m (suc at) xs) (set_comm t at k x v (λ e. omega arith))

pub get_d_sets : (t : List ℕ) (k at : ℕ) (xs : List ℕ) → k < at → get_or (sets t at xs) k 0 ≡ get_or t k 0
get_d_sets t k at [] h = refl
get_d_sets t k at (x ∷ xs) h = get_d_sets (set t at x) k (suc at) xs (omega arith) ∙ get_or-set_other t at k x 0 (λ e. omega arith)

-- the first of a run
pub get_d_first : (t : List ℕ) (at x : ℕ) (xs : List ℕ) → at < length t → get_or (sets t at (x ∷ xs)) at 0 ≡ x
get_d_first t at x xs h = get_d_sets (set t at x) at (suc at) xs (omega arith) ∙ get_or-set_same t at x 0 h

-- a run over another one
pub sets_twice : (t : List ℕ) (i : ℕ) (xs ys : List ℕ) → length xs ≡ length ys → sets (sets t i xs) i ys ≡ sets t i ys
sets_twice t i [] [] e = refl
sets_twice t i [] (y ∷ ys) e = absurd (omega arith)
sets_twice t i (x ∷ xs) [] e = absurd (omega arith)
sets_twice t i (x ∷ xs) (y ∷ ys) e =
    ap (λ (u : List ℕ). sets u (suc i) ys)
    (set_sets (set t i x) i (suc i) y xs (omega arith) ∙ ap (λ (u : List ℕ). sets u (suc i) xs) (set-set t i x y))
    ∙ sets_twice (set t i y) (suc i) xs ys (omega arith)

-- a run over one that begins one place later
pub sets_over : (t : List ℕ) (i : ℕ) (xs ys : List ℕ) → length ys ≡ suc (length xs) → sets (sets t (suc i) xs) i ys ≡ sets t i ys
sets_over t i xs [] e = absurd (omega arith)
sets_over t i xs (y ∷ ys) e =
    ap (λ (u : List ℕ). sets u (suc i) ys) (set_sets t i (suc i) y xs (omega arith)) ∙ sets_twice (set t i y) (suc i) xs ys (omega arith)

-- a run of what stands there already
pub sets_own : (t : List ℕ) (i : ℕ) (l : List ℕ) → ((j : ℕ) → j < length l → get_or t (i + j) 0 ≡ get_or l j 0) → sets t i l ≡ t
sets_own t i [] h = refl
sets_own t i (x ∷ l) h =
    let z : i + 0 ≡ i = omega arith in
    let same : set t i x ≡ t
    = ap (set t i) (sym (h 0 (omega arith)) ∙ ap (λ (k : ℕ). get_or t k 0) z) ∙ set-get_or t i 0 in
    ap (λ (u : List ℕ). sets u (suc i) l) same
    ∙ sets_own t (suc i) l (λ j k. let e : suc i + j ≡ i + suc j = omega arith in ap (λ (m : ℕ). get_or t m 0) e ∙ h (suc j) (omega arith))

-- what a run wrote
pub sets_written : (t : List ℕ) (i : ℕ) (l : List ℕ) (n : ℕ) → i + length l ≡ n → n ≤ length t → drop i (take n (sets t i l)) ≡ l
sets_written t i l n e h =
    let long : length (take i t) ≡ i = length-take-le i t (omega arith) in
    let count : length (take i t ++ l) ≡ n = omega (arith, length-append (take i t) l) in
    ap (λ (u : List ℕ). drop i (take n u)) (sets-eq l t i (omega arith))
    ∙ ap (drop i) (take_at (take i t ++ l) (drop (i + length l) t) n count)
    ∙ drop_at (take i t) l i long

-- numbers below a bound stay so
pub sets_below : (bound n i : ℕ) (t l : List ℕ) → n ≤ length t → ((j : ℕ) → j < n → get_or t j 0 < bound)
    → ((x : ℕ) → Memᴰ x l → x < bound) → (j : ℕ) → j < n → get_or (sets t i l) j 0 < bound
sets_below bound n i t [] enough h k = h
sets_below bound n i t (x ∷ l) enough h k =
    sets_below bound n (suc i) (set t i x) l (omega (arith, length-set t i x)) (λ j m. go j m (ℕ_discrete j i)) (λ y p. k y (Memᴰ.tail p))
  where
    go : (j : ℕ) → j < n → Dec (j ≡ i) → get_or (set t i x) j 0 < bound
    go j m (yes e) = omega (arith, ap (λ (q : ℕ). get_or (set t i x) q 0) e, get_or-set_same t i x 0 (omega arith), k x (Memᴰ.head refl))
    go j m (no e) = omega (arith, get_or-set_other t i j x 0 e, h j m)

-- ---- what is left to be written

pub written_length : (before after : List ℕ) (at next : ℕ) (l : List ℕ) → Written before after at next l → length after ≡ length before
written_length before after at next l w = ap (λ (x : List ℕ). length x) w.stored ∙ length-sets before at l

-- a list that is being written from `at` on: `rest` is left for the places from `next` on
pub record Writing (before after : List ℕ) (at next : ℕ) (whole rest : List ℕ) : Type 0 where
  pub kept : length after ≡ length before
  pub stores : sets after next rest ≡ sets before at whole
  pub places : next + length rest ≡ at + length whole

pub writing_all : (t : List ℕ) (at : ℕ) (l r : List ℕ) → r ≡ l → Writing t t at at l r
writing_all t at l r e = record { kept = refl; stores = ap (sets t at) e; places = ap (λ (x : List ℕ). at + length x) e }

module _ (before after : List ℕ) (at next : ℕ) (whole rest : List ℕ) (state : Writing before after at next whole rest) where
  -- one number
  pub writing_one : (x : ℕ) (l : List ℕ) → rest ≡ x ∷ l → Writing before (set after next x) at (next + 1) whole l
  writing_one x l e =
      record {
        kept = simp length-set state.kept;
        stores = ap (λ (k : ℕ). sets (set after next x) k l) (add-one next) ∙ ap (sets after next) (sym e) ∙ state.stores;
        places = omega (arith, state.places, ap length e);
      }

  module _ (l r : List ℕ) (e : rest ≡ l ++ r) where
    pub writing_room : at + length whole ≤ length before → next + length l ≤ length after
    writing_room h = omega (arith, state.kept, state.places, ap length e, length-append l r)

    -- a part of the list
    pub writing_part : (more : List ℕ) (n : ℕ) → length more ≡ length after → Written after more next n l
        → Writing before more at n whole r
    writing_part more n k w =
        record {
          kept = k ∙ state.kept;
          stores = ap₂ (λ (x : List ℕ) (y : ℕ). sets x y r) w.stored w.next_is ∙ sym (sets_append after next l r)
              ∙ ap (sets after next) (sym e) ∙ state.stores;
          places = omega (arith, state.places, ap length e, length-append l r, w.next_is);
        }

  pub writing_none : rest ≡ [] → Written before after at next whole
  writing_none e =
      record {
        stored = ap (sets after next) (sym e) ∙ state.stores;
        next_is = omega (arith, state.places, ap length e);
      }

-- one list after another
pub written_append : (a b c : List ℕ) (at next end : ℕ) (l k w : List ℕ) → w ≡ l ++ k → Written a b at next l → Written b c next end k
    → Written a c at end w
written_append a b c at next end l k w e x y =
    record {
      stored = y.stored ∙ ap₂ (λ (s : List ℕ) (n : ℕ). sets s n k) x.stored x.next_is ∙ sym (sets_append a at l k)
          ∙ ap (sets a at) (sym e);
      next_is = omega (arith, y.next_is, x.next_is, ap length e, length-append l k);
    }
