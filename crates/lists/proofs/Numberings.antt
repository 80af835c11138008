-- Lists of the first numbers in another order.
use mathlib.Core.Path.{◌≡◌, sym, ap, ◌∙◌}
use mathlib.Core.List.Memᴰ
use mathlib.Core.List.Permᴰ
use mathlib.Core.List.{List, [], ◌∷◌, Memᴰ, Permᴰ}
use mathlib.Core.Logic.{◌⊎◌, inl, inr, ⊎_elim}
use Prim.Native.Nat.{ℕ, zero, suc, ◌≤◌, ◌<◌}
use native.Mathlib.Omega.{arith}
use lib.Dec.{T}
use lib.ListN.{length, get_or, length-map}
use lib.Seq.{ext_get_or}
use Rattle.lists.specs.Lists.{Within, Distinct, member, repeats, upto, index_in, inverse}
use Rattle.lists.specs.Decides.{Decides}
use Rattle.lists.specs.Inside.Numbering.{Numbering}
use Rattle.lists.proofs.Lists.{T_known, or_left, or_right, or_either, member_intro, member_found, map_found, map_intro, upto_intro, upto_found, upto_length}
use Rattle.lists.proofs.Places.{there, found, apart, distinct_at, get_d_map, index_placed, index_of, upto_at}
use Rattle.lists.proofs.Permutations.{perm_within, perm_length, distinct_perm, distinct_length, distinct_map, same_perm}

pub upto_distinct : (first count : ℕ) → Distinct (upto first count)
upto_distinct first zero = tt
upto_distinct first (suc count) =
    (λ i. let r = upto_found (suc first) count first i in absurd (omega (arith, r.0)), upto_distinct (suc first) count)

pub numbering_perm : (n : ℕ) {order : List ℕ} → Permᴰ order (upto 0 n) → Numbering n order
numbering_perm n p = record {
  once = distinct_perm (Permᴰ.symm p) (upto_distinct 0 n);
  below = λ i j. let r = upto_found 0 n i (perm_within p i j) in omega (arith, r.1);
  each = λ i h. perm_within (Permᴰ.symm p) i (upto_intro 0 n i (omega arith) (omega arith));
}

pub numbering_length : (n : ℕ) (order : List ℕ) → Numbering n order → length order ≡ n
numbering_length n order o =
    perm_length
    (same_perm order (upto 0 n) o.once (upto_distinct 0 n) (λ i j. upto_intro 0 n i (omega arith) (omega (arith, o.below i j)))
    (λ i j. let r = upto_found 0 n i j in o.each i (omega (arith, r.1))))
    ∙ upto_length 0 n

pub numbering_within : (n : ℕ) (l m : List ℕ) → Numbering n l → Numbering n m → Within l m
numbering_within n l m o u i j = u.each i (o.below i j)

pub upto_numbering : (n : ℕ) → Numbering n (upto 0 n)
upto_numbering n = numbering_perm n (Permᴰ.refl (upto 0 n))

-- n different numbers below n are all of them
pub numbering_full : (n : ℕ) (l : List ℕ) → Distinct l → ((i : ℕ) → Memᴰ i l → i < n) → length l ≡ n → Numbering n l
numbering_full n l d below long = record { once = d; below = below; each = λ i h. go i h (T_known (member i l)) }
  where
    go : (i : ℕ) → i < n → T (member i l) ⊎ (T (member i l) → ⊥) → Memᴰ i l
    go i h (inl t) = member_found l t
    go i h (inr f) =
        let more : length (i ∷ l) ≤ length (upto 0 n)
        = distinct_length (i ∷ l) (upto 0 n) (λ j. f (member_intro l j), d) (λ x j.
        ⊎_elim (λ e. upto_intro 0 n x (omega arith) (omega arith)) (λ k. upto_intro 0 n x (omega arith) (omega (arith, below x k))) (Memᴰ.cases_cons j)) in
        absurd (omega (arith, upto_length 0 n))

-- ---- the test of repetition

-- a number stands at two places
abbrev pub Twice : List ℕ → Type 0
Twice l = (i : ℕ) × (j : ℕ) × (i < j) × (j < length l) × (get_or l i 0 ≡ get_or l j 0)

repeats_found : (l : List ℕ) → T (repeats l) → Twice l
repeats_found [] h = absurd h
repeats_found (x ∷ l) h = go (repeats_found l) (or_either (member x l) (repeats l) h)
  where
    go : (T (repeats l) → Twice l) → T (member x l) ⊎ T (repeats l) → Twice (x ∷ l)
    go rest (inl m) = let f = found 0 l x (member_found l m) in (0, suc f.0, omega arith, omega (arith, f.1), sym f.2)
    go rest (inr r) = let f = rest r in (suc f.0, suc f.1, omega (arith, f.2), omega (arith, f.3), f.4)

not_repeats : (l : List ℕ) → (T (repeats l) → ⊥) → Distinct l
not_repeats [] f = tt
not_repeats (x ∷ l) f =
    (λ i. f (or_left (member x l) (repeats l) (member_intro l i)), not_repeats l (λ h. f (or_right (member x l) (repeats l) h)))

pub decides_repeats : (l : List ℕ) → Decides (repeats l) (Twice l)
decides_repeats l = record { says = repeats_found l; passes = λ t. ⊎_elim (λ h. h) (λ f. absurd (once t (not_repeats l f))) (T_known (repeats l)) }
  where
    once : Twice l → Distinct l → ⊥
    once (i, j, h, k, e) d = omega (arith, apart 0 l i j d (omega arith) k e)

pub not_twice : (l : List ℕ) → (Twice l → ⊥) → Distinct l
not_twice l f = distinct_at 0 l (λ j k h m e. f (j, k, h, m, e))

-- ---- the inverse order

module _ (n : ℕ) (order : List ℕ) (o : Numbering n order) where
  long : length order ≡ n
  long = numbering_length n order o

  pub inverse_length : length (inverse order) ≡ n
  unfolding inverse
  inverse_length = length-map (upto 0 (length order)) (index_in order) ∙ upto_length 0 (length order) ∙ long

  pub inverse_at : (i : ℕ) → i < n → get_or (inverse order) i 0 ≡ index_in order i
  unfolding inverse
  inverse_at i h =
      get_d_map 0 (index_in order) (upto 0 (length order)) i 0 (omega (arith, upto_length 0 (length order), long))
      ∙ ap (index_in order) (upto_at 0 (length order) i (omega (arith, long)) ∙ omega arith)

  pub inverse_numbering : Numbering n (inverse order)
  unfolding inverse
  inverse_numbering = record {
    once = distinct_map (index_in order) (upto 0 (length order)) (λ i j h k e.
        sym (index_placed order i (o.each i (under i h))).1
        ∙ ap (λ (x : ℕ). get_or order x 0) e
        ∙ (index_placed order j (o.each j (under j k))).1)
        (upto_distinct 0 (length order));
    below = λ i j.
        let r = map_found (index_in order) (upto 0 (length order)) j in
        omega (arith, r.2, long, (index_placed order r.0 (o.each r.0 (under r.0 r.1))).0);
    each = λ i h.
        let old : Memᴰ (get_or order i 0) order = there 0 order i (omega (arith, long)) in
        Memᴰ.cast (sym (index_of order i o.once (omega (arith, long))))
        (map_intro (index_in order) (upto 0 (length order))
        (upto_intro 0 (length order) (get_or order i 0) (omega arith) (omega (arith, long, o.below (get_or order i 0) old))));
  }
    where
      under : (i : ℕ) → Memᴰ i (upto 0 (length order)) → i < n
      under i h = let r = upto_found 0 (length order) i h in omega (arith, long, r.1)

  -- to its place and back
  pub index_back : (i : ℕ) → i < n → index_in (inverse order) (index_in order i) ≡ i
  index_back i h =
      ap (index_in (inverse order)) (sym (inverse_at i h))
      ∙ index_of (inverse order) i inverse_numbering.once (omega (arith, inverse_length))

  pub place_back : (i : ℕ) → i < n → get_or order (get_or (inverse order) i 0) 0 ≡ i
  place_back i h = ap (λ (x : ℕ). get_or order x 0) (inverse_at i h) ∙ (index_placed order i (o.each i h)).1

pub inverse_twice : (n : ℕ) (order : List ℕ) → Numbering n order → inverse (inverse order) ≡ order
inverse_twice n order o =
    ext_get_or 0 (inverse (inverse order)) order (inverse_length n (inverse order) (inverse_numbering n order o) ∙ sym (long n order o)) (λ i h.
    let k : i < n = omega (arith, inverse_length n (inverse order) (inverse_numbering n order o)) in
    inverse_at n (inverse order) (inverse_numbering n order o) i k
    ∙ ap (index_in (inverse order)) (sym (index_of order i o.once (omega (arith, long n order o))))
    ∙ index_back n order o (get_or order i 0) (o.below (get_or order i 0) (there 0 order i (omega (arith, long n order o)))))

pub inverse_index : (n : ℕ) (order : List ℕ) → Numbering n order → (i : ℕ) → i < n → index_in (inverse order) i ≡ get_or order i 0
inverse_index n order o i h =
    sym (inverse_at n (inverse order) (inverse_numbering n order o) i h)
    ∙ ap (λ (l : List ℕ). get_or l i 0) (inverse_twice n order o)
