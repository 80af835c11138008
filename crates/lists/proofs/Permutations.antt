-- Permutations: what does not depend on the order of a list, and when two lists are permutations.
use mathlib.Core.Path.{◌≡◌, refl, sym, ap, ap₂, ◌∙◌, subst}
use mathlib.Core.Bool.{Bool, true, false, ◌&&◌, ◌||◌}
use mathlib.Core.List.Memᴰ
use mathlib.Core.List.{List, [], ◌∷◌, map, Memᴰ}
use mathlib.Core.List.Permᴰ
use mathlib.Core.List.{Permᴰ}
use mathlib.Core.Logic.{⊎_elim}
use Prim.Native.Nat.{ℕ, suc, ◌≤◌}
use native.Mathlib.Omega.{arith}
use lib.ListN.{length}
use Rattle.lists.specs.Lists.{Within, Distinct, keep, any, all, filter}
use Rattle.lists.proofs.Lists.{map_found}

-- ---- folds: a list taken together from its end

module _ {A C : Type 0} (step : A → C → C) (base : C) where
  abbrev pub fold : List A → C
  fold [] = base
  fold (x ∷ l) = step x (fold l)

  -- in any order, where two steps may change places
  module _ (swaps : (x y : A) (c : C) → step x (step y c) ≡ step y (step x c)) where
    pub fold_perm : {l m : List A} → Permᴰ l m → fold l ≡ fold m
    fold_perm Permᴰ.nil = refl
    fold_perm (Permᴰ.cons e d) = ap₂ step e (fold_perm d)
    fold_perm (Permᴰ.swap {a = a} {b = b} {l = l} e f) =
        swaps a b (fold l) ∙ ap₂ (λ (x y : A). step x (step y (fold l))) f e
    fold_perm (Permᴰ.trans d e) = fold_perm d ∙ fold_perm e

-- element by element, after a renaming
module _ {A B C : Type 0} (f : A → B) (s : A → C → C) (t : B → C → C) (base : C) where
  pub fold_map : (l : List A) → ((x : A) → Memᴰ x l → (c : C) → s x c ≡ t (f x) c) → fold s base l ≡ fold t base (map f l)
  fold_map [] h = refl
  fold_map (x ∷ l) h =
      h x (Memᴰ.head refl) (fold s base l) ∙ ap (t (f x)) (fold_map l (λ y i. h y (Memᴰ.tail i)))

  -- and in another order
  pub fold_match : ((x y : B) (c : C) → t x (t y c) ≡ t y (t x c)) → {l : List A} {m : List B} → Permᴰ (map f l) m
      → ((x : A) → Memᴰ x l → (c : C) → s x c ≡ t (f x) c) → fold s base l ≡ fold t base m
  fold_match swaps {l} p h = fold_map l h ∙ fold_perm t base swaps p

-- ---- tests and counts

or_swap : (a b c : Bool) → (a || (b || c)) ≡ (b || (a || c))
or_swap true true c = refl
or_swap true false c = refl
or_swap false b c = refl

pub and_swap : (a b c : Bool) → (a && (b && c)) ≡ (b && (a && c))
and_swap true b c = refl
and_swap false true c = refl
and_swap false false c = refl

-- one more, where the test passed
abbrev pub count_if : Bool → ℕ → ℕ
count_if true n = suc n
count_if false n = n

count_if_swap : (a b : Bool) (n : ℕ) → count_if a (count_if b n) ≡ count_if b (count_if a n)
count_if_swap true true n = refl
count_if_swap true false n = refl
count_if_swap false b n = refl

module _ {A : Type 0} where
  any_fold : (test : A → Bool) (l : List A) → any test l ≡ fold (λ x c. test x || c) false l
  any_fold test [] = refl
  any_fold test (x ∷ l) = ap (λ c. test x || c) (any_fold test l)

  all_fold : (test : A → Bool) (l : List A) → all test l ≡ fold (λ x c. test x && c) true l
  all_fold test [] = refl
  all_fold test (x ∷ l) = ap (λ c. test x && c) (all_fold test l)

  filter_fold : (test : A → Bool) (l : List A) → length (filter test l) ≡ fold (λ x. count_if (test x)) 0 l
  filter_fold test [] = refl
  filter_fold test (x ∷ l) = go (test x) (filter_fold test l)
    where
      go : (b : Bool) → length (filter test l) ≡ fold (λ y. count_if (test y)) 0 l
          → length (keep b x (filter test l)) ≡ count_if b (fold (λ y. count_if (test y)) 0 l)
      go true e = ap suc e
      go false e = e

  length_fold : (l : List A) → length l ≡ fold (λ x n. suc n) 0 l
  length_fold [] = refl
  length_fold (x ∷ l) = ap suc (length_fold l)

module _ {A B : Type 0} (f : A → B) {l : List A} {m : List B} (p : Permᴰ (map f l) m)
    (s : A → Bool) (t : B → Bool) (same : (x : A) → Memᴰ x l → s x ≡ t (f x)) where
  pub any_match : any s l ≡ any t m
  any_match =
      any_fold s l
      ∙ fold_match f (λ x c. s x || c) (λ y c. t y || c) false (λ x y c. or_swap (t x) (t y) c) p
      (λ x i c. ap (λ b. b || c) (same x i))
      ∙ sym (any_fold t m)

  pub filter_match : length (filter s l) ≡ length (filter t m)
  filter_match =
      filter_fold s l
      ∙ fold_match f (λ x. count_if (s x)) (λ y. count_if (t y)) 0 (λ x y n. count_if_swap (t x) (t y) n) p
      (λ x i n. ap (λ b. count_if b n) (same x i))
      ∙ sym (filter_fold t m)

module _ {A B : Type 0} (f : A → B) (l : List A) (s : A → Bool) (t : B → Bool)
    (same : (x : A) → Memᴰ x l → s x ≡ t (f x)) where
  pub all_map : all s l ≡ all t (map f l)
  all_map =
      all_fold s l ∙ fold_map f (λ x c. s x && c) (λ y c. t y && c) true l (λ x i c. ap (λ b. b && c) (same x i))
      ∙ sym (all_fold t (map f l))

pub perm_length : {A : Type 0} {l m : List A} → Permᴰ l m → length l ≡ length m
perm_length {A} {l} {m} p = length_fold l ∙ fold_perm (λ x n. suc n) 0 (λ x y n. refl) p ∙ sym (length_fold m)

-- ---- membership, filter, append

module _ {A : Type 0} where
  pub perm_within : {l m : List A} → Permᴰ l m → Within l m
  perm_within Permᴰ.nil x i = i
  perm_within (Permᴰ.cons e d) x i =
      ⊎_elim (λ q. Memᴰ.head (q ∙ e)) (λ j. Memᴰ.tail (perm_within d x j)) (Memᴰ.cases_cons i)
  perm_within (Permᴰ.swap e f) x i =
      ⊎_elim (λ q. Memᴰ.tail (Memᴰ.head (q ∙ e)))
      (λ j. ⊎_elim (λ q. Memᴰ.head (q ∙ f)) (λ k. Memᴰ.tail (Memᴰ.tail k)) (Memᴰ.cases_cons j))
      (Memᴰ.cases_cons i)
  perm_within (Permᴰ.trans d e) x i = perm_within e x (perm_within d x i)

  -- an element taken to the front
  pub perm_front : {x : A} {l : List A} → Memᴰ x l → (m : List A) × Permᴰ l (x ∷ m)
  perm_front {x} (Memᴰ.head {xs = l} e) = (l, Permᴰ.cons (sym e) (Permᴰ.refl l))
  perm_front {x} (Memᴰ.tail {x = y} i) =
      let r = perm_front i in
      (y ∷ r.0, Permᴰ.trans (Permᴰ.cons refl r.1) (Permᴰ.swap refl refl))

  pub distinct_perm : {l m : List A} → Permᴰ l m → Distinct l → Distinct m
  distinct_perm Permᴰ.nil d = d
  distinct_perm (Permᴰ.cons {l₁ = l} {l₂ = m} e p) d =
      (λ i. d.0 (Memᴰ.cast e (perm_within (Permᴰ.symm p) _ i)), distinct_perm p d.1)
  distinct_perm (Permᴰ.swap {l = l} e f) d = (
    λ i. ⊎_elim (λ q. d.0 (Memᴰ.head (e ∙ sym q ∙ sym f))) (λ j. d.1.0 (Memᴰ.cast f j)) (Memᴰ.cases_cons i),
    (λ i. d.0 (Memᴰ.tail (Memᴰ.cast e i)), d.1.1),
  )
  distinct_perm (Permᴰ.trans p q) d = distinct_perm q (distinct_perm p d)

  -- lists with the same elements, each once
  pub same_perm : (l m : List A) → Distinct l → Distinct m → Within l m → Within m l → Permᴰ l m
  same_perm [] [] d e v w = Permᴰ.nil
  same_perm [] (y ∷ m) d e v w = absurd (Memᴰ.not-nil (w y (Memᴰ.head refl)))
  same_perm (x ∷ l) m d e v w =
      let r = perm_front (v x (Memᴰ.head refl)) in
      let e' : Distinct (x ∷ r.0) = distinct_perm r.1 e in
      Permᴰ.trans
      (Permᴰ.cons refl
      (same_perm l r.0 d.1 e'.1
      (λ y i.
      ⊎_elim (λ q. absurd (d.0 (Memᴰ.cast (sym q) i))) (λ j. j)
      (Memᴰ.cases_cons (perm_within r.1 y (v y (Memᴰ.tail i)))))
      (λ y i.
      ⊎_elim (λ q. absurd (e'.0 (Memᴰ.cast (sym q) i))) (λ j. j)
      (Memᴰ.cases_cons (w y (perm_within (Permᴰ.symm r.1) y (Memᴰ.tail i)))))))
      (Permᴰ.symm r.1)

  pub distinct_length : (l m : List A) → Distinct l → Within l m → length l ≤ length m
  distinct_length [] m d w = omega arith
  distinct_length (x ∷ l) m d w =
      let r = perm_front (w x (Memᴰ.head refl)) in
      let rest = distinct_length l r.0 d.1 (λ y i.
      ⊎_elim (λ e. absurd (d.0 (Memᴰ.cast (sym e) i))) (λ j. j) (Memᴰ.cases_cons (perm_within r.1 y (w y (Memᴰ.tail i))))) in
      omega (arith, perm_length r.1)

  -- what a renaming keeps apart stays apart
  pub distinct_map : {B : Type 0} (f : A → B) (l : List A)
      → ((x y : A) → Memᴰ x l → Memᴰ y l → f x ≡ f y → x ≡ y) → Distinct l → Distinct (map f l)
  distinct_map f [] h d = tt
  distinct_map f (x ∷ l) h d = (
    λ i. let r = map_found f l i in d.0 (Memᴰ.cast (h x r.0 (Memᴰ.head refl) (Memᴰ.tail r.1) r.2) r.1),
    distinct_map f l (λ y z i j. h y z (Memᴰ.tail i) (Memᴰ.tail j)) d.1,
  )

  pub filter_perm : (test : A → Bool) {l m : List A} → Permᴰ l m → Permᴰ (filter test l) (filter test m)
  filter_perm test Permᴰ.nil = Permᴰ.nil
  filter_perm test (Permᴰ.cons {a = a} {b = b} {l₁ = l} {l₂ = m} e p) =
      subst (λ (y : A). Permᴰ (keep (test a) a (filter test l)) (keep (test y) y (filter test m))) e
      (keep_perm (test a) a (filter_perm test p))
    where
      keep_perm : (c : Bool) (x : A) {k n : List A} → Permᴰ k n → Permᴰ (keep c x k) (keep c x n)
      keep_perm true x q = Permᴰ.cons refl q
      keep_perm false x q = q
  filter_perm test (Permᴰ.swap {a = a} {b = b} {b' = c} {l = l} e f) =
      subst (λ (y : A). Permᴰ (keep (test a) a (keep (test b) b (filter test l))) (keep (test y) y (keep (test c) c (filter test l)))) f
      (subst (λ (y : A). Permᴰ (keep (test a) a (keep (test b) b (filter test l))) (keep (test b) b (keep (test y) y (filter test l)))) e
      (keep_swap (test a) (test b) a b (filter test l)))
    where
      keep_swap : (c d : Bool) (x y : A) (k : List A) → Permᴰ (keep c x (keep d y k)) (keep d y (keep c x k))
      keep_swap true true x y k = Permᴰ.swap refl refl
      keep_swap true false x y k = Permᴰ.refl (x ∷ k)
      keep_swap false true x y k = Permᴰ.refl (y ∷ k)
      keep_swap false false x y k = Permᴰ.refl k
  filter_perm test (Permᴰ.trans p q) = Permᴰ.trans (filter_perm test p) (filter_perm test q)

-- a filter before a renaming is one after it
pub filter_map : {A B : Type 0} (f : A → B) (s : A → Bool) (t : B → Bool) (l : List A)
    → ((x : A) → Memᴰ x l → s x ≡ t (f x)) → map f (filter s l) ≡ filter t (map f l)
filter_map f s t [] h = refl
filter_map f s t (x ∷ l) h =
    go (s x) (t (f x)) (h x (Memᴰ.head refl)) (filter_map f s t l (λ y i. h y (Memᴰ.tail i)))
  where
    go : (a b : Bool) → a ≡ b → map f (filter s l) ≡ filter t (map f l)
        → map f (keep a x (filter s l)) ≡ keep b (f x) (filter t (map f l))
    go true true e r = ap (λ k. f x ∷ k) r
    go true false e r = let z : ◌≡◌ {A = ℕ} 0 1 = cc in absurd (omega arith)
    go false true e r = let z : ◌≡◌ {A = ℕ} 0 1 = cc in absurd (omega arith)
    go false false e r = r
