-- What a passed test says, and what makes it pass: by connective, then by list function.
use mathlib.Core.Path.{◌≡◌, refl, ap, sym, subst, ◌∙◌}
use mathlib.Core.Bool.{Bool, true, false, not, ◌&&◌, ◌||◌}
use mathlib.Core.List.Memᴰ
use mathlib.Core.List.{List, [], ◌∷◌, ◌++◌, map, Memᴰ}
use mathlib.Core.Logic.{◌⊎◌, inl, inr}
use Prim.Native.Nat.{ℕ, zero, suc, ◌+◌, ◌≤◌, ◌<◌}
use native.Mathlib.Omega.{arith}
use lib.ListN.{length}
use lib.Dec.{T, not_T, eqb, eqb→eq, eqb_refl, ltb, ltb→lt, nltb→le}
use Rattle.lists.specs.Lists.{Within, keep, any, all, filter, member, upto}

-- ---- tests

pub and_intro : (a b : Bool) → T a → T b → T (a && b)
and_intro true b h k = k
and_intro false b h k = absurd h

pub and_both : (a b : Bool) → T (a && b) → T a × T b
and_both true b h = (tt, h)
and_both false b h = absurd h

pub or_left : (a b : Bool) → T a → T (a || b)
or_left true b h = tt
or_left false b h = absurd h

pub or_right : (a b : Bool) → T b → T (a || b)
or_right true b h = tt
or_right false b h = h

pub or_either : (a b : Bool) → T (a || b) → T a ⊎ T b
or_either true b h = inl tt
or_either false b h = inr h

-- a test passes or fails
pub T_known : (b : Bool) → T b ⊎ (T b → ⊥)
T_known true = inl tt
T_known false = inr (λ h. h)

pub T_true : (b : Bool) → T b → b ≡ true
T_true true h = refl
T_true false h = absurd h

pub T_false : (b : Bool) → (T b → ⊥) → b ≡ false
T_false true h = absurd (h tt)
T_false false h = refl

-- two tests that pass together are one
pub T_same : (a b : Bool) → (T a → T b) → (T b → T a) → a ≡ b
T_same true true f g = refl
T_same true false f g = absurd (f tt)
T_same false true f g = absurd (g tt)
T_same false false f g = refl

-- ---- lists within lists

module _ {A : Type 0} where
  pub within_nil : (m : List A) → Within [] m
  within_nil m x i = absurd (Memᴰ.not-nil i)

  pub length_none : {x : A} (l : List A) → length l ≤ 0 → Memᴰ x l → ⊥
  length_none [] h i = Memᴰ.not-nil i
  length_none (y ∷ l) h i = omega arith

  pub within_cons : {l m : List A} (y : A) → Within l m → Within (y ∷ l) (y ∷ m)
  within_cons y w x (Memᴰ.head e) = Memᴰ.head e
  within_cons y w x (Memᴰ.tail i) = Memᴰ.tail (w x i)

-- ---- any, all, filter

module _ {A : Type 0} where
  pub keep_head : (b : Bool) (x : A) (l : List A) → T b → Memᴰ x (keep b x l)
  keep_head true x l h = Memᴰ.head refl
  keep_head false x l h = absurd h

  pub keep_tail : (b : Bool) (x : A) {y : A} {l : List A} → Memᴰ y l → Memᴰ y (keep b x l)
  keep_tail true x i = Memᴰ.tail i
  keep_tail false x i = i

  pub keep_cases : (b : Bool) (x y : A) (l : List A) → Memᴰ y (keep b x l) → ((y ≡ x) × T b) ⊎ Memᴰ y l
  keep_cases true x y l (Memᴰ.head e) = inl (e, tt)
  keep_cases true x y l (Memᴰ.tail i) = inr i
  keep_cases false x y l i = inr i

  module _ (test : A → Bool) where
    pub any_intro : {x : A} (l : List A) → Memᴰ x l → T (test x) → T (any test l)
    any_intro [] none h = elim none [ ]
    any_intro (x ∷ l) (Memᴰ.head e) h = or_left (test x) (any test l) (subst (λ y. T (test y)) e h)
    any_intro (x ∷ l) (Memᴰ.tail i) h = or_right (test x) (any test l) (any_intro l i h)

    -- an element of the list that passes
    abbrev pub Found : List A → Type 0
    Found l = (x : A) × Memᴰ x l × T (test x)

    pub any_found : (l : List A) → T (any test l) → Found l
    any_found [] h = absurd h
    any_found (x ∷ l) h = go (any_found l) (or_either (test x) (any test l) h)
      where
        go : (T (any test l) → Found l) → T (test x) ⊎ T (any test l) → Found (x ∷ l)
        go rest (inl k) = (x, Memᴰ.head refl, k)
        go rest (inr k) = let r = rest k in (r.0, Memᴰ.tail r.1, r.2)

    pub all_intro : (l : List A) → ((x : A) → Memᴰ x l → T (test x)) → T (all test l)
    all_intro [] f = tt
    all_intro (x ∷ l) f =
        and_intro (test x) (all test l) (f x (Memᴰ.head refl)) (all_intro l (λ y i. f y (Memᴰ.tail i)))

    pub all_at : {x : A} (l : List A) → T (all test l) → Memᴰ x l → T (test x)
    all_at [] h none = elim none [ ]
    all_at (y ∷ l) h (Memᴰ.head e) = subst (λ z. T (test z)) (sym e) (and_both (test y) (all test l) h).0
    all_at (y ∷ l) h (Memᴰ.tail i) = all_at l (and_both (test y) (all test l) h).1 i

    pub filter_intro : {x : A} (l : List A) → Memᴰ x l → T (test x) → Memᴰ x (filter test l)
    filter_intro [] none h = elim none [ ]
    filter_intro (y ∷ l) (Memᴰ.head e) h =
        Memᴰ.cast e (keep_head (test y) y (filter test l) (subst (λ z. T (test z)) e h))
    filter_intro (y ∷ l) (Memᴰ.tail i) h = keep_tail (test y) y (filter_intro l i h)

    pub filter_found : {x : A} (l : List A) → Memᴰ x (filter test l) → Memᴰ x l × T (test x)
    filter_found [] i = absurd (Memᴰ.not-nil i)
    filter_found {x} (y ∷ l) i = go (filter_found l) (keep_cases (test y) y x (filter test l) i)
      where
        go : (Memᴰ x (filter test l) → Memᴰ x l × T (test x))
            → ((x ≡ y) × T (test y)) ⊎ Memᴰ x (filter test l)
            → Memᴰ x (y ∷ l) × T (test x)
        go rest (inl k) = (Memᴰ.head k.0, subst (λ z. T (test z)) (sym k.0) k.1)
        go rest (inr k) = (Memᴰ.tail (rest k).0, (rest k).1)

    pub filter_length : (l : List A) → length (filter test l) ≤ length l
    filter_length [] = omega arith
    filter_length (x ∷ l) = go (test x) (filter_length l)
      where
        go : (b : Bool) → length (filter test l) ≤ length l → length (keep b x (filter test l)) ≤ suc (length l)
        go true h = omega arith
        go false h = omega arith

  -- a search among what a filter kept is one search with both tests
  pub any_filter : (test kept : A → Bool) (l : List A) → any test (filter kept l) ≡ any (λ x. kept x && test x) l
  any_filter test kept [] = refl
  any_filter test kept (x ∷ l) = go (kept x) (any_filter test kept l)
    where
      both : A → Bool
      both y = kept y && test y

      go : (b : Bool) → any test (filter kept l) ≡ any both l
          → any test (keep b x (filter kept l)) ≡ (b && test x) || any both l
      go true e = ap (λ r. test x || r) e
      go false e = e

-- ---- a stricter test keeps fewer elements, and one fewer where it refuses one that the other keeps

-- two lists, each with or without one more element
module _ {A : Type 0} (x : A) (l m : List A) where
  keep_le : (a b : Bool) → (T a → T b) → length l ≤ length m → length (keep a x l) ≤ length (keep b x m)
  keep_le true true f h = omega arith
  keep_le true false f h = absurd (f tt)
  keep_le false true f h = omega arith
  keep_le false false f h = h

  keep_lt : (a b : Bool) → (T a → T b) → length l < length m → length (keep a x l) < length (keep b x m)
  keep_lt true true f h = omega arith
  keep_lt true false f h = absurd (f tt)
  keep_lt false true f h = omega arith
  keep_lt false false f h = h

  keep_new : (a b : Bool) → (T a → ⊥) → T b → length l ≤ length m → length (keep a x l) < length (keep b x m)
  keep_new true b f g h = absurd (f tt)
  keep_new false true f g h = omega arith
  keep_new false false f g h = absurd g

module _ {A : Type 0} (strict wide : A → Bool) (within : (x : A) → T (strict x) → T (wide x)) where
  pub filter_le : (l : List A) → length (filter strict l) ≤ length (filter wide l)
  filter_le [] = omega arith
  filter_le (x ∷ l) = keep_le x (filter strict l) (filter wide l) (strict x) (wide x) (within x) (filter_le l)

  pub filter_lt : {y : A} (l : List A) → Memᴰ y l → T (wide y) → (T (strict y) → ⊥)
      → length (filter strict l) < length (filter wide l)
  filter_lt {y = y} [] none h n = elim none [ ]
  filter_lt (x ∷ l) (Memᴰ.head e) h n =
      let refused : T (strict x) → ⊥ = λ k. n (subst (λ z. T (strict z)) (sym e) k) in
      keep_new x (filter strict l) (filter wide l) (strict x) (wide x) refused (subst (λ z. T (wide z)) e h) (filter_le l)
  filter_lt (x ∷ l) (Memᴰ.tail i) h n =
      keep_lt x (filter strict l) (filter wide l) (strict x) (wide x) (within x) (filter_lt l i h n)

-- ---- map

module _ {A B : Type 0} (f : A → B) where
  pub map_intro : {x : A} (l : List A) → Memᴰ x l → Memᴰ (f x) (map f l)
  map_intro [] none = elim none [ ]
  map_intro (x ∷ l) (Memᴰ.head e) = Memᴰ.head (ap f e)
  map_intro (x ∷ l) (Memᴰ.tail i) = Memᴰ.tail (map_intro l i)

  pub map_found : {y : B} (l : List A) → Memᴰ y (map f l) → (x : A) × Memᴰ x l × (y ≡ f x)
  map_found [] i = absurd (Memᴰ.not-nil i)
  map_found (x ∷ l) (Memᴰ.head e) = (x, Memᴰ.head refl, e)
  map_found (x ∷ l) (Memᴰ.tail i) = let r = map_found l i in (r.0, Memᴰ.tail r.1, r.2)

-- ---- numbers

pub member_intro : {n : ℕ} (l : List ℕ) → Memᴰ n l → T (member n l)
member_intro {n} l i = any_intro (eqb n) l i (eqb_refl n)

pub member_found : {n : ℕ} (l : List ℕ) → T (member n l) → Memᴰ n l
member_found {n} l h = let r = any_found (eqb n) l h in Memᴰ.cast (eqb→eq n r.0 r.2) r.1

pub member_known : (n : ℕ) (l : List ℕ) → Memᴰ n l ⊎ T (not (member n l))
member_known n l = go (T_known (member n l))
  where
    go : T (member n l) ⊎ (T (member n l) → ⊥) → Memᴰ n l ⊎ T (not (member n l))
    go (inl h) = inl (member_found l h)
    go (inr h) = inr (not_T (member n l) h)

pub upto_intro : (first count n : ℕ) → first ≤ n → n < first + count → Memᴰ n (upto first count)
upto_intro first zero n h k = absurd (omega arith)
upto_intro first (suc count) n h k = go (λ l. upto_intro (suc first) count n l (omega arith)) (T_known (ltb first n))
  where
    go : (suc first ≤ n → Memᴰ n (upto (suc first) count))
        → T (ltb first n) ⊎ (T (ltb first n) → ⊥)
        → Memᴰ n (upto first (suc count))
    go rest (inl l) = Memᴰ.tail (rest (ltb→lt first n l))
    go rest (inr f) =
        let l = nltb→le first n (not_T (ltb first n) f) in
        let e : n ≡ first = omega arith in
        Memᴰ.head e

pub upto_found : (first count n : ℕ) → Memᴰ n (upto first count) → (first ≤ n) × (n < first + count)
upto_found first zero n i = absurd (Memᴰ.not-nil i)
upto_found first (suc count) n (Memᴰ.head e) = (omega arith, omega arith)
upto_found first (suc count) n (Memᴰ.tail i) =
    let r = upto_found (suc first) count n i in
    (omega arith, omega arith)

pub upto_length : (first count : ℕ) → length (upto first count) ≡ count
upto_length first zero = refl
upto_length first (suc count) = ap suc (upto_length (suc first) count)

pub upto_last : (first count : ℕ) → upto first (suc count) ≡ upto first count ++ ((first + count) ∷ [])
upto_last first zero =
    let e : first ≡ first + 0 = omega arith in
    ap (λ n. n ∷ []) e
upto_last first (suc count) =
    let e : suc first + count ≡ first + suc count = omega arith in
    ap (λ l. first ∷ l) (upto_last (suc first) count ∙ ap (λ n. upto (suc first) count ++ (n ∷ [])) e)

-- one number on, one step back
pub upto_shift : {A : Type 0} (f : ℕ → A) (first count : ℕ)
    → map f (upto (suc first) count) ≡ map (λ n. f (suc n)) (upto first count)
upto_shift f first zero = refl
upto_shift f first (suc count) = ap (λ l. f (suc first) ∷ l) (upto_shift f (suc first) count)
