-- Elements by their places in a list.
use mathlib.Core.Path.{◌≡◌, refl, sym, ap, ◌∙◌}
use mathlib.Core.Bool.{Bool, true, false}
use mathlib.Core.List.{List, [], ◌∷◌, ◌++◌, map, Memᴰ}
use mathlib.Core.Logic.{◌⊎◌, inl, inr}
use Prim.Native.Nat.{ℕ, zero, suc, ◌+◌, ◌<◌}
use native.Mathlib.Omega.{arith}
use lib.Dec.{eqb}
use lib.ListN.{length, get_or, drop}
use borrow.Author.Tests.{eqb-true, eqb-false, eq-eqb, ne_eqb}
use Rattle.lists.specs.Lists.{Distinct, choose, index_in, upto}

-- d stands for an element past the end
module _ {A : Type 0} (d : A) where
  pub there : (l : List A) (i : ℕ) → i < length l → Memᴰ (get_or l i d) l
  there [] i h = absurd (omega arith)
  there (x ∷ l) zero h = mathlib.Core.List.Memᴰ.head refl
  there (x ∷ l) (suc i) h = mathlib.Core.List.Memᴰ.tail (there l i (omega arith))

  pub found : (l : List A) (x : A) → Memᴰ x l → (i : ℕ) × (i < length l) × (get_or l i d ≡ x)
  found [] x none = elim none [ ]
  found (y ∷ l) x (mathlib.Core.List.Memᴰ.head e) = (0, omega arith, sym e)
  found (y ∷ l) x (mathlib.Core.List.Memᴰ.tail i) = let f = found l x i in (suc f.0, omega (arith, f.1), f.2)

  -- what stands once has one place
  pub apart : (l : List A) (i j : ℕ) → Distinct l → i < length l → j < length l → get_or l i d ≡ get_or l j d → i ≡ j
  apart [] i j o h k e = absurd (omega arith)
  apart (x ∷ l) zero zero o h k e = refl
  apart (x ∷ l) zero (suc j) o h k e = absurd (o.0 (mathlib.Core.List.Memᴰ.cast e (there l j (omega arith))))
  apart (x ∷ l) (suc i) zero o h k e = absurd (o.0 (mathlib.Core.List.Memᴰ.cast (sym e) (there l i (omega arith))))
  apart (x ∷ l) (suc i) (suc j) o h k e = ap suc (apart l i j o.1 (omega arith) (omega arith) e)

  pub distinct_at : (l : List A) → ((j k : ℕ) → j < k → k < length l → get_or l j d ≡ get_or l k d → ⊥) → Distinct l
  distinct_at [] h = tt
  distinct_at (x ∷ l) h = (
    λ i. let f = found l x i in h 0 (suc f.0) (omega arith) (omega (arith, f.1)) (sym f.2),
    distinct_at l (λ j k m n. h (suc j) (suc k) (omega arith) (omega arith)),
  )

  pub get_d_map : {B : Type 0} (f : A → B) (l : List A) (j : ℕ) (e : B) → j < length l → get_or (map f l) j e ≡ f (get_or l j d)
  get_d_map f [] j e h = absurd (omega arith)
  get_d_map f (x ∷ l) zero e h = refl
  get_d_map f (x ∷ l) (suc j) e h = get_d_map f l j e (omega arith)

pub distinct_drop : {A : Type 0} (n : ℕ) (l : List A) → Distinct l → Distinct (drop n l)
distinct_drop zero l d = d
distinct_drop (suc n) [] d = d
distinct_drop (suc n) (x ∷ l) d = distinct_drop n l d.1

pub map-append : {A B : Type 0} (f : A → B) (l m : List A) → map f (l ++ m) ≡ map f l ++ map f m
map-append f [] m = refl
map-append f (x ∷ l) m = ap (λ k. f x ∷ k) (map-append f l m)

-- ---- the first place of a number

abbrev pub Placed : List ℕ → ℕ → Type 0
Placed l x = (index_in l x < length l) × (get_or l (index_in l x) 0 ≡ x)

pub index_placed : (l : List ℕ) (x : ℕ) → Memᴰ x l → Placed l x
index_placed [] x i = absurd (mathlib.Core.List.Memᴰ.not-nil i)
index_placed (y ∷ l) x i = go (eqb y x) refl (index_placed l x) (mathlib.Core.List.Memᴰ.cases_cons i)
  where
    go : (b : Bool) → eqb y x ≡ b → (Memᴰ x l → Placed l x) → (x ≡ y) ⊎ Memᴰ x l
        → (choose b 0 (suc (index_in l x)) < suc (length l)) × (get_or (y ∷ l) (choose b 0 (suc (index_in l x))) 0 ≡ x)
    go true e rest k = (omega arith, eqb-true y x e)
    go false e rest (inl q) = absurd (eqb-false y x e (sym q))
    go false e rest (inr j) = let r = rest j in (omega (arith, r.0), r.1)

-- what stands once stands there
pub index_of : (l : List ℕ) (j : ℕ) → Distinct l → j < length l → index_in l (get_or l j 0) ≡ j
index_of [] j d h = absurd (omega arith)
index_of (x ∷ l) zero d h = ap (λ (b : Bool). choose b 0 (suc (index_in l x))) (eq-eqb x x refl)
index_of (x ∷ l) (suc j) d h =
    let i : Memᴰ (get_or l j 0) l = there 0 l j (omega arith) in
    ap (λ (b : Bool). choose b 0 (suc (index_in l (get_or l j 0)))) (ne_eqb x (get_or l j 0) (λ e. d.0 (mathlib.Core.List.Memᴰ.cast e i)))
    ∙ ap suc (index_of l j d.1 (omega arith))

pub upto_at : (first count j : ℕ) → j < count → get_or (upto first count) j 0 ≡ first + j
upto_at first zero j h = absurd (omega arith)
upto_at first (suc count) zero h = omega arith
upto_at first (suc count) (suc j) h = upto_at (suc first) count j (omega arith) ∙ omega arith
