-- Lists that ascend: their members settle them, and bounds that they keep.
use mathlib.Core.Path.{◌≡◌, refl, sym, ap₂, ◌∙◌}
use mathlib.Core.List.Memᴰ
use mathlib.Core.List.{List, [], ◌∷◌, ◌++◌, Memᴰ}
use mathlib.Core.Logic.{◌⊎◌, inl, inr, ⊎_elim}
use Prim.Native.Nat.{ℕ, zero, suc, ◌+◌, ◌≤◌, ◌<◌}
use native.Mathlib.Omega.{arith}
use lib.ListN.{length, get_or, drop}
use Rattle.lists.proofs.Places.{there}
use Rattle.lists.specs.Lists.{Within, Ordered, Distinct, Ascending, Ascends}

-- ---- by their elements

-- an order that never has two elements before each other
module _ {A : Type 0} (before : A → A → Type 0) (one_way : (x y : A) → before x y → before y x → ⊥) where
  pub ordered_distinct : (l : List A) → Ordered before l → Distinct l
  ordered_distinct [] o = tt
  ordered_distinct (x ∷ l) o = (λ i. one_way x x (o.0 x i) (o.0 x i), ordered_distinct l o.1)

  -- without their first elements the one is still within the other
  within_rest : {x y : A} {l m : List A} → x ≡ y → Ordered before (x ∷ l) → Within (x ∷ l) (y ∷ m) → Within l m
  within_rest {x} {y} {l} {m} e o w z i =
      ⊎_elim (λ f. absurd ((ordered_distinct (x ∷ l) o).0 (Memᴰ.cast (e ∙ sym f) i))) (λ j. j)
      (Memᴰ.cases_cons (w z (Memᴰ.tail i)))

  -- the first elements are the least of the same
  first_same : {x y : A} {l m : List A} → Ordered before (x ∷ l) → Ordered before (y ∷ m)
      → Within (x ∷ l) (y ∷ m) → Within (y ∷ m) (x ∷ l) → x ≡ y
  first_same {x} {y} {l} {m} o p v w =
      go (Memᴰ.cases_cons (v x (Memᴰ.head refl))) (Memᴰ.cases_cons (w y (Memᴰ.head refl)))
    where
      go : (x ≡ y) ⊎ Memᴰ x m → (y ≡ x) ⊎ Memᴰ y l → x ≡ y
      go (inl e) k = e
      go (inr i) (inl e) = sym e
      go (inr i) (inr j) = absurd (one_way x y (o.0 y j) (p.0 x i))

  -- two ordered lists with the same elements are one
  pub ordered_same : (l m : List A) → Ordered before l → Ordered before m → Within l m → Within m l → l ≡ m
  ordered_same [] [] o p v w = refl
  ordered_same [] (y ∷ m) o p v w = absurd (Memᴰ.not-nil (w y (Memᴰ.head refl)))
  ordered_same (x ∷ l) [] o p v w = absurd (Memᴰ.not-nil (v x (Memᴰ.head refl)))
  ordered_same (x ∷ l) (y ∷ m) o p v w =
      let e = first_same o p v w in
      ap₂ ◌∷◌ e (ordered_same l m o.1 p.1 (within_rest e o v) (within_rest (sym e) p w))

below_once : (x y : ℕ) → x < y → y < x → ⊥
below_once x y h k = omega arith

pub ascending_distinct : (l : List ℕ) → Ascending l → Distinct l
ascending_distinct = ordered_distinct (λ x y. x < y) below_once

pub ascending_same : (l m : List ℕ) → Ascending l → Ascending m → Within l m → Within m l → l ≡ m
ascending_same = ordered_same (λ x y. x < y) below_once

-- ---- by their places

pub ordered_at : {A : Type 0} (before : A → A → Type 0) (d : A) (l : List A) (i j : ℕ) → Ordered before l → i < j → j < length l
    → before (get_or l i d) (get_or l j d)
ordered_at before d [] i j o h k = absurd (omega arith)
ordered_at before d (x ∷ l) i zero o h k = absurd (omega arith)
ordered_at before d (x ∷ l) zero (suc j) o h k = o.0 (get_or l j d) (there d l j (omega arith))
ordered_at before d (x ∷ l) (suc i) (suc j) o h k = ordered_at before d l i j o.1 (omega arith) (omega arith)

-- none of those from a place on is below the one that stands there
pub ascending_rest : (l : List ℕ) (i z : ℕ) → Ascending l → i < length l → Memᴰ z (drop i l) → get_or l i 0 ≤ z
ascending_rest [] i z a h j = absurd (omega arith)
ascending_rest (x ∷ l) zero z a h j = ⊎_elim (λ e. omega arith) (λ k. omega (arith, a.0 z k)) (Memᴰ.cases_cons j)
ascending_rest (x ∷ l) (suc i) z a h j = ascending_rest l i z a.1 (omega arith) j

-- ---- within bounds

pub ascends_from : (l : List ℕ) (a low high : ℕ) → a ≤ low → Ascends low high l → Ascends a high l
ascends_from [] a low high h c = omega arith
ascends_from (x ∷ l) a low high h c = let k = c.0 in (omega arith, c.1, c.2)

ascends_le : (l : List ℕ) (low high : ℕ) → Ascends low high l → low ≤ high
ascends_le [] low high c = c
ascends_le (x ∷ l) low high c = let a = c.0 in let b = c.1 in omega arith

pub ascends_append : (l k : List ℕ) (low middle high : ℕ) → Ascends low middle l → Ascends middle high k
    → Ascends low high (l ++ k)
ascends_append [] k low middle high a b = ascends_from k low middle high a b
ascends_append (x ∷ l) k low middle high a b =
    let p = a.1 in
    let q = ascends_le k middle high b in
    (a.0, omega arith, ascends_append l k (suc x) middle high a.2 b)

pub ascends_length : (l : List ℕ) (low high : ℕ) → Ascends low high l → low + length l ≤ high
ascends_length [] low high a = omega arith
ascends_length (x ∷ l) low high a = let r = ascends_length l (suc x) high a.2 in let h = a.0 in omega arith

ascends_low : (l : List ℕ) (low high z : ℕ) → Ascends low high l → Memᴰ z l → low ≤ z
ascends_low [] low high z a i = absurd (Memᴰ.not-nil i)
ascends_low (x ∷ l) low high z a i =
    let b = a.0 in
    ⊎_elim (λ e. omega arith) (λ j. omega (arith, ascends_low l (suc x) high z a.2 j)) (Memᴰ.cases_cons i)

pub ascends_high : (l : List ℕ) (low high z : ℕ) → Ascends low high l → Memᴰ z l → z < high
ascends_high [] low high z a none = elim none [ ]
ascends_high (x ∷ l) low high z a (Memᴰ.head e) = let b = a.1 in omega arith
ascends_high (x ∷ l) low high z a (Memᴰ.tail i) = ascends_high l (suc x) high z a.2 i

pub ascends_ascending : (l : List ℕ) (low high : ℕ) → Ascends low high l → Ascending l
ascends_ascending [] low high a = tt
ascends_ascending (x ∷ l) low high a =
    (λ y i. omega (arith, ascends_low l (suc x) high y a.2 i), ascends_ascending l (suc x) high a.2)
