-- The tests on a part's bytes, from byte k on: where they end, go on and stop.
use mathlib.Core.Path.{◌≡◌, refl, sym, ap, ◌∙◌}
use mathlib.Core.Bool.{Bool, true, false, false≢true, ◌&&◌}
use mathlib.Core.List.Memᴰ
use mathlib.Core.List.{List, [], ◌∷◌, Memᴰ}
use mathlib.Core.Logic.{◌⊎◌, inl, inr}
use Prim.Native.Nat.{ℕ, suc, ◌+◌, ◌<◌, ◌≤◌}
use native.Mathlib.Numerals.{add-one}
use native.Mathlib.Omega.{arith}
use lib.ListN.{length, get_or, drop, drop_of_length-le}
use Rattle.std.specs.List.{list_all}
use lib.Seq.{drop-cons}
use lib.Dec.{ltb, leb, eqb}
use borrow.Author.Tests.{ltb-true, lt-ltb, le-ltb, leb-true, le-leb, lt-leb, eqb-true, eq-eqb}
use Rattle.literals.specs.Sets.{has, insert, insert_all}
use Rattle.literals.proofs.Tests.{and_intro, and_left, and_right}
use Rattle.literals.proofs.Members.{has_empty}
use Rattle.literals.proofs.Lists.{insert_all_cases, has_insert_all}
use Rattle.layout.specs.Layout.{kind_byte, head_byte, body_bytes}
use Rattle.layout.specs.Causes.{all_below, ascending, same_bytes}

-- the bytes from k on, where there is one
pub drop_at : (p : List ℕ) (k : ℕ) → k < length p → drop k p ≡ get_or p k 0 ∷ drop (k + 1) p
drop_at p k h = rw (add-one, drop-cons p k 0 h) refl

-- the test as a walk over all
pub below_all : (n : ℕ) (l : List ℕ) → list_all (λ x. ltb x n) l ≡ all_below n l
unfolding all_below
below_all n [] = refl
below_all n (x ∷ l) = ap (λ (t : Bool). ltb x n && t) (below_all n l)

module _ (n : ℕ) (p : List ℕ) (k : ℕ) where
  pub below_end : length p ≤ k → all_below n (drop k p) ≡ true
  unfolding all_below
  below_end h = ap (all_below n) (drop_of_length-le p h)

  pub below_step : k < length p → get_or p k 0 < n → all_below n (drop k p) ≡ all_below n (drop (k + 1) p)
  unfolding all_below
  below_step h l = ap (all_below n) (drop_at p k h) ∙ ap (λ (t : Bool). t && all_below n (drop (k + 1) p)) (lt-ltb (get_or p k 0) n l)

  pub below_stop : k < length p → n ≤ get_or p k 0 → all_below n (drop k p) ≡ false
  unfolding all_below
  below_stop h l = ap (all_below n) (drop_at p k h) ∙ ap (λ (t : Bool). t && all_below n (drop (k + 1) p)) (le-ltb (get_or p k 0) n l)

-- and back: what passing the test says of byte k and of those after it
module _ (n : ℕ) (p : List ℕ) (k : ℕ) (h : k < length p) (e : all_below n (drop k p) ≡ true) where
  opened : (ltb (get_or p k 0) n && all_below n (drop (k + 1) p)) ≡ true
  unfolding all_below
  opened = sym (ap (all_below n) (drop_at p k h)) ∙ e

  pub below_here : get_or p k 0 < n
  below_here = ltb-true (get_or p k 0) n (and_left (ltb (get_or p k 0) n) _ opened)

  pub below_after : all_below n (drop (k + 1) p) ≡ true
  below_after = and_right (ltb (get_or p k 0) n) _ opened

-- a body read byte by byte into a set
pub insert_next : (s : ℕ) (p : List ℕ) (k : ℕ) → k < length p → insert_all s (drop k p) ≡ insert_all (insert s (get_or p k 0)) (drop (k + 1) p)
unfolding insert_all
insert_next s p k h = ap (insert_all s) (drop_at p k h)

pub insert_none : (s : ℕ) (p : List ℕ) (k : ℕ) → length p ≤ k → insert_all s (drop k p) ≡ s
unfolding insert_all
insert_none s p k h = ap (insert_all s) (drop_of_length-le p h)

-- ---- strictly ascending, from a least number on
unfoldable pub rises : ℕ → List ℕ → Bool
rises least [] = true
rises least (x ∷ l) = leb least x && rises (suc x) l

rises_after : (x : ℕ) (l : List ℕ) → ascending (x ∷ l) ≡ rises (suc x) l
unfolding ascending rises
rises_after x [] = refl
rises_after x (y ∷ l) = ap (λ (t : Bool). ltb x y && t) (rises_after y l)

pub ascending_rises : (l : List ℕ) → ascending l ≡ rises 0 l
unfolding ascending rises
ascending_rises [] = refl
ascending_rises (x ∷ l) = rises_after x l ∙ sym (ap (λ (t : Bool). t && rises (suc x) l) (le-leb 0 x (omega arith)))

module _ (least : ℕ) (p : List ℕ) (k : ℕ) where
  pub rises_end : length p ≤ k → rises least (drop k p) ≡ true
  unfolding rises
  rises_end h = ap (rises least) (drop_of_length-le p h)

  pub rises_step : k < length p → least ≤ get_or p k 0 → rises least (drop k p) ≡ rises (get_or p k 0 + 1) (drop (k + 1) p)
  unfolding rises
  rises_step h l =
      ap (rises least) (drop_at p k h) ∙ ap (λ (t : Bool). t && rises (suc (get_or p k 0)) (drop (k + 1) p)) (le-leb least (get_or p k 0) l)
      ∙ ap (λ (n : ℕ). rises n (drop (k + 1) p)) (sym (add-one (get_or p k 0)))

  pub rises_stop : k < length p → get_or p k 0 < least → rises least (drop k p) ≡ false
  unfolding rises
  rises_stop h l =
      ap (rises least) (drop_at p k h) ∙ ap (λ (t : Bool). t && rises (suc (get_or p k 0)) (drop (k + 1) p)) (lt-leb least (get_or p k 0) l)

-- each number of it is at least that
pub rises_member : (least : ℕ) (l : List ℕ) → rises least l ≡ true → (x : ℕ) → Memᴰ x l → least ≤ x
unfolding rises
rises_member least [] e x m = absurd (Memᴰ.not-nil m)
rises_member least (y ∷ l) e x m = go (rises_member (suc y) l (and_right (leb least y) _ e) x) (Memᴰ.cases_cons m)
  where
    here : least ≤ y
    here = leb-true least y (and_left (leb least y) _ e)

    go : (Memᴰ x l → suc y ≤ x) → (x ≡ y) ⊎ Memᴰ x l → least ≤ x
    go f (inl q) = omega (arith, here)
    go f (inr k) = omega (arith, here, f k)

-- two such lists with the same members are one
abbrev Same : List ℕ → List ℕ → Type 0
Same a b = (x : ℕ) → Memᴰ x a → Memᴰ x b

same_tail : (x m : ℕ) (a b : List ℕ) → rises m a ≡ true → x < m → Same a (x ∷ b) → Same a b
same_tail x m a b r h f y k = go (Memᴰ.cases_cons (f y k))
  where
    go : (y ≡ x) ⊎ Memᴰ y b → Memᴰ y b
    go (inl q) = absurd (omega (arith, rises_member m a r y k))
    go (inr j) = j

pub rises_same : (m n : ℕ) (a b : List ℕ) → rises m a ≡ true → rises n b ≡ true → Same a b → Same b a → a ≡ b
unfolding rises
rises_same m n [] [] r t f g = refl
rises_same m n [] (y ∷ b) r t f g = absurd (Memᴰ.not-nil (g y (Memᴰ.head refl)))
rises_same m n (x ∷ a) [] r t f g = absurd (Memᴰ.not-nil (f x (Memᴰ.head refl)))
rises_same m n (x ∷ a) (y ∷ b) r t f g = whole (first (Memᴰ.cases_cons (f x (Memᴰ.head refl))) (Memᴰ.cases_cons (g y (Memᴰ.head refl)))) (rises_same (suc x) (suc y) a b ra tb)
  where
    ra : rises (suc x) a ≡ true
    ra = and_right (leb m x) _ r

    tb : rises (suc y) b ≡ true
    tb = and_right (leb n y) _ t

    first : (x ≡ y) ⊎ Memᴰ x b → (y ≡ x) ⊎ Memᴰ y a → x ≡ y
    first (inl q) k = q
    first (inr j) (inl q) = sym q
    first (inr j) (inr k) = absurd (omega (arith, rises_member (suc y) b tb x j, rises_member (suc x) a ra y k))

    whole : x ≡ y → (Same a b → Same b a → a ≡ b) → x ∷ a ≡ y ∷ b
    whole q next =
        let e : a ≡ b =
        next (same_tail y (suc x) a b ra (omega arith) (λ z k. f z (Memᴰ.tail k))) (same_tail x (suc y) b a tb (omega arith) (λ z k. g z (Memᴰ.tail k))) in
        cc

-- a body is known by its set
module _ (a b : List ℕ) (e : insert_all 0 a ≡ insert_all 0 b) where
  set_same : Same a b
  set_same x m = go (insert_all_cases 0 b x (ap (λ (s : ℕ). has s x) (sym e) ∙ has_insert_all 0 a x m))
    where
      go : (has 0 x ≡ true) ⊎ Memᴰ x b → Memᴰ x b
      go (inl q) = absurd (false≢true (sym (has_empty x) ∙ q))
      go (inr k) = k

pub set_known : (a b : List ℕ) → ascending a ≡ true → ascending b ≡ true → insert_all 0 a ≡ insert_all 0 b → a ≡ b
set_known a b p q e =
    rises_same 0 0 a b (sym (ascending_rises a) ∙ p) (sym (ascending_rises b) ∙ q) (set_same a b e) (set_same b a (sym e))

-- ---- the same bytes are the same list
pub same_bytes_lem : (a b : List ℕ) → same_bytes a b ≡ true → a ≡ b
unfolding same_bytes
same_bytes_lem [] [] e = refl
same_bytes_lem [] (y ∷ b) e = absurd (false≢true e)
same_bytes_lem (x ∷ a) [] e = absurd (false≢true e)
same_bytes_lem (x ∷ a) (y ∷ b) e =
    let p : x ≡ y = eqb-true x y (and_left (eqb x y) _ e) in
    let q : a ≡ b = same_bytes_lem a b (and_right (eqb x y) _ e) in
    cc

pub bytes_same : (a : List ℕ) → same_bytes a a ≡ true
unfolding same_bytes
bytes_same [] = refl
bytes_same (x ∷ a) = and_intro (eqb x x) _ (eq-eqb x x refl) (bytes_same a)

-- a part of two bytes or more is its kind, its head and its body
pub part_split : (p : List ℕ) → 2 ≤ length p → p ≡ kind_byte p ∷ head_byte p ∷ body_bytes p
part_split p h = drop_at p 0 (omega arith) ∙ ap (λ (l : List ℕ). get_or p 0 0 ∷ l) (drop_at p 1 (omega arith))
