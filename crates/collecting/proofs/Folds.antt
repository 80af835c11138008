-- Parts joined from left to right: when two runs are the same, and how they are taken apart.
use mathlib.Core.Path.{◌≡◌, refl, sym, ap, ap₂, ◌∙◌}
use mathlib.Core.Bool.{Bool, true, false, not, ◌&&◌}
use mathlib.Core.Logic.{◌⊎◌, inl, inr}
use Prim.Native.Nat.{ℕ, zero, suc, ◌+◌, ◌*◌, ◌^◌, ◌<◌, ◌≤◌}
use native.Mathlib.Nat.{eq-or-lt_of_le, add-zero, zero-add, suc-add, add-suc}
use native.Mathlib.Omega.{arith}
use borrow.Author.Tests.{eq-eqb, ne_eqb}
use Rattle.lists.specs.Lists.{choose}
use Rattle.literals.specs.Sets.{has, minus, LowestBelow}
use Rattle.literals.proofs.Members.{has_empty, has_minus_power}
use Rattle.collecting.specs.Inside.Folds.{fold_from, only}

and_true : (t : Bool) → (t && true) ≡ t
and_true true = refl
and_true false = refl

and_false : (t : Bool) → (t && false) ≡ false
and_false true = refl
and_false false = refl

module _ (A : Type 0) (join : A → A → A) (none : A) (unit : (x : A) → join none x ≡ x)
    (assoc : (x y z : A) → join (join x y) z ≡ join x (join y z)) where
  abbrev run : (ℕ → A) → ℕ → ℕ → A
  run f k n = fold_from A join none f k n

  pub fold_ext : (f g : ℕ → A) (k n : ℕ) → ((j : ℕ) → k ≤ j → j < k + n → f j ≡ g j) → run f k n ≡ run g k n
  unfolding fold_from
  fold_ext f g k zero h = refl
  fold_ext f g k (suc n) h =
      ap₂ join (h k (omega arith) (omega arith)) (fold_ext f g (suc k) n (λ j a b. h j (omega arith) (omega arith)))

  pub fold_none : (f : ℕ → A) (k n : ℕ) → ((j : ℕ) → k ≤ j → j < k + n → f j ≡ none) → run f k n ≡ none
  unfolding fold_from
  fold_none f k zero h = refl
  fold_none f k (suc n) h =
      ap₂ join (h k (omega arith) (omega arith)) (fold_none f (suc k) n (λ j a b. h j (omega arith) (omega arith))) ∙ unit none

  pub fold_split : (f : ℕ → A) (k a n : ℕ) → run f k (a + n) ≡ join (run f k a) (run f (k + a) n)
  unfolding fold_from
  fold_split f k zero n = ap₂ (λ (x y : ℕ). run f x y) (sym (add-zero k)) (zero-add n) ∙ sym (unit (run f (k + 0) n))
  fold_split f k (suc a) n =
      let next : suc k + a ≡ k + suc a = omega arith in
      ap (run f k) (suc-add a n) ∙ ap (join (f k)) (fold_split f (suc k) a n)
      ∙ sym (assoc (f k) (run f (suc k) a) (run f (suc k + a) n))
      ∙ ap (λ (x : ℕ). join (join (f k) (run f (suc k) a)) (run f x n)) next

  pub fold_shift : (f : ℕ → A) (c k n : ℕ) → run f (c + k) n ≡ run (λ j. f (c + j)) k n
  unfolding fold_from
  fold_shift f c k zero = refl
  fold_shift f c k (suc n) =
      ap (join (f (c + k))) (ap (λ (j : ℕ). run f j n) (sym (add-suc c k)) ∙ fold_shift f c (suc k) n)

  -- by 64 at a time
  pub fold_blocks : (f : ℕ → A) (k n : ℕ) → run f (64 * k) (64 * n) ≡ run (λ w. run f (64 * w) 64) k n
  unfolding fold_from
  fold_blocks f k zero = refl
  fold_blocks f k (suc n) =
      let more : 64 * suc n ≡ 64 + 64 * n = omega arith in
      let next : 64 * k + 64 ≡ 64 * suc k = omega arith in
      ap (run f (64 * k)) more ∙ fold_split f (64 * k) 64 (64 * n)
      ∙ ap (join (run f (64 * k) 64)) (ap (λ (j : ℕ). run f j (64 * n)) next ∙ fold_blocks f (suc k) n)

  -- parts that are none need not be members
  pub fold_only : (f : ℕ → A) (s k n : ℕ) → ((j : ℕ) → k ≤ j → j < k + n → has s j ≡ false → f j ≡ none)
      → run f k n ≡ run (only A none s f) k n
  fold_only f s k n h = fold_ext f (only A none s f) k n (λ j a b. go j (has s j) (h j a b))
    where
      go : (j : ℕ) (t : Bool) → (t ≡ false → f j ≡ none) → f j ≡ choose t (f j) none
      go j true q = refl
      go j false q = q refl

  pub fold_empty : (f : ℕ → A) (s n : ℕ) → s ≡ 0 → run (only A none s f) 0 n ≡ none
  fold_empty f s n e =
      fold_none (only A none s f) 0 n (λ j a b. ap (λ (t : Bool). choose t (f j) none) (ap (λ (x : ℕ). has x j) e ∙ has_empty j))

  -- the lowest member first, and then the others
  module _ (f : ℕ → A) (n s b : ℕ) (lowest : LowestBelow n s b) where
    less : ℕ
    less = minus s (2 ^ b)

    other : (j : ℕ) → (j ≡ b → ⊥) → has s j ≡ has less j
    unfolding less
    other j n = sym (has_minus_power s b j ∙ ap (λ (t : Bool). has s j && not t) (ne_eqb j b n) ∙ and_true (has s j))

    gone : has less b ≡ false
    unfolding less
    gone = has_minus_power s b b ∙ ap (λ (t : Bool). has s b && not t) (eq-eqb b b refl) ∙ and_false (has s b)

    pick : ℕ → ℕ → A
    pick x j = only A none x f j

    from : (k n : ℕ) → k ≤ b → b < k + n → run (pick s) k n ≡ join (f b) (run (pick less) k n)
    unfolding fold_from pick
    from k zero p q = absurd (omega arith)
    from k (suc n) p q = go (eq-or-lt_of_le {n = k} {m = b} p) (λ l. from (suc k) n l (omega arith))
      where
        go : (k ≡ b) ⊎ (k < b) → (k < b → run (pick s) (suc k) n ≡ join (f b) (run (pick less) (suc k) n))
            → run (pick s) k (suc n) ≡ join (f b) (run (pick less) k (suc n))
        go (inl e) g =
            ap₂ join
            (ap (λ (t : Bool). choose t (f k) none) (ap (has s) e ∙ lowest.member) ∙ ap f e)
            (fold_ext (pick s) (pick less) (suc k) n (λ j x y. ap (λ (t : Bool). choose t (f j) none) (other j (λ z. omega arith)))
            ∙ sym (unit (run (pick less) (suc k) n))
            ∙ ap (λ (x : A). join x (run (pick less) (suc k) n)) (sym (ap (λ (t : Bool). choose t (f k) none) (ap (has less) e ∙ gone))))
        go (inr l) g =
            ap (λ (x : A). join x (run (pick s) (suc k) n)) (ap (λ (t : Bool). choose t (f k) none) (lowest.least k l))
            ∙ unit (run (pick s) (suc k) n) ∙ g l
            ∙ ap (join (f b))
            (sym (unit (run (pick less) (suc k) n))
            ∙ ap (λ (x : A). join x (run (pick less) (suc k) n))
            (sym (ap (λ (t : Bool). choose t (f k) none) (sym (other k (λ z. omega arith)) ∙ lowest.least k l))))

    pub fold_lowest : run (only A none s f) 0 n ≡ join (f b) (run (only A none (minus s (2 ^ b)) f) 0 n)
    unfolding less pick
    fold_lowest = from 0 n (omega arith) (omega (arith, lowest.small))
