-- What is done to each row of a set of literals, one row after the other.
use mathlib.Core.Path.{◌≡◌, refl, sym, ap, ap₂, ◌∙◌, subst}
use mathlib.Core.Bool.{Bool, true, false, not, ◌&&◌, ◌||◌, false≢true}
use mathlib.Core.List.{List}
use mathlib.Core.Logic.{◌⊎◌, inl, inr, ⊎_elim}
use Prim.Native.Nat.{ℕ, ◌+◌, ◌*◌, ◌^◌, ◌<◌}
use native.Mathlib.Decide.{ℕ_discrete}
use native.Mathlib.Omega.{arith}
use lib.Dec.{eqb}
use lib.ListN.{length, get_or, set}
use borrow.Author.Tests.{ne_eqb, eq-eqb}
use Rattle.literals.specs.Sets.{has, insert, minus, LowestBelow}
use Rattle.literals.specs.Inside.Words.{joined}
use Rattle.literals.proofs.Tests.{and_intro}
use Rattle.literals.proofs.Members.{has_empty, has_bound, has_cases, has_minus_power, has_union, has_insert_same, insert_cases}
use Rattle.excluded.specs.Inside.Rows.{reaches, Begun, low, high, Each, Own, Whole, Gained, Added}
use Rattle.excluded.proofs.RowWords.{row_reaches, row_same, stored_length, stored_low, stored_high, stored_others}

abbrev Change : Type 1
Change = ℕ → ℕ → ℕ → ℕ → ℕ → Type 0

pub each_none : (R : Change) (s : ℕ) (e : List ℕ) → s ≡ 0 → Each R s e e
each_none R s e z = rw z (record {
  sized = refl;
  done = λ l m. absurd (false≢true (sym (has_empty l) ∙ m));
  others = λ l n. (refl, refl);
})

-- one row more
module _ (R : Change) (s b lo hi : ℕ) (e : List ℕ) (member : has s b ≡ true) (room : 2 * b + 1 < length e)
    (new : R b (low e b) (high e b) lo hi) where
  abbrev after : List ℕ
  after = set (set e (2 * b) lo) (2 * b + 1) hi

  abbrev less : ℕ
  less = minus s (2 ^ b)

  out : has less b ≡ false
  out = has_minus_power s b b ∙ ap (λ (t : Bool). t && not (eqb b b)) member ∙ ap not (eq-eqb b b refl)

  gone : (l : ℕ) → has s l ≡ false → has less l ≡ false
  gone l n = has_minus_power s b l ∙ ap (λ (t : Bool). t && not (eqb l b)) n

  kept : (l : ℕ) → has s l ≡ true → (l ≡ b → ⊥) → has less l ≡ true
  kept l h n = has_minus_power s b l ∙ and_intro (has s l) (not (eqb l b)) h (ap not (ne_eqb l b n))

  pub each_more : (f : List ℕ) → Each R (minus s (2 ^ b)) (set (set e (2 * b) lo) (2 * b + 1) hi) f → Each R s e f
  each_more f rest = record {
    sized = rest.sized ∙ stored_length e b lo hi;
    done = λ l m. at l m (ℕ_discrete l b);
    others = λ l n.
        let here = stored_others e b lo hi l (λ q. false≢true (sym n ∙ ap (has s) q ∙ member)) in
        let there = rest.others l (gone l n) in
        (there.0 ∙ here.0, there.1 ∙ here.1);
  }
    where
      at : (l : ℕ) → has s l ≡ true → Dec (l ≡ b) → R l (low e l) (high e l) (low f l) (high f l)
      at l m (yes q) =
          subst (λ (k : ℕ). R k (low e k) (high e k) (low f k) (high f k)) (sym q)
          (let there = rest.others b out in
          subst (λ (x : ℕ). R b (low e b) (high e b) x (high f b)) (sym (there.0 ∙ stored_low e b lo hi room))
          (subst (R b (low e b) (high e b) lo) (sym (there.1 ∙ stored_high e b lo hi room)) new))
      at l m (no q) =
          let here = stored_others e b lo hi l q in
          subst (λ (x : ℕ). R l x (high e l) (low f l) (high f l)) here.0
          (subst (λ (x : ℕ). R l (low after l) x (low f l) (high f l)) here.1
          (rest.done l (kept l m q)))

-- the rows before they are filled
pub begun : (d u : ℕ) (e f g : List ℕ) → length g ≡ 256 → u < 2 ^ 128 → ((n : ℕ) → get_or e n 0 ≡ 0) → Each Own u e f → Each (Whole u) d f g
    → Begun d u g
begun d u e f g sized below zeros owned full = record {
  sized = sized;
  derived = λ l x h m. all l x (has_bound u 128 x below m) h ∙ m;
  own = λ x m. self x m (has_cases d x);
  only = λ l x small fits h. only l x small fits h (has_cases d l) (has_cases u l);
}
  where
    all : (l x : ℕ) → x < 128 → has d l ≡ true → reaches g l x ≡ has u x
    all l x small h = let w = full.done l h in row_reaches g l u x small w.0 w.1

    one : (l x : ℕ) → x < 128 → has u l ≡ true → reaches f l x ≡ has (insert 0 l) x
    one l x small h = let w = owned.done l h in row_reaches f l (insert 0 l) x small w.0 w.1

    self : (x : ℕ) → has u x ≡ true → (has d x ≡ true) ⊎ (has d x ≡ false) → reaches g x x ≡ true
    self x m (inl h) = all x x (has_bound u 128 x below m) h ∙ m
    self x m (inr n) =
        let small = has_bound u 128 x below m in
        row_same f g x x small (full.others x n) ∙ one x x small m ∙ has_insert_same 0 x

    only : (l x : ℕ) → l < 128 → x < 128 → reaches g l x ≡ true → (has d l ≡ true) ⊎ (has d l ≡ false) → (has u l ≡ true) ⊎ (has u l ≡ false)
        → (has u x ≡ true) × ((has d l ≡ true) ⊎ (l ≡ x))
    only l x small fits h (inl q) w = (sym (all l x fits q) ∙ h, inl q)
    only l x small fits h (inr n) (inl w) = ⊎_elim (λ z. absurd (false≢true (sym (has_empty x) ∙ z))) found (insert_cases 0 l x here)
      where
        here : has (insert 0 l) x ≡ true
        here = sym (one l x fits w) ∙ sym (row_same f g l x fits (full.others l n)) ∙ h

        found : x ≡ l → (has u x ≡ true) × ((has d l ≡ true) ⊎ (l ≡ x))
        found z = (ap (has u) z ∙ w, inr (sym z))
    only l x small fits h (inr n) (inr w) =
        absurd
        (false≢true
        (sym (has_empty x) ∙ sym (row_reaches e l 0 x fits (subst (λ (z : ℕ). z < 2 ^ 64) (sym (zeros (2 * l))) (omega arith)) (nothing l))
        ∙ sym (row_same e f l x fits (owned.others l w)) ∙ sym (row_same f g l x fits (full.others l n)) ∙ h))
      where
        nothing : (l : ℕ) → joined (high e l) (low e l) ≡ 0
        nothing l = ap₂ joined (zeros (2 * l + 1)) (zeros (2 * l))

-- the rows of a set get v
pub added : (s v : ℕ) (e f : List ℕ) → Each (Gained v) s e f → Added s v e f
added s v e f gained a b small = go (has s a) refl
  where
    before : ℕ
    before = joined (high e a) (low e a)

    go : (t : Bool) → has s a ≡ t → has (joined (high f a) (low f a)) b ≡ (has before b || (t && has v b))
    go true h = ap (λ (z : ℕ). has z b) (gained.done a h) ∙ has_union before v b
    go false h =
        let same = gained.others a h in
        ap (λ (z : ℕ). has z b) (ap₂ joined same.1 same.0) ∙ sym (or_none (has before b))
      where
        or_none : (t : Bool) → (t || false) ≡ t
        or_none true = refl
        or_none false = refl

-- rows of a set one after the other, by its lowest literal: what is left, once done, makes the whole
pub record Going (R : ℕ → ℕ → ℕ → ℕ → ℕ → Type 0) (s : ℕ) (before : List ℕ) (left : ℕ) (e : List ℕ) : Type 0 where
  pub sized : length e ≡ 256
  pub rest : (f : List ℕ) → Each R left e f → Each R s before f

pub going_none : (R : Change) (s left : ℕ) (before : List ℕ) → left ≡ s → length before ≡ 256 → Going R s before left before
going_none R s left before e long = rw e (record { sized = long; rest = λ f w. w })

pub going_more : (R : Change) (s : ℕ) (before : List ℕ) (left : ℕ) (e : List ℕ) (b next : ℕ) → LowestBelow 128 left b × (next ≡ minus left (2 ^ b))
    → (lo hi : ℕ) (g : List ℕ) → g ≡ set (set e (2 * b) lo) (2 * b + 1) hi
    → R b (low e b) (high e b) lo hi → Going R s before left e → Going R s before next g
going_more R s before left e b next (lowest, en) lo hi g eg new so = rw (en, eg) (record {
  sized = stored_length e b lo hi ∙ so.sized;
  rest = λ f w. so.rest f (each_more R left b lo hi e lowest.member (omega (arith, lowest.small, so.sized)) new f w);
})

pub going_all : (R : Change) (s : ℕ) (before : List ℕ) (left : ℕ) (e : List ℕ) → left ≡ 0 → Going R s before left e
    → Each R s before e
going_all R s before left e z so = so.rest e (each_none R left e z)
