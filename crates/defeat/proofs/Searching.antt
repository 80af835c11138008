-- A literal that a mask derives, searched for in a word, one member at a time.
use mathlib.Core.Path.{◌≡◌, refl, sym, ap, ◌∙◌}
use mathlib.Core.Bool.{Bool, true, false, not, false≢true}
use mathlib.Core.List.{List}
use Prim.Native.Nat.{ℕ, ◌+◌, ◌-◌, ◌^◌, ◌<◌}
use native.Mathlib.Decide.{ℕ_discrete, dec_lt}
use native.Mathlib.Omega.{arith}
use lib.Dec.{eqb}
use borrow.Author.Tests.{ne_eqb}
use Rattle.literals.specs.Sets.{has, minus}
use Rattle.literals.specs.Inside.Words.{joined}
use Rattle.literals.proofs.Tests.{and_intro, and_left}
use Rattle.literals.proofs.Members.{has_bound, has_empty, has_minus_power}
use Rattle.literals.proofs.Words.{has_joined_low, has_joined_high}
use Rattle.argument.specs.Argument.{mask_of, literal_of}
use Rattle.closures.specs.Inside.Table.{tells}
use Rattle.excluded.specs.Inside.Exclusions.{excluded_by}
use Rattle.defeat.specs.Inside.Steps.{SomeDerived, AttacksBy}

pub some_none : (rows : List ℕ) (word first m : ℕ) → word ≡ 0 → SomeDerived rows word first m false
some_none rows word first m e = rw e (record {
  says = λ z. absurd (false≢true z);
  passes = λ b h. absurd (false≢true (sym (has_empty b) ∙ h));
})

pub some_here : (rows : List ℕ) (word first m b : ℕ) → has word b ≡ true → tells rows (first + b) m ≡ true → SomeDerived rows word first m true
some_here rows word first m b h t = record { says = λ z. (b, h, t); passes = λ j g q. refl }

pub some_more : (rows : List ℕ) (word first m b : ℕ) (r : Bool) → tells rows (first + b) m ≡ false
    → SomeDerived rows (minus word (2 ^ b)) first m r → SomeDerived rows word first m r
some_more rows word first m b r off more = record {
  says = λ z.
      let found = more.says z in
      (found.0, and_left (has word found.0) (not (eqb found.0 b)) (sym (has_minus_power word b found.0) ∙ found.1), found.2);
  passes = λ j h t. at j h t (ℕ_discrete j b);
}
  where
    at : (j : ℕ) → has word j ≡ true → tells rows (first + j) m ≡ true → Dec (j ≡ b) → r ≡ true
    at j h t (yes e) = absurd (false≢true (sym off ∙ ap (λ (i : ℕ). tells rows (first + i) m) (sym e) ∙ t))
    at j h t (no o) = more.passes j (has_minus_power word b j ∙ and_intro (has word j) (not (eqb j b)) h (ap not (ne_eqb j b o))) t

-- in the low word, or else in the high one
module _ (exclusions rows : List ℕ) (x y hi lo : ℕ) (fits : lo < 2 ^ 64) (row : excluded_by exclusions (literal_of x) ≡ joined hi lo) where
  member : (z : ℕ) → has (joined hi lo) z ≡ true → has (excluded_by exclusions (literal_of x)) z ≡ true
  member z h = ap (λ (s : ℕ). has s z) row ∙ h

  pub attacks_low : SomeDerived rows lo 0 (mask_of y) true → AttacksBy exclusions rows x y true
  attacks_low low = record {
    says = λ z.
        let found = low.says refl in
        let same : 0 + found.0 ≡ found.0 = omega arith in (
          found.0,
          member found.0 (has_joined_low hi lo found.0 (has_bound lo 64 found.0 fits found.1) ∙ found.1),
          ap (λ (l : ℕ). tells rows l (mask_of y)) (sym same) ∙ found.2,
        );
    passes = λ z h t. refl;
  }

  pub attacks_high : (r : Bool) → SomeDerived rows lo 0 (mask_of y) false → SomeDerived rows hi 64 (mask_of y) r → AttacksBy exclusions rows x y r
  attacks_high r low high = record {
    says = λ z.
        let found = high.says z in
        (64 + found.0, member (64 + found.0) (has_joined_high hi lo found.0 fits ∙ found.1), found.2);
    passes = λ z h t. at z (ap (λ (s : ℕ). has s z) (sym row) ∙ h) t (dec_lt z 64);
  }
    where
      at : (z : ℕ) → has (joined hi lo) z ≡ true → tells rows z (mask_of y) ≡ true → Dec (z < 64) → r ≡ true
      at z h t (yes l) =
          let same : 0 + z ≡ z = omega arith in
          absurd (false≢true (low.passes z (sym (has_joined_low hi lo z l) ∙ h) (ap (λ (i : ℕ). tells rows i (mask_of y)) same ∙ t)))
      at z h t (no l) =
          let split : 64 + (z - 64) ≡ z = omega arith in
          high.passes (z - 64) (sym (has_joined_high hi lo (z - 64) fits) ∙ ap (has (joined hi lo)) split ∙ h)
          (ap (λ (i : ℕ). tells rows i (mask_of y)) split ∙ t)
