-- Values put at the words of a table, one literal at a time.
use mathlib.Core.Path.{◌≡◌, refl, sym, ap, ◌∙◌}
use mathlib.Core.Bool.{true, not, false≢true}
use mathlib.Core.List.{List}
use Prim.Native.Nat.{ℕ, ◌+◌, ◌^◌, ◌<◌}
use native.Mathlib.Decide.{ℕ_discrete}
use native.Mathlib.Omega.{arith}
use lib.Dec.{eqb}
use lib.ListN.{length, get_or, set, length-set}
use lib.Seq.{get_or-set_same, get_or-set_other}
use borrow.Author.Tests.{ne_eqb, eq-eqb}
use Rattle.literals.specs.Sets.{has, minus}
use Rattle.literals.proofs.Tests.{and_intro, and_left, and_right}
use Rattle.literals.proofs.Members.{has_empty, has_minus_power}
use Rattle.closing.specs.Inside.Steps.{Scattered}

pub scattered_none : (at s : ℕ) (f : ℕ → ℕ) (c : List ℕ) → s ≡ 0 → Scattered at s f c c
scattered_none at s f c e = rw e (record {
  sized = refl;
  hit = λ l h. absurd (false≢true (sym (has_empty l) ∙ h));
  miss = λ i g. refl;
})

-- one value, then the others
module _ (at s b : ℕ) (f : ℕ → ℕ) (c : List ℕ) (member : has s b ≡ true) (inside : at + b < length c) where
  was : (j : ℕ) → has (minus s (2 ^ b)) j ≡ true → (has s j ≡ true) × (j ≡ b → ⊥)
  was j e =
      let both = sym (has_minus_power s b j) ∙ e in (
        and_left (has s j) (not (eqb j b)) both,
        λ q. false≢true (sym (ap not (eq-eqb j b q)) ∙ and_right (has s j) (not (eqb j b)) both),
      )

  left : (j : ℕ) → has s j ≡ true → (j ≡ b → ⊥) → has (minus s (2 ^ b)) j ≡ true
  left j e o = has_minus_power s b j ∙ and_intro (has s j) (not (eqb j b)) e (ap not (ne_eqb j b o))

  pub scattered_more : (d : List ℕ) → Scattered at (minus s (2 ^ b)) f (set c (at + b) (f b)) d → Scattered at s f c d
  scattered_more d more = record {
    sized = more.sized ∙ length-set c (at + b) (f b);
    hit = λ j e. hit_at j e (ℕ_discrete j b);
    miss = λ i g.
        more.miss i (λ j e. g j (was j e).0)
        ∙ get_or-set_other c (at + b) i (f b) 0 (g b member);
  }
    where
      hit_at : (j : ℕ) → has s j ≡ true → Dec (j ≡ b) → get_or d (at + j) 0 ≡ f j
      hit_at j e (no o) = more.hit j (left j e o)
      hit_at j e (yes o) =
          ap (λ (x : ℕ). get_or d (at + x) 0) o
          ∙ more.miss (at + b) (λ k g q. (was k g).1 (let same : k ≡ b = omega arith in same))
          ∙ get_or-set_same c (at + b) (f b) 0 inside
          ∙ ap f (sym o)
