-- The masks for which f has each literal of a body.
use mathlib.Core.Path.{◌≡◌, sym, ap, ◌∙◌}
use mathlib.Core.Bool.{true, not, ◌&&◌, false≢true}
use mathlib.Core.List.{List}
use Prim.Native.Nat.{ℕ, ◌/◌, ◌^◌}
use native.Mathlib.Decide.{ℕ_discrete}
use lib.Bits.{bit_and}
use lib.Dec.{eqb}
use borrow.Author.Tests.{ne_eqb}
use Rattle.literals.specs.Sets.{has, minus, within}
use Rattle.literals.proofs.Tests.{and_intro, and_left, and_right}
use Rattle.literals.proofs.Members.{has_and, has_empty, has_minus_power}
use Rattle.program.specs.Inside.Table.{body_at, need_at}
use Rattle.rows.specs.Steps.{LowWord, Met, Ready}

-- with no literal left, and with one literal more
pub met_none : (f : ℕ → ℕ) (literals s : ℕ) → literals ≡ 0 → Met f literals s s
met_none f literals s e = rw e (record {
  started = λ k h. h;
  each = λ k h l m. absurd (false≢true (sym (has_empty l) ∙ m));
  passes = λ k h g. h;
})

module _ (f : ℕ → ℕ) (literals s b : ℕ) (member : has literals b ≡ true) where
  abbrev less : ℕ
  less = minus literals (2 ^ b)

  abbrev cut : ℕ
  cut = bit_and s (f b)

  kept : (j : ℕ) → has literals j ≡ true → (j ≡ b → ⊥) → has less j ≡ true
  kept j h n = has_minus_power literals b j ∙ and_intro (has literals j) (not (eqb j b)) h (ap not (ne_eqb j b n))

  both : (k : ℕ) → has cut k ≡ true → (has s k ≡ true) × (has (f b) k ≡ true)
  both k h =
      let e : (has s k && has (f b) k) ≡ true = sym (has_and s (f b) k) ∙ h in
      (and_left (has s k) (has (f b) k) e, and_right (has s k) (has (f b) k) e)

  pub met_more : (x : ℕ) → Met f (minus literals (2 ^ b)) (bit_and s (f b)) x → Met f literals s x
  met_more x m = record {
    started = λ k h. (both k (m.started k h)).0;
    each = λ k h j g. at k h j g (ℕ_discrete j b);
    passes = λ k h g.
        m.passes k
        (has_and s (f b) k ∙ and_intro (has s k) (has (f b) k) h (g b member))
        (λ j q. g j (and_left (has literals j) (not (eqb j b)) (sym (has_minus_power literals b j) ∙ q)));
  }
    where
      at : (k : ℕ) → has x k ≡ true → (j : ℕ) → has literals j ≡ true → Dec (j ≡ b) → has (f j) k ≡ true
      at k h j g (yes e) = ap (λ (i : ℕ). has (f i) k) e ∙ (both k (m.started k h)).1
      at k h j g (no n) = m.each k h j (kept j g n)

-- the masks in which a rule is on
pub ready_met : (t : List ℕ) (i w : ℕ) (f : ℕ → ℕ) (body : ℕ) → body ≡ body_at t i → (s x : ℕ) → LowWord (need_at t i) s
    → within (need_at t i / 64) w ≡ true → Met f body s x → Ready t i w f x
ready_met t i w f body body_is s x low needed met = record {
  chosen = λ k l h. sym (low w k needed l) ∙ met.started k h;
  body = λ k l h j d. met.each k h j (ap (λ (z : ℕ). has z j) body_is ∙ d);
  passes = λ k l e p. met.passes k (low w k needed l ∙ e) (λ j g. p j (ap (λ (z : ℕ). has z j) (sym body_is) ∙ g));
}
