-- The words within a span, in descending order.
use mathlib.Core.Path.{◌≡◌, ap, ◌∙◌}
use mathlib.Core.Bool.{true}
use mathlib.Core.Logic.{⊎_elim}
use Prim.Native.Nat.{ℕ, ◌+◌, ◌-◌, ◌/◌, ◌%◌, ◌<◌, ◌≤◌}
use native.Mathlib.Omega.{arith}
use lib.Arith.{bin_ind}
use lib.Bits.{bit_and, and_step, and_le_l}
use borrow.Author.Tests.{eqb-true}
use Rattle.literals.specs.Sets.{within}
use Rattle.literals.proofs.Within.{within_le, within_refl}
use Rattle.rows.specs.Span.{Bounds, Greatest}
use Rattle.rows.proofs.Views.{cut_within}
use Rattle.literals.proofs.Bits.{digit_cases}

-- within, by halves
within_half : (a f : ℕ) → bit_and a f ≡ a → (bit_and (a / 2) (f / 2) ≡ a / 2) × (a % 2 ≤ f % 2)
within_half a f e =
    (omega (arith, and_step a f), omega (arith, and_step a f))

submask_below : (i f v : ℕ) → bit_and i f ≡ i → bit_and v f ≡ v → v < i → v ≤ bit_and (i - 1) f
submask_below =
    bin_ind (λ (i : ℕ). (f v : ℕ) → bit_and i f ≡ i → bit_and v f ≡ v → v < i → v ≤ bit_and (i - 1) f) (λ f v p q l. absurd (omega arith))
    (λ i half f v p q l. ⊎_elim (λ even. by_even i half f v p q l even) (λ odd. by_odd i f v p q l odd) (digit_cases (i % 2) (omega arith)))
  where
    by_odd : (i f v : ℕ) → bit_and i f ≡ i → bit_and v f ≡ v → v < i → i % 2 ≡ 1 → v ≤ bit_and (i - 1) f
    by_odd i f v p q l odd =
        let h = within_half i f p in
        let same : (i - 1) / 2 ≡ i / 2 = omega arith in
        let e : bit_and ((i - 1) / 2) (f / 2) ≡ i / 2 = ap (λ (x : ℕ). bit_and x (f / 2)) same ∙ h.0 in
        omega (arith, and_step (i - 1) f)

    by_even : (i : ℕ) → ((f v : ℕ) → bit_and (i / 2) f ≡ i / 2 → bit_and v f ≡ v → v < i / 2 → v ≤ bit_and (i / 2 - 1) f)
        → (f v : ℕ) → bit_and i f ≡ i → bit_and v f ≡ v → v < i → i % 2 ≡ 0 → v ≤ bit_and (i - 1) f
    by_even i half f v p q l even =
        let h = within_half i f p in
        let g = within_half v f q in
        let same : (i - 1) / 2 ≡ i / 2 - 1 = omega arith in
        let e : bit_and ((i - 1) / 2) (f / 2) ≡ bit_and (i / 2 - 1) (f / 2) = ap (λ (x : ℕ). bit_and x (f / 2)) same in
        let less : v / 2 ≤ bit_and (i / 2 - 1) (f / 2) = half (f / 2) (v / 2) h.0 g.0 (omega arith) in
        let low : v % 2 ≤ f % 2 = g.1 in
        omega (arith, and_step (i - 1) f)

-- none is left out before the first
pub bounds_all : (span : ℕ) → Bounds span (span + 1)
bounds_all span v q l =
    let last : span + 1 - 1 ≡ span = omega arith in
    let whole : bit_and (span + 1 - 1) span ≡ span = ap (λ (x : ℕ). bit_and x span) last ∙ eqb-true (bit_and span span) span (within_refl span) in
    omega (arith, within_le v span q)

-- nor behind a word
pub bounds_next : (span w : ℕ) → within w span ≡ true → Bounds span w
bounds_next span w p v q = submask_below w span v (eqb-true (bit_and w span) w p) (eqb-true (bit_and v span) v q)

pub next_greatest : (span e : ℕ) → Bounds span e → (e ≡ 0 → ⊥) → Greatest span e (bit_and (e - 1) span)
next_greatest span e bounds some = record {
  inside = cut_within (e - 1) span;
  below = omega (arith, and_le_l (e - 1) span);
  greatest = bounds;
}
