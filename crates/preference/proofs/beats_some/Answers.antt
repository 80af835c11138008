use mathlib.Core.Path.{◌≡◌, sym, ap, ◌∙◌}
use mathlib.Core.Bool.{Bool, true, not}
use mathlib.Core.List.{List}
use Prim.Native.Nat.{ℕ, ◌^◌}
use native.Mathlib.Omega.{arith}
use lib.Bits.{bit_and}
use borrow.Author.Tests.{eq-eqb, ne_eqb}
use Rattle.literals.specs.Sets.{has, minus}
use Rattle.literals.proofs.Members.{has_bound, minus_less}
use Rattle.program.specs.Program.{Program}
use Rattle.program.specs.Limits.{Limits, Mask}
use Rattle.program.specs.Inside.Table.{Holds, beaten_at}
use Rattle.preference.specs.Preference.{beats_some}
use Rattle.preference.proofs.Preferences.{beats_some_none, beats_some_met, beats_some_rest}
use Rattle.preference.proofs.beats_some.Invariants.{Left}
use Rattle.preference.proofs.beats_some.Goals as goal

-- what the answer is to be, of every program that the table holds
abbrev Answers : List ℕ → ℕ → ℕ → Bool → Type 0
Answers t x z answer = (p : Program) → Limits p → Holds p t → Mask p x → answer ≡ beats_some p x z

-- a turn at the bit b of `rest`, with the mask of what its rule beats
module _ {t : List ℕ} {x z rest : ℕ} (left : Left t x z rest) (b mask : ℕ) (h : has rest b ≡ true)
    (e : mask ≡ beaten_at t b) where
  met : (bit_and mask z ≡ 0 → ⊥) → Answers t x z true
  met n p limits holds below =
      let meet = ap not (ne_eqb (bit_and mask z) 0 n) in
      sym (beats_some_met limits holds rest z b (omega (arith, left.fewer)) h (rw e at meet))
      ∙ left.same p limits holds below

  next : bit_and mask z ≡ 0 → Left t x z (minus rest (2 ^ b))
  next q = record {
    fewer = omega (arith, left.fewer, minus_less rest b h);
    same = λ p limits holds below.
        let apart = ap not (eq-eqb (bit_and mask z) 0 q) in
        beats_some_rest limits holds rest z b (omega (arith, left.fewer)) h (rw e at apart)
        ∙ left.same p limits holds below;
  }

pub beaten-requires : goal.beaten-requires
beaten-requires c = omega (arith, has_bound c.loop-bit.bit-iterator.left 16 c.in-Some.bit (omega (arith, c.loop-bit.invariant.fewer)) c.in-Some.ensures.steps.0.member)

pub returns-then-beaten-z-ne0 : goal.returns-then-beaten-z-ne0
returns-then-beaten-z-ne0 c = met c.loop-bit.invariant c.in-Some.bit c.beaten.result c.in-Some.ensures.steps.0.member c.beaten.ensures c.if-beaten-z-ne0.true

pub loop-bit-preserved : goal.loop-bit-preserved
loop-bit-preserved c = rw c.in-Some.ensures.steps.1
    (next c.loop-bit.invariant c.in-Some.bit c.beaten.result c.in-Some.ensures.steps.0.member c.beaten.ensures c.if-beaten-z-ne0.false)

pub returns : goal.returns
returns c p limits holds below = let l = c.loop-bit in
    let a = c.args in
    sym (ap (λ (m : ℕ). beats_some p m a.z) c.in-None.ensures.steps.0 ∙ beats_some_none p a.z)
    ∙ l.invariant.same p limits holds below
