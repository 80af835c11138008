-- What Π with a mask derives, as the mask grows and shrinks.
use mathlib.Core.Path.{◌≡◌, sym, ap, ◌∙◌}
use mathlib.Core.Bool.{true, false, not, false≢true}
use mathlib.Core.List.{List, Memᴰ}
use mathlib.Core.Logic.{inl, inr, ⊎_elim}
use Prim.Native.Nat.{ℕ, ◌^◌, ◌<◌}
use lib.ListN.{length}
use lib.Dec.{eqb}
use borrow.Author.Tests.{ne_eqb}
use Rattle.literals.specs.Sets.{has, has_all, minus, within}
use Rattle.literals.proofs.Tests.{and_intro}
use Rattle.literals.proofs.Members.{has_minus_power}
use Rattle.literals.proofs.Within.{within_each, within_refl, within_empty, minus_within}
use Rattle.program.specs.Program.{Rule, is_defeasible, bit_of, rule_at, Π_mask, Π}
use Rattle.derivation.specs.Derivation.{Derives, HeadsBelow}
use Rattle.derivation.specs.Closure.{closure, contradictory}
use Rattle.derivation.proofs.Closures.{closure_mono, closure_idle, closure_given}
use Rattle.derivation.proofs.Chains.{derives_mono}
use Rattle.derivation.proofs.Contradictions.{contradictory_mono}
use Rattle.derivation.proofs.Choices.{Π_with_mono, Π_with_rules, Π_with_cases, Π_with_but_one}
use Rattle.argument.specs.Argument.{Subset}
use Rattle.argument.specs.Inside.MaskClosure.{mask_closure}

-- the mask without one bit
pub minus_subset : (m b : ℕ) → Subset (minus m (2 ^ b)) m
minus_subset m b = within_each (minus m (2 ^ b)) m (minus_within m (2 ^ b))

module _ (rules : List Rule) where
  pub mask_rules : (n m : ℕ) → Subset n m → (r : Rule) → Memᴰ r (Π_mask n rules) → Memᴰ r (Π_mask m rules)
  mask_rules n m w = Π_with_mono rules (has n) (has m) w

  pub mask_strict : (m : ℕ) (r : Rule) → Memᴰ r (Π rules) → Memᴰ r (Π_mask m rules)
  mask_strict m = Π_with_mono rules (λ _. false) (has m) (λ b e. absurd (false≢true e))

  pub mask_heads : (k m : ℕ) → HeadsBelow k rules → HeadsBelow k (Π_mask m rules)
  mask_heads k m h r i = h r (Π_with_rules rules (has m) r i)

  pub mask_derives_mono : (n m : ℕ) → Subset n m → (h : ℕ) → Derives (Π_mask n rules) h → Derives (Π_mask m rules) h
  mask_derives_mono n m w = derives_mono (Π_mask n rules) (Π_mask m rules) (mask_rules n m w)

  pub mask_closure_mono : (n m : ℕ) → Subset n m → within (mask_closure rules n) (mask_closure rules m) ≡ true
  mask_closure_mono n m w = closure_mono (Π_mask n rules) (Π_mask m rules) (mask_rules n m w) 0 0 (within_refl 0)

  -- a superset of a contradictory mask is contradictory
  pub mask_contradictory_mono : (n m : ℕ) → Subset n m → contradictory (Π_mask n rules) ≡ true → contradictory (Π_mask m rules) ≡ true
  mask_contradictory_mono n m w = contradictory_mono (Π_mask n rules) (Π_mask m rules) (mask_rules n m w)

  -- a rule whose body is not derived without it adds nothing to a mask
  pub mask_closure_idle : (m i : ℕ) → i < length rules → is_defeasible (rule_at rules i).kind ≡ true
      → has_all (mask_closure rules (minus m (2 ^ bit_of rules i))) (rule_at rules i).body ≡ false
      → mask_closure rules m ≡ mask_closure rules (minus m (2 ^ bit_of rules i))
  mask_closure_idle m i l d e =
      closure_idle (Π_mask less rules) (Π_mask m rules) (mask_rules less m (minus_subset m b)) 0 (λ r j.
      ⊎_elim (λ k. inl k) (λ q. inr (ap (λ (x : Rule). has_all (mask_closure rules less) x.body) q ∙ e))
      (Π_with_but_one rules (has m) (has less) i l d others r j))
    where
      b : ℕ
      b = bit_of rules i

      less : ℕ
      less = minus m (2 ^ b)

      others : (k : ℕ) → (k ≡ b → ⊥) → has m k ≡ true → has less k ≡ true
      others k n h = has_minus_power m b k ∙ and_intro (has m k) (not (eqb k b)) h (ap not (ne_eqb k b n))

  -- with the heads of the mask's rules given, the strict rules are enough
  pub mask_closure_strict : (m u : ℕ) → within u (mask_closure rules m) ≡ true
      → ((i : ℕ) → i < length rules → is_defeasible (rule_at rules i).kind ≡ true → has m (bit_of rules i) ≡ true
      → has u (rule_at rules i).head ≡ true) → closure (Π rules) u ≡ mask_closure rules m
  mask_closure_strict m u w heads =
      closure_given (Π rules) (Π_mask m rules) (mask_strict m) 0 u
      (within_empty u) w (λ r j. ⊎_elim (λ k. inl k) (λ c. inr (given r c)) (Π_with_cases rules (has m) r j))
    where
      given : (r : Rule)
          → (i : ℕ) × (i < length rules) × (rule_at rules i ≡ r) × (is_defeasible r.kind ≡ true) × (has m (bit_of rules i) ≡ true)
          → has u r.head ≡ true
      given r (i, l, e, d, c) =
          ap (λ (x : Rule). has u x.head) (sym e)
          ∙ heads i l (ap (λ (x : Rule). is_defeasible x.kind) e ∙ d) c
