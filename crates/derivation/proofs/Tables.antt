-- The rule table against the rules that it holds.
use mathlib.Core.Path.{◌≡◌, refl, sym, ap, ◌∙◌, subst}
use mathlib.Core.Bool.{true, not, ◌||◌}
use mathlib.Core.List.Memᴰ
use mathlib.Core.List.{List, [], ◌∷◌, Memᴰ}
use mathlib.Core.Logic.{⊎_elim}
use Prim.Native.Nat.{ℕ, suc, ◌^◌, ◌<◌}
use native.Mathlib.Omega.{arith}
use lib.ListN.{length}
use borrow.Author.Tests.{eq-eqb}
use Rattle.literals.specs.Sets.{has, within}
use Rattle.literals.proofs.Tests.{same_test}
use Rattle.literals.proofs.Bits.{bit_power_only}
use Rattle.literals.proofs.Members.{has_power, has_bit}
use Rattle.literals.proofs.Within.{within_each, each_within, within_empty}
use Rattle.program.specs.Program.{Kind, strict, defeasible, Rule, Program, is_defeasible, rule_at}
use Rattle.program.specs.Limits.{Limits}
use Rattle.program.specs.Inside.Table.{need_of, Holds, Shaped}
use Rattle.derivation.specs.Derivation.{HeadsBelow}
use Rattle.derivation.proofs.Choices.{Π_with_rules, Π_with_at}

-- a rule is chosen exactly if the mask has the bits that it needs
pub need_chosen : (k : Kind) (b mask : ℕ) → within (need_of k b) mask ≡ (not (is_defeasible k) || has mask b)
need_chosen strict b mask = within_empty mask
need_chosen defeasible b mask =
    same_test (within (2 ^ b) mask) (has mask b)
    (λ w. within_each (2 ^ b) mask w b (has_power b b ∙ eq-eqb b b refl))
    (λ h. each_within (2 ^ b) mask (λ k e. ap (has mask) (bit_power_only b k (has_bit (2 ^ b) k e)) ∙ h))

-- what holds of each row holds of each rule
pub each_rule : (P : Rule → Type 0) (l : List Rule) → ((i : ℕ) → i < length l → P (rule_at l i)) → (r : Rule) → Memᴰ r l → P r
each_rule P [] f r d = absurd (Memᴰ.not-nil d)
each_rule P (q ∷ l) f r d =
    ⊎_elim (λ e. subst P (sym e) (f 0 (omega arith))) (each_rule P l (λ i h. f (suc i) (omega arith)) r) (Memᴰ.cases_cons d)

pub table_heads : (p : Program) (t : List ℕ) → Holds p t → Shaped t → HeadsBelow 128 p.rules
table_heads p t h s =
    each_rule (λ (r : Rule). r.head < 128) p.rules (λ i l.
    subst (λ (x : ℕ). x < 128) (h.row i l).head_is (s.literals i (subst (λ (n : ℕ). i < n) (sym h.rules_are) l)))

-- a program within the limits has no other literals than the 128
pub limits_heads : {p : Program} → Limits p → HeadsBelow 128 p.rules
limits_heads l r i = let k = l.heads_below r i in let n = l.atoms_limit in omega arith

-- the table of a program within the limits: at most 96 rules, heads below 128
pub limits_shaped : (p : Program) (t : List ℕ) → Holds p t → Limits p → Shaped t
limits_shaped p t holds limits = record {
  few = omega (arith, holds.rules_are, limits.rules_limit);
  literals = λ i l.
      let inside : i < length p.rules = omega (arith, holds.rules_are) in
      let there = Π_with_rules p.rules (λ _. true) (rule_at p.rules i) (Π_with_at p.rules (λ _. true) i inside refl) in
      omega (arith, (holds.row i inside).head_is, limits_heads limits (rule_at p.rules i) there);
}
