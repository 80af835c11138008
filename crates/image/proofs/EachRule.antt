-- Rule by rule: what one rule's verdict says of all from it on.
use mathlib.Core.Path.{◌≡◌, refl, ap, ap₂}
use mathlib.Core.Bool.{Bool, true, false}
use mathlib.Core.List.{List}
use Prim.Native.Nat.{ℕ, suc, ◌+◌, ◌-◌, ◌<◌, ◌≤◌}
use native.Mathlib.Numerals.{add-one}
use native.Mathlib.Omega.{arith}
use lib.Dec.{eqb}
use Rattle.lists.specs.Lists.{choose}
use Rattle.program.specs.Program.{strict, defeasible, next_bit}
use Rattle.layout.specs.Layout.{atoms_of, part_of, kind_byte}
use Rattle.layout.specs.Reading.{rule_in}
use Rattle.layout.specs.declared.Cause.TheVariants.{RepeatedRule}
use Rattle.layout.specs.Causes.{Verdict, accepted, refuse, and_then, bad_repeat, part_verdict, rule_verdict, count_kind, rules_verdict}

module _ (s : List ℕ) (before i : ℕ) where
  pub rule_by : (v : Verdict) (b : Bool) → part_verdict (part_of s i) (atoms_of s) before i ≡ v → bad_repeat s i ≡ b → rule_verdict s before i ≡ and_then v (refuse b RepeatedRule i)
  unfolding rule_verdict
  rule_by v b p q = ap₂ (λ (x : Verdict) (y : Bool). and_then x (refuse y RepeatedRule i)) p q

  -- the rules from rule i to rule n
  module _ (n : ℕ) (more : i < n) where
    pub rules_next : (v : Verdict) → rule_verdict s before i ≡ v → rules_verdict s before i (n - i) ≡ and_then v (rules_verdict s (count_kind (kind_byte (part_of s i)) before) (i + 1) (n - (i + 1)))
    unfolding rules_verdict
    rules_next v e =
        let z : n - i ≡ suc (n - (i + 1)) = omega arith in
        rw (z, add-one) (ap (λ (w : Verdict). and_then w (rules_verdict s (count_kind (kind_byte (part_of s i)) before) (suc i) (n - suc i))) e)

  pub rules_end : (n : ℕ) → n ≤ i → rules_verdict s before i (n - i) ≡ accepted
  unfolding rules_verdict
  rules_end n h = let z : n - i ≡ 0 = omega arith in rw z refl

-- ---- a rule's kind, by its byte
module _ (part : List ℕ) where
  pub kind_defeasible : eqb (kind_byte part) 1 ≡ true → (rule_in part).kind ≡ defeasible
  kind_defeasible e = ap (λ (b : Bool). choose b defeasible strict) e

  pub kind_strict : eqb (kind_byte part) 1 ≡ false → (rule_in part).kind ≡ strict
  kind_strict e = ap (λ (b : Bool). choose b defeasible strict) e

  -- the count of defeasible rules goes with their bits
  pub kind_counted : (before : ℕ) → count_kind (kind_byte part) before ≡ next_bit (rule_in part).kind before
  kind_counted before = go (eqb (kind_byte part) 1)
    where
      go : (b : Bool) → choose b (suc before) before ≡ next_bit (choose b defeasible strict) before
      go true = refl
      go false = refl
