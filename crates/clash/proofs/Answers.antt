-- The ways out of the call.
use mathlib.Core.Path.{◌≡◌, refl, sym, ap, ◌∙◌}
use mathlib.Core.Bool.{Bool, true, false}
use mathlib.Core.List.{List}
use Prim.Native.Nat.{ℕ, ◌<◌, ◌≤◌}
use lib.Dec.{ltb}
use lib.ListN.{length}
use borrow.Author.Tests.{lt-ltb, le-ltb}
use Rattle.program.specs.Program.{Rule, Π}
use Rattle.program.specs.Inside.Table.{rule_count, Holds, Shaped}
use Rattle.calls.specs.Verdicts.{told, Verdict, Accepted, Refused}
use Rattle.layout.specs.Layout.{rules_of}
use Rattle.layout.specs.Causes.{verdict}
use Rattle.layout.specs.Causes as images
use Rattle.layout.specs.Reading.{program_in}
use Rattle.image.proofs.Accepted.{accepted_limits}
use Rattle.image.proofs.Readings.{rules_length}
use Rattle.derivation.proofs.Tables.{limits_shaped}
use Rattle.derivation.specs.Closure.{contradictory}
use Rattle.calls.specs.Outcomes as outcomes
use Rattle.calls.specs.Outcomes.{by_verdict}
use Rattle.calls.specs.Calls.{front, unless_refused}
use Rattle.clash.specs.Clash.{among, strict_rules, pruned, clash_of, marks_from}
use Rattle.clash.specs.Calls.{clash_verdict, marks_of, clashed_by, clash_table}
use Rattle.clash.proofs.Strict.{among_strict}
use Rattle.clash.proofs.Refusals.{clashes, verdict_by}

-- a rule table that was filled
pub shaped : (s t : List ℕ) → verdict s ≡ images.accepted → Holds (program_in s) t → Shaped t
shaped s t e h = limits_shaped (program_in s) t h (accepted_limits s e)

pub count_is : (s t : List ℕ) (n : ℕ) → Holds (program_in s) t → n ≡ rule_count t → n ≡ rules_of s
unfolding program_in
count_is s t n h e = e ∙ h.rules_are ∙ rules_length s 0 (rules_of s)

-- all strict rules together
pub tested : (rules : List Rule) (k : ℕ) (r : Bool) → r ≡ contradictory (among k rules) → k ≡ strict_rules rules
    → contradictory (Π rules) ≡ r
tested rules k r e f =
    sym (e ∙ ap (λ (x : ℕ). contradictory (among x rules)) f ∙ ap contradictory (among_strict rules))

module _ (s table : List ℕ) where
  answer : (v : Verdict) → clash_verdict s (length table) ≡ v
      → (by_verdict v (rules_of s) ≡ clashed_by s (length table)) × (unless_refused v (front (marks_of s) table) table ≡ clash_table s table)
  unfolding clashed_by clash_table
  answer v e = (
    sym (ap (λ (w : Verdict). by_verdict w (rules_of s)) e),
    sym (ap (λ (w : Verdict). unless_refused w (front (marks_of s) table) table) e),
  )

  pub call_refused : (n k : ℕ) → told (verdict s) ≡ Refused n k
      → (outcomes.Refused n k ≡ clashed_by s (length table)) × (table ≡ clash_table s table)
  call_refused n k e = answer (Refused n k) (verdict_by s (length table) (Refused n k) (clashes s) (ltb (length table) (rules_of s)) e refl refl)

  module _ (read : verdict s ≡ images.accepted) where
    pub call_28 : clashes s ≡ false → (outcomes.Refused 28 0 ≡ clashed_by s (length table)) × (table ≡ clash_table s table)
    call_28 e = answer (Refused 28 0) (verdict_by s (length table) Accepted false (ltb (length table) (rules_of s)) (ap told read) e refl)

    module _ (clashing : clashes s ≡ true) where
      pub call_29 : length table < rules_of s → (outcomes.Refused 29 0 ≡ clashed_by s (length table)) × (table ≡ clash_table s table)
      call_29 l =
          answer (Refused 29 0) (verdict_by s (length table) Accepted true true (ap told read) clashing (lt-ltb (length table) (rules_of s) l))

      pub call_done : rules_of s ≤ length table → (n k : ℕ) (after : List ℕ) → n ≡ rules_of s → k ≡ clash_of (program_in s).rules
          → after ≡ front (marks_from k 0 n) table → (outcomes.Given n ≡ clashed_by s (length table)) × (after ≡ clash_table s table)
      unfolding marks_of
      call_done l n k after en ek ea =
          let o = answer Accepted (verdict_by s (length table) Accepted true false (ap told read) clashing (le-ltb (length table) (rules_of s) l)) in (
            ap outcomes.Given en ∙ o.0,
            ea ∙ ap (λ (x : ℕ). front (marks_from x 0 n) table) ek
                ∙ ap (λ (m : ℕ). front (marks_from (clash_of (program_in s).rules) 0 m) table) en ∙ o.1,
          )

-- what was pruned from all strict rules
pub pruned_clash : (rules : List Rule) (all k : ℕ) → all ≡ strict_rules rules → k ≡ pruned rules (length rules) all → k ≡ clash_of rules
unfolding clash_of
pruned_clash rules all k e f = f ∙ ap (pruned rules (length rules)) e
