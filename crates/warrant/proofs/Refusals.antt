-- Demand 1: tables keep their length, a call is refused by a listed cause that applies, hands it back, and leaves its tables.
use mathlib.Core.Path.{◌≡◌, refl, sym, ap, ◌∙◌, subst}
use mathlib.Core.List.{List}
use mathlib.Core.Logic.{◌↔◌}
use Prim.Native.Nat.{ℕ, zero, suc, ◌≤◌, ◌<◌}
use native.Mathlib.Nat.{pow-le-pow_right}
use native.Mathlib.Omega.{arith}
use lib.ListN.{length}
use Rattle.program.specs.Program.{defeasibles}
use Rattle.calls.specs.Verdicts.{Verdict, Accepted, Refused}
use Rattle.layout.specs.Reading.{program_in}
use Rattle.image.proofs.Accepted.{accepted_limits}
use Rattle.argument.proofs.Lists.{list_length}
use Rattle.preference.specs.Preference.{preferred_test}
use Rattle.answer.specs.declared.Answer.{Answer}
use Rattle.answer.specs.declared.Answer.TheVariants as answers
use Rattle.answer.specs.Answer.{answer, code_of, tests, forest_entries}
use Rattle.answer.proofs.Answers.{answer_not_refused}
use Rattle.nodes.specs.declared.Node.{Node}
use Rattle.calls.specs.Outcomes.{by_verdict, code_in}
use Rattle.calls.specs.Outcomes as outcomes
use Rattle.calls.specs.Calls.{check_image, check_call, verdict_number, refusal_number, list_in, list_verdict, listed}
use Rattle.calls.specs.Calls.{count_number, list_table, list_call, unless_refused, front, query_verdict, query_arguments}
use Rattle.calls.specs.Calls.{query_column, query_nodes, column_in, node_of, trees_call, answered_number, Carries}
use Rattle.calls.specs.Calls.{Call, query, host, trees, asked, verdict_of, code_from, HandsBack}
use Rattle.calls.proofs.Refusals.{Bounded, check_judged, list_judged, call_judged, check_refused, list_refused, query_refused}
use Rattle.calls.proofs.Refusals.{check_accepted, list_accepted}
use Rattle.warrant.specs.Claims.{Demand_1}
use Rattle.warrant.proofs.Calls.{list_table_length, query_arguments_length, query_table_length, host_refused}
use Rattle.warrant.proofs.Calls.{queried_refused, call_answered}

-- ---- the number of a refusal, read back

carried : (n place : ℕ) → Bounded n place → Carries (refusal_number n place) n place
carried n place c = (omega arith, omega arith)

verdict_zero : (v : Verdict) → ((n place : ℕ) → v ≡ Refused n place → Bounded n place) → (v ≡ Accepted) ↔ (verdict_number v ≡ 0)
verdict_zero Accepted f = (λ e. refl, λ e. refl)
verdict_zero (Refused n place) f =
    let k = f n place refl in (
      λ e. absurd (let z : ◌≡◌ {A = ℕ} 0 1 = cc in omega arith),
      λ e. absurd (omega arith),
    )

listed_small : (v : Verdict) (count : ℕ) → (v ≡ Accepted → count < 0x1_0000_0000)
    → ((n place : ℕ) → v ≡ Refused n place → Bounded n place)
    → (v ≡ Accepted) ↔ (count_number (by_verdict v count) < 0x1_0000_0000)
listed_small Accepted count g f = (λ e. omega (arith, g refl), λ h. refl)
listed_small (Refused n place) count g f =
    let k = f n place refl in (
      λ e. absurd (let z : ◌≡◌ {A = ℕ} 0 1 = cc in omega arith),
      λ h. absurd (omega arith),
    )

code_limit : (a : Answer) → code_of a ≤ 5
code_limit (answers.Yes n) = omega arith
code_limit (answers.No n) = omega arith
code_limit (answers.Undecided n) = omega arith
code_limit answers.Unknown = omega arith
code_limit (answers.Unfinished n) = omega arith

module _ (s : List ℕ) where
  -- ---- check and list

  check_carries : (n place : ℕ) → check_image s ≡ Refused n place → Carries (check_call s) n place
  check_carries n place e =
      subst (λ v. Carries (verdict_number v) n place) (sym e) (carried n place (check_refused s n place e))

  -- the argument list of an accepted image is short
  count_small : check_image s ≡ Accepted → length (list_in s) < 0x1_0000_0000
  count_small e =
      let few = (accepted_limits s (check_accepted s e).0).defeasibles_limit in
      let power = pow-le-pow_right {n = 2} (omega arith) {i = defeasibles (program_in s).rules} {j = 16} few in
      omega (arith, list_length (program_in s).rules)

  list_hands_back : (room n place : ℕ) → list_verdict s room ≡ Refused n place
      → (listed s room ≡ outcomes.Refused n place) × Carries (list_call s room) n place
  unfolding listed
  list_hands_back room n place e = (
    ap (λ v. by_verdict v (length (list_in s))) e,
    subst (λ v. Carries (count_number (by_verdict v (length (list_in s)))) n place) (sym e)
        (carried n place (list_refused s room n place e)),
  )

  list_counts : (room : ℕ) → (list_verdict s room ≡ Accepted) ↔ (list_call s room < 0x1_0000_0000)
  unfolding listed
  list_counts room =
      listed_small (list_verdict s room) (length (list_in s)) (λ e. count_small (list_accepted s room e).0) (list_refused s room)

  -- ---- the calls that give an answer

  -- the number of the trees call
  trees_carries : (h b al nl n place : ℕ) → query_verdict s h b al nl ≡ Refused n place
      → trees_call s h b al nl ≡ refusal_number n place
  trees_carries h b al nl n place e = let r = ap answered_number (queried_refused s h b al nl n place e) in omega arith

  hands_back : (c : Call) (n place : ℕ) → verdict_of s c ≡ Refused n place → HandsBack s c n place
  hands_back (query h b al nl) n place e = queried_refused s h b al nl n place e
  hands_back (host h b) n place e = host_refused s h b n place (queried_refused s h b 4096 4096 n place e)
  hands_back (trees h b al nl) n place e =
      subst (λ r. Carries r n place) (sym (trees_carries h b al nl n place e))
      (carried n place (query_refused s h b al nl n place e))

  -- no code of an answer stands in a refusal
  no_answer : (c : Call) (n place : ℕ) → verdict_of s c ≡ Refused n place → 1 ≤ code_from s c → code_from s c ≤ 5 → ⊥
  no_answer (query h b al nl) n place e low high =
      let none = ap code_in (queried_refused s h b al nl n place e) in
      omega arith
  no_answer (host h b) n place e low high =
      let bare = host_refused s h b n place (queried_refused s h b 4096 4096 n place e) in
      let k = query_refused s h b 4096 4096 n place e in
      omega arith
  no_answer (trees h b al nl) n place e low high =
      let number = trees_carries h b al nl n place e in
      let k = query_refused s h b al nl n place e in
      omega arith

  answers_accepted : (c : Call) → (verdict_of s c ≡ Accepted) ↔ ((1 ≤ code_from s c) × (code_from s c ≤ 5))
  answers_accepted c = (to, λ k. from (verdict_of s c) refl k.0 k.1)
    where
      to : verdict_of s c ≡ Accepted → (1 ≤ code_from s c) × (code_from s c ≤ 5)
      to e =
          let a : Answer = answer (program_in s) (asked c).literal (asked c).budget in
          let same = (call_answered s c e).0 in
          let high = code_limit a in (
            one (code_from s c) (λ z.
                answer_not_refused (program_in s) (preferred_test (program_in s)) (asked c).literal (asked c).budget (sym same ∙ z)),
            omega arith,
          )
        where
          one : (n : ℕ) → (n ≡ 0 → ⊥) → 1 ≤ n
          one zero f = absurd (f refl)
          one (suc n) f = omega arith

      from : (v : Verdict) → verdict_of s c ≡ v → 1 ≤ code_from s c → code_from s c ≤ 5 → verdict_of s c ≡ Accepted
      from Accepted e low high = e
      from (Refused n place) e low high = absurd (no_answer c n place e low high)

  -- ---- what is left of the tables

  list_left : (table : List ℕ) (n place : ℕ) → list_verdict s (length table) ≡ Refused n place → list_table s table ≡ table
  unfolding list_table
  list_left table n place e = ap (λ v. unless_refused v (front (list_in s) table) table) e

  arguments_left_lem : (h b : ℕ) (table : List ℕ) (nl n place : ℕ) → query_verdict s h b (length table) nl ≡ Refused n place
      → query_arguments s h b table nl ≡ table
  unfolding query_arguments
  arguments_left_lem h b table nl n place e = ap (λ v. unless_refused v (front (list_in s) table) table) e

  nodes_left_lem : (h b al : ℕ) (table : List Node) (n place : ℕ) → query_verdict s h b al (length table) ≡ Refused n place
      → query_nodes s h b al table ≡ table
  unfolding query_column
  nodes_left_lem h b al table n place e =
      ap (λ a. column_in node_of a (forest_entries (tests (program_in s)) h) table)
      (queried_refused s h b al (length table) n place e)

pub demand_1 : Demand_1
demand_1 = record {
  list_length = list_table_length;
  arguments_length = query_arguments_length;
  nodes_length = λ s h b. query_table_length s h b node_of;
  check_judged = check_judged;
  list_judged = list_judged;
  call_judged = call_judged;
  check_refused = check_carries;
  list_refused = list_hands_back;
  call_refused = hands_back;
  check_accepted = λ s. verdict_zero (check_image s) (check_refused s);
  list_accepted = list_counts;
  call_accepted = answers_accepted;
  list_left = list_left;
  arguments_left_lem = arguments_left_lem;
  nodes_left_lem = nodes_left_lem;
}
