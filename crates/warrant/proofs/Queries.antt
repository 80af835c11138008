-- What the query answers and leaves, cause by cause, and from the answer in the program.
use mathlib.Core.Path.{◌≡◌, refl, sym, ap, ◌∙◌}
use mathlib.Core.Bool.{Bool, true, false}
use mathlib.Core.List.{List}
use Prim.Native.Nat.{ℕ, ◌≤◌, ◌<◌}
use lib.Dec.{ltb, leb}
use lib.ListN.{length}
use borrow.Author.Tests.{lt-ltb, le-ltb, le-leb, lt-leb, ltb-true, ltb-false}
use Rattle.lists.specs.Lists.{choose}
use Rattle.calls.specs.Verdicts.{Verdict}
use Rattle.calls.specs.Verdicts as verdicts
use Rattle.calls.specs.Verdicts.{refuse, and_then}
use Rattle.layout.specs.Reading.{program_in}
use Rattle.image.proofs.Accepted.{accepted_limits}
use Rattle.program.specs.Inside.Table.{Holds}
use Rattle.tree.specs.Inside.Tables.{Columns}
use Rattle.answer.specs.declared.Answer.{Answer}
use Rattle.std.specs.Prelude.{Option, Some, None}
use Rattle.std.specs.Option.{ok_or}
use Rattle.layout.specs.declared.Cause.TheVariants.{ArgumentTable}
use Rattle.calls.specs.Outcomes.{Outcome, Refused, by_verdict, outcome_of}
use Rattle.answer.specs.Answer.{tests, forest_entries, answer}
use Rattle.answer.specs.Tables.{front}
use Rattle.decision.specs.Inside.Steps.{Held, settled, Settled, columns_settled}
use Rattle.listing.specs.Inside.Listing.{with_list}
use Rattle.calls.specs.Calls.{check_image, list_in, query_verdict, queried, unless_refused, query_arguments}
use Rattle.calls.specs.Calls.{query_column}
use Rattle.warrant.specs.Inside.Columns.{query_columns, columns_left}
use Rattle.calls.proofs.Refusals.{check_accepted}

-- an accepted image's program is within the limits
abbrev pub held_in : (s t : List ℕ) → check_image s ≡ verdicts.Accepted → Holds (program_in s) t → Held t
held_in s t e h = record { program = program_in s; limits = accepted_limits s (check_accepted s e).0; holds = h }

module _ (s : List ℕ) (h b : ℕ) (arguments : List ℕ) (room : ℕ) where
  -- the result and the tables are those of the query
  abbrev pub Queried : Outcome Answer → List ℕ → (before after : Columns) → Type 0
  Queried r arguments' before after =
      (r ≡ queried s h b (length arguments) room)
      × (arguments' ≡ query_arguments s h b arguments room)
      × (after ≡ query_columns s h b (length arguments) room before)

  abbrev verdict : Verdict
  verdict = query_verdict s h b (length arguments) room

  -- the four tables by the answer
  columns_by : (r : Outcome Answer) (t : Columns) → r ≡ queried s h b (length arguments) room
      → columns_left r (forest_entries (tests (program_in s)) h) t ≡ query_columns s h b (length arguments) room t
  unfolding query_column
  columns_by r t e = ap (λ (a : Outcome Answer). columns_left a (forest_entries (tests (program_in s)) h) t) e

  result_by : (v : Verdict) → verdict ≡ v → by_verdict v (answer (program_in s) h b) ≡ queried s h b (length arguments) room
  unfolding queried
  result_by v e = ap (λ (w : Verdict). by_verdict w (answer (program_in s) h b)) (sym e)

  table_by : (v : Verdict) → verdict ≡ v
      → unless_refused v (front (list_in s) arguments) arguments ≡ query_arguments s h b arguments room
  unfolding query_arguments
  table_by v e = ap (λ (w : Verdict). unless_refused w (front (list_in s) arguments) arguments) (sym e)

  -- a cause leaves all tables as they were
  refused : (n k : ℕ) → verdict ≡ verdicts.Refused n k → (t : Columns) → Queried (Refused n k) arguments t t
  refused n k e t =
      let r = result_by (verdicts.Refused n k) e in
      (r, table_by (verdicts.Refused n k) e, columns_by (Refused n k) t r)

  -- the causes in the order listed
  verdict_by : (v : Verdict) (x y z w : Bool) → check_image s ≡ v → leb 128 h ≡ x → ltb 4096 b ≡ y → ltb room b ≡ z
      → ltb (length arguments) (length (list_in s)) ≡ w
      → verdict ≡ and_then v (and_then (refuse x 20 0) (and_then (refuse y 21 0) (and_then (refuse z 22 0) (refuse w 23 0))))
  unfolding query_verdict
  verdict_by v x y z w e e20 e21 e22 e23 = rw (e, e20, e21, e22, e23)

  pub query_image : (n k : ℕ) → check_image s ≡ verdicts.Refused n k → (t : Columns) → Queried (Refused n k) arguments t t
  query_image n k e t = refused n k (verdict_by (verdicts.Refused n k) _ _ _ _ e refl refl refl refl) t

  module _ (accepted : check_image s ≡ verdicts.Accepted) where
    pub query_20 : 128 ≤ h → (t : Columns) → Queried (Refused 20 0) arguments t t
    query_20 l t = refused 20 0 (verdict_by verdicts.Accepted true _ _ _ accepted (le-leb 128 h l) refl refl refl) t

    module _ (below : h < 128) where
      pub query_21 : 4096 < b → (t : Columns) → Queried (Refused 21 0) arguments t t
      query_21 l t =
          refused 21 0 (verdict_by verdicts.Accepted false true _ _ accepted (lt-leb 128 h below) (lt-ltb 4096 b l) refl refl) t

      module _ (limit : b ≤ 4096) where
        pub query_22 : room < b → (t : Columns) → Queried (Refused 22 0) arguments t t
        query_22 l t =
            refused 22 0
            (verdict_by verdicts.Accepted false false true _ accepted (lt-leb 128 h below) (le-ltb 4096 b limit) (lt-ltb room b l) refl) t

        -- past 22: 23, or the answer in the program
        module _ (held : b ≤ room) where
          last_by : (w : Bool) → ltb (length arguments) (length (list_in s)) ≡ w → verdict ≡ refuse w 23 0
          last_by w e =
              verdict_by verdicts.Accepted false false false w accepted (lt-leb 128 h below) (le-ltb 4096 b limit)
              (le-ltb room b held) e

          pub query_settled : (r : Option Answer) (arguments' : List ℕ) (before after : Columns)
              → Settled (program_in s) h b r arguments arguments' before after
              → Queried (outcome_of (ok_or r (record { cause = ArgumentTable; place = 0 }))) arguments' before after
          query_settled r arguments' before after d = go (ltb (length arguments) (length (list_in s))) refl
            where
              fits : (w : Bool) → leb (length (list_in s)) (length arguments) ≡ w
                  → (settled (program_in s) h b (length arguments) ≡ choose w (Some (answer (program_in s) h b)) None)
                  × (with_list (list_in s) arguments ≡ choose w (front (list_in s) arguments) arguments)
              fits w e = (
                ap (λ (x : Bool). choose x (Some (answer (program_in s) h b)) None) e,
                ap (λ (x : Bool). choose x (front (list_in s) arguments) arguments) e,
              )

              left_by : (o : Option Answer) → columns_settled o (forest_entries (tests (program_in s)) h) before
                  ≡ columns_left (outcome_of (ok_or o (record { cause = ArgumentTable; place = 0 }))) (forest_entries (tests (program_in s)) h) before
              left_by (Some a) = refl
              left_by None = refl

              go : (w : Bool) → ltb (length arguments) (length (list_in s)) ≡ w
                  → Queried (outcome_of (ok_or r (record { cause = ArgumentTable; place = 0 }))) arguments' before after
              go true e =
                  let f = fits false (lt-leb (length (list_in s)) (length arguments) (ltb-true _ _ e)) in
                  let v = last_by true e in
                  let q = ap (λ (o : Option Answer). outcome_of (ok_or o (record { cause = ArgumentTable; place = 0 }))) (d.result_is ∙ f.0)
                  ∙ result_by (verdicts.Refused 23 0) v in
                  (q, d.arguments_are ∙ f.1 ∙ table_by (verdicts.Refused 23 0) v, d.nodes_are ∙ left_by r ∙ columns_by _ before q)
              go false e =
                  let f = fits true (le-leb (length (list_in s)) (length arguments) (ltb-false _ _ e)) in
                  let v = last_by false e in
                  let q = ap (λ (o : Option Answer). outcome_of (ok_or o (record { cause = ArgumentTable; place = 0 }))) (d.result_is ∙ f.0)
                  ∙ result_by verdicts.Accepted v in
                  (q, d.arguments_are ∙ f.1 ∙ table_by verdicts.Accepted v, d.nodes_are ∙ left_by r ∙ columns_by _ before q)
