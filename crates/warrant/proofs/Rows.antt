-- The rows which the query over columns leaves, as many as its answer names, are the entries of the node table.
use mathlib.Core.Path.{◌≡◌, refl, sym, ap, ◌∙◌}
use mathlib.Core.Bool.{Bool, true, false}
use mathlib.Core.List.{List, [], map}
use Prim.Native.Nat.{ℕ, ◌≤◌}
use native.Mathlib.Nat.{le_trans}
use native.Mathlib.Omega.{arith}
use lib.ListN.{length, replicate, length-replicate}
use lib.Dec.{ltb}
use Rattle.calls.specs.Verdicts.{Verdict}
use Rattle.calls.specs.Verdicts as verdicts
use Rattle.layout.specs.Reading.{program_in}
use Rattle.derivation.specs.Derivation.{complement}
use Rattle.preference.specs.Preference.{preferred_test}
use Rattle.tree.specs.Entries.{Entry}
use Rattle.tree.specs.Inside.Tables.{Columns}
use Rattle.answer.specs.declared.Answer.{Answer}
use Rattle.answer.specs.declared.Answer.TheVariants.{Yes, No, Undecided, Unknown, Unfinished}
use Rattle.answer.specs.Answer.{occurs, forest_entries, node_count, warranted, answer_of, answer_by, tests, answer, nodes_of}
use Rattle.answer.proofs.Answers.{entries_count, answer_nodes_within}
use Rattle.nodes.specs.declared.Node.{Node}
use Rattle.nodes.specs.Inside.Rows.{rows}
use Rattle.nodes.proofs.Rows.{rows_of}
use Rattle.std.specs.Prelude.{Result, Ok, Err, MatchResult}
use Rattle.layout.specs.declared.Refusal.{Refusal}
use Rattle.calls.specs.Outcomes.{Outcome, Given, Refused, by_verdict, nodes_in, outcome_of}
use Rattle.calls.specs.Calls.{front, query_verdict, queried, nodes_after, nodes_left, node_of, zeroed, query_column}
use Rattle.calls.specs.Calls.{query_nodes}
use Rattle.warrant.specs.Inside.Columns.{query_columns}
use Rattle.calls.proofs.Refusals.{query_accepted}
use Rattle.warrant.proofs.Calls.{map_replicate}

-- ---- how many rows are written: as many as the answer counts, and none after a refusal

pub nodes_counted : (r : Result Answer Refusal) (n : ℕ) → MatchResult r (λ a. n ≡ nodes_of a) (λ e. n ≡ 0)
    → n ≡ nodes_in (outcome_of r)
nodes_counted (Ok a) n h = h
nodes_counted (Err e) n h = h

-- ---- what an answer leaves

-- the entries that an answer writes
abbrev entries_after : Answer → List Entry → List Entry
entries_after (Yes n) es = es
entries_after (No n) es = es
entries_after (Undecided n) es = es
entries_after Unknown es = []
entries_after (Unfinished n) es = replicate n zeroed

abbrev entries_left : Outcome Answer → List Entry → List Entry
entries_left (Given a) es = entries_after a es
entries_left (Refused number place) es = []

-- an answer with a finished forest counts its entries
abbrev Counts : Answer → List Entry → Type 0
Counts (Yes n) es = n ≡ length es
Counts (No n) es = n ≡ length es
Counts (Undecided n) es = n ≡ length es
Counts Unknown es = Unit {0}
Counts (Unfinished n) es = Unit {0}

abbrev CountsLeft : Outcome Answer → List Entry → Type 0
CountsLeft (Given a) es = Counts a es
CountsLeft (Refused number place) es = Unit {0}

after_count : (a : Answer) (es : List Entry) → Counts a es → nodes_of a ≡ length (entries_after a es)
after_count (Yes n) es e = e
after_count (No n) es e = e
after_count (Undecided n) es e = e
after_count Unknown es e = refl
after_count (Unfinished n) es e = sym (length-replicate n zeroed)

left_count : (a : Outcome Answer) (es : List Entry) → CountsLeft a es → nodes_in a ≡ length (entries_left a es)
left_count (Given a) es e = after_count a es e
left_count (Refused number place) es e = refl

after_front : {A : Type 0} (field : Entry → A) (a : Answer) (es : List Entry) (table : List A)
    → nodes_after a (map field es) (field zeroed) table ≡ front (map field (entries_after a es)) table
after_front field (Yes n) es table = refl
after_front field (No n) es table = refl
after_front field (Undecided n) es table = refl
after_front field Unknown es table = refl
after_front field (Unfinished n) es table = ap (λ l. front l table) (sym (map_replicate field n zeroed))

left_front : {A : Type 0} (field : Entry → A) (a : Outcome Answer) (es : List Entry) (table : List A)
    → nodes_left a (map field es) (field zeroed) table ≡ front (map field (entries_left a es)) table
left_front field (Given a) es table = after_front field a es table
left_front field (Refused number place) es table = refl

answer_counts : (b n : ℕ) (es : List Entry) → n ≡ length es → (o v w m : Bool) → Counts (answer_of o v w m b n) es
answer_counts b n es e false v w m = tt
answer_counts b n es e true true w m = tt
answer_counts b n es e true false true m = e
answer_counts b n es e true false false true = e
answer_counts b n es e true false false false = e

answered_counts : (v : Verdict) (a : Answer) (es : List Entry) → Counts a es → CountsLeft (by_verdict v a) es
answered_counts verdicts.Accepted a es c = c
answered_counts (verdicts.Refused number place) a es c = tt

answered_nodes : (v : Verdict) (a : Answer) (m : ℕ) → (v ≡ verdicts.Accepted → nodes_of a ≤ m) → nodes_in (by_verdict v a) ≤ m
answered_nodes verdicts.Accepted a m f = f refl
answered_nodes (verdicts.Refused number place) a m f = omega arith

module _ (s : List ℕ) (h b al : ℕ) where
  abbrev given : ℕ → Outcome Answer
  given nl = queried s h b al nl

  -- an answer names no more entries than its budget, which is a limit's and the node table's at most
  pub query_nodes_within : (nl : ℕ) → (nodes_in (given nl) ≤ 4096) × (nodes_in (given nl) ≤ nl)
  unfolding queried
  query_nodes_within nl =
      let small = answer_nodes_within (program_in s) (preferred_test (program_in s)) h b in
      let by = answered_nodes (query_verdict s h b al nl) (answer (program_in s) h b) in (
        by 4096 (λ e. le_trans small (query_accepted s h b al nl e).budget_limit),
        by nl (λ e. le_trans small (query_accepted s h b al nl e).node_room_lem),
      )

  -- a refusal leaves the node table as it was
  pub nodes_refused : (table : List Node) (n place : ℕ) → given (length table) ≡ Refused n place → query_nodes s h b al table ≡ table
  unfolding query_column
  nodes_refused table n place e =
      ap (λ (a : Outcome Answer). nodes_left a (map node_of (forest_entries (tests (program_in s)) h)) (node_of zeroed) table) e

  abbrev entries : List Entry
  entries = forest_entries (tests (program_in s)) h

  query_counts : (nl : ℕ) → CountsLeft (given nl) entries
  unfolding queried answer_by
  query_counts nl =
      let t = tests (program_in s) in
      let n = node_count t h in
      answered_counts (query_verdict s h b al nl) (answer (program_in s) h b) entries
      (answer_counts b n entries (sym (entries_count t h)) (occurs (program_in s) h) (ltb b n) (warranted t h)
      (warranted t (complement h)))

  -- the rows of what the query over columns leaves, as many as its answer names, are what the query leaves
  module _ (table : List Node) (t : Columns) where
    abbrev a : Outcome Answer
    a = given (length table)

    abbrev es : List Entry
    es = entries_left a entries

    abbrev column : {A : Type 0} → (Entry → A) → List A → List A
    column field l = front (map field es) l

    columns_are : query_columns s h b al (length table) t ≡ record {
      indexes = column (λ e. e.argument) t.indexes;
      parents = column (λ e. e.parent) t.parents;
      kinds = column (λ e. e.kind) t.kinds;
      marks = column (λ e. e.mark) t.marks;
    }
    unfolding query_column
    columns_are = λ i. record {
      indexes = left_front (λ e. e.argument) a entries t.indexes i;
      parents = left_front (λ e. e.parent) a entries t.parents i;
      kinds = left_front (λ e. e.kind) a entries t.kinds i;
      marks = left_front (λ e. e.mark) a entries t.marks i;
    }

    pub query_rows : front (rows (nodes_in a) (query_columns s h b al (length table) t)) table ≡ query_nodes s h b al table
    unfolding query_column
    query_rows =
        ap (λ n. front (rows n (query_columns s h b al (length table) t)) table)
        (left_count a entries (query_counts (length table)))
        ∙ ap (λ c. front (rows (length es) c) table) columns_are
        ∙ ap (λ l. front l table) (rows_of es _ _ _ _)
        ∙ sym (left_front node_of a entries table)
