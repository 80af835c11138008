-- The calls: what their numbers say, and that every lent table keeps its length.
use mathlib.Core.Path.{◌≡◌, refl, sym, ap, ◌∙◌}
use mathlib.Core.Bool.{Bool, true, false, not}
use mathlib.Core.List.{List, [], ◌∷◌, ◌++◌, map, map-append, map-map}
use Prim.Native.Nat.{ℕ, zero, suc, ◌/◌, ◌%◌, ◌≤◌, ◌<◌}
use native.Mathlib.Nat.{le_trans}
use native.Mathlib.Omega.{arith}
use lib.ListN.{length, drop, replicate, length-map, length-replicate}
use lib.Dec.{T, ltb, nltb→le}
use Rattle.program.specs.Program.{Program}
use Rattle.calls.specs.Verdicts.{Verdict}
use Rattle.calls.specs.Verdicts as verdicts
use Rattle.layout.specs.Reading.{program_in}
use Rattle.derivation.specs.Derivation.{complement}
use Rattle.defeat.specs.Tests.{Tests}
use Rattle.preference.specs.Preference.{preferred_test}
use Rattle.tree.specs.Entries.{Entry}
use Rattle.answer.specs.declared.Answer.{Answer}
use Rattle.answer.specs.declared.Answer.TheVariants.{Yes, No, Undecided, Unknown, Unfinished}
use Rattle.answer.specs.Answer.{occurs, forest_entries, node_count, warranted, answer_of, answer_by, tests, answer}
use Rattle.answer.specs.Answer.{code_of, nodes_of}
use Rattle.calls.specs.Outcomes.{Outcome, Given, Refused, by_verdict, code_in, nodes_in}
use Rattle.calls.specs.Calls.{list_in, list_verdict, front, list_table, query_verdict}
use Rattle.calls.specs.Calls.{queried, query_arguments}
use Rattle.calls.specs.Calls.{nodes_after, nodes_left, zeroed, query_column, query_table, packed, host_call, answered_number}
use Rattle.calls.specs.Calls.{Call, query, host, trees, asked, literal_asked, verdict_of, code_from, nodes_from}
use Rattle.nodes.proofs.Rows.{front_length}
use Rattle.answer.proofs.Answers.{entries_count, answer_not_refused, answer_nodes_within}
use Rattle.calls.proofs.Verdicts.{unless_length}
use Rattle.calls.proofs.Refusals.{Bounded, query_refused, list_accepted, query_accepted}

-- ---- the host call's number

-- what stands below the code fits
abbrev Small : Outcome Answer → Type 0
Small (Given (Yes n)) = n < 65536
Small (Given (No n)) = n < 65536
Small (Given (Undecided n)) = n < 65536
Small (Given Unknown) = Unit {0}
Small (Given (Unfinished n)) = n < 65536
Small (Refused n place) = (1 ≤ n) × (n < 65536)

small_nodes : (a : Answer) → nodes_of a < 65536 → Small (Given a)
small_nodes (Yes n) h = h
small_nodes (No n) h = h
small_nodes (Undecided n) h = h
small_nodes Unknown h = tt
small_nodes (Unfinished n) h = h

packed_code : (a : Outcome Answer) → Small a → packed a / 65536 ≡ code_in a
packed_code (Given (Yes n)) h = omega arith
packed_code (Given (No n)) h = omega arith
packed_code (Given (Undecided n)) h = omega arith
packed_code (Given Unknown) h = omega arith
packed_code (Given (Unfinished n)) h = omega arith
packed_code (Refused n place) h = let k = h.1 in omega arith

packed_nodes : (a : Outcome Answer) → Small a → (code_in a ≡ 0 → ⊥) → packed a % 65536 ≡ nodes_in a
packed_nodes (Given (Yes n)) h e = omega arith
packed_nodes (Given (No n)) h e = omega arith
packed_nodes (Given (Undecided n)) h e = omega arith
packed_nodes (Given Unknown) h e = omega arith
packed_nodes (Given (Unfinished n)) h e = omega arith
packed_nodes (Refused n place) h e = absurd (e refl)

packed_below : (a : Outcome Answer) → Small a → packed a < 0x1_0000_0000
packed_below (Given (Yes n)) h = omega arith
packed_below (Given (No n)) h = omega arith
packed_below (Given (Undecided n)) h = omega arith
packed_below (Given Unknown) h = omega arith
packed_below (Given (Unfinished n)) h = omega arith
packed_below (Refused n place) h = let k = h.1 in omega arith

-- but for a refusal, the numbers of the two calls from C are one
number_packed : (a : Outcome Answer) → (code_in a ≡ 0 → ⊥) → answered_number a ≡ packed a
number_packed (Given (Yes n)) f = refl
number_packed (Given (No n)) f = refl
number_packed (Given (Undecided n)) f = refl
number_packed (Given Unknown) f = refl
number_packed (Given (Unfinished n)) f = refl
number_packed (Refused n place) f = absurd (f refl)

answered_small : (v : Verdict) (a : Answer) → ((n place : ℕ) → v ≡ verdicts.Refused n place → Bounded n place)
    → (v ≡ verdicts.Accepted → Small (Given a)) → Small (by_verdict v a)
answered_small verdicts.Accepted a f g = g refl
answered_small (verdicts.Refused n place) a f g = let k = f n place refl in (k.0, omega arith)

module _ (s : List ℕ) (h b : ℕ) where
  query_small : (al nl : ℕ) → Small (queried s h b al nl)
  unfolding queried
  query_small al nl = answered_small (query_verdict s h b al nl) (answer (program_in s) h b) (query_refused s h b al nl) (λ e.
      let k = (query_accepted s h b al nl e).budget_limit in
      let n = answer_nodes_within (program_in s) (preferred_test (program_in s)) h b in
      small_nodes (answer (program_in s) h b) (omega arith))

  -- an answer of the query call packs into 32 bits
  pub query_packs : (al nl : ℕ) → packed (queried s h b al nl) < 0x1_0000_0000
  query_packs al nl = packed_below (queried s h b al nl) (query_small al nl)

  -- the upper half is the answer's code, and 0 where a cause applies; the lower half is then its number of nodes
  pub host_code : host_call s h b / 65536 ≡ code_in (queried s h b 4096 4096)
  unfolding host_call
  host_code = packed_code (queried s h b 4096 4096) (query_small 4096 4096)

  pub host_nodes : (code_in (queried s h b 4096 4096) ≡ 0 → ⊥) → host_call s h b % 65536 ≡ nodes_in (queried s h b 4096 4096)
  unfolding host_call
  host_nodes = packed_nodes (queried s h b 4096 4096) (query_small 4096 4096)

  pub host_refused : (n place : ℕ) → queried s h b 4096 4096 ≡ Refused n place → host_call s h b ≡ n
  unfolding host_call
  host_refused n place e = let r = ap packed e in omega arith

-- ---- the result of a call, by its verdict

module _ (s : List ℕ) where
  pub queried_accepted : (h b al nl : ℕ) → query_verdict s h b al nl ≡ verdicts.Accepted
      → queried s h b al nl ≡ Given (answer (program_in s) h b)
  unfolding queried
  queried_accepted h b al nl e = ap (λ v. by_verdict v (answer (program_in s) h b)) e

  pub queried_refused : (h b al nl n place : ℕ) → query_verdict s h b al nl ≡ verdicts.Refused n place
      → queried s h b al nl ≡ Refused n place
  unfolding queried
  queried_refused h b al nl n place e = ap (λ v. by_verdict v (answer (program_in s) h b)) e

  -- an accepted query has a code
  queried_code : (h b al nl : ℕ) → query_verdict s h b al nl ≡ verdicts.Accepted → code_in (queried s h b al nl) ≡ 0 → ⊥
  queried_code h b al nl e z =
      answer_not_refused (program_in s) (preferred_test (program_in s)) h b (sym (ap code_in (queried_accepted h b al nl e)) ∙ z)

  -- the code and the nodes of an accepted call are the answer's
  pub call_answered : (c : Call) → verdict_of s c ≡ verdicts.Accepted
      → (code_from s c ≡ code_of (answer (program_in s) (literal_asked c) (asked c).budget))
      × (nodes_from s c ≡ nodes_of (answer (program_in s) (literal_asked c) (asked c).budget))
  call_answered (query h b al nl) e = let q = queried_accepted h b al nl e in (ap code_in q, ap nodes_in q)
  call_answered (host h b) e =
      let q = queried_accepted h b 4096 4096 e in
      (host_code s h b ∙ ap code_in q, host_nodes s h b (queried_code h b 4096 4096 e) ∙ ap nodes_in q)
  call_answered (trees h b al nl) e =
      let q = queried_accepted h b al nl e in
      let code = queried_code h b al nl e in
      let small = query_small s h b al nl in
      let same = number_packed (queried s h b al nl) code in (
        ap (λ r. r / 65536) same ∙ packed_code (queried s h b al nl) small ∙ ap code_in q,
        ap (λ r. r % 65536) same ∙ packed_nodes (queried s h b al nl) small code ∙ ap nodes_in q,
      )

-- ---- lent tables keep their length

module _ {A : Type 0} where
  -- the forest is within the budget where it is written, and the budget within the table
  after_length : (b n : ℕ) (l : List A) (empty : A) (table : List A) → b ≤ length table → (o v w m : Bool)
      → (T (not v) → length l ≤ b) → length (nodes_after (answer_of o v w m b n) l empty table) ≡ length table
  after_length b n l empty table h false v w m f = refl
  after_length b n l empty table h true true w m f =
      front_length (replicate b empty) table (rw (length-replicate b empty) h)
  after_length b n l empty table h true false true m f = front_length l table (le_trans (f tt) h)
  after_length b n l empty table h true false false true f = front_length l table (le_trans (f tt) h)
  after_length b n l empty table h true false false false f = front_length l table (le_trans (f tt) h)

  answered_length : (v : Verdict) (a : Answer) (l : List A) (empty : A) (table : List A)
      → (v ≡ verdicts.Accepted → length (nodes_after a l empty table) ≡ length table)
      → length (nodes_left (by_verdict v a) l empty table) ≡ length table
  answered_length verdicts.Accepted a l empty table f = f refl
  answered_length (verdicts.Refused n place) a l empty table f = refl

module _ (s : List ℕ) where
  pub list_table_length : (table : List ℕ) → length (list_table s table) ≡ length table
  unfolding list_table
  list_table_length table =
      unless_length (list_verdict s (length table)) (list_in s) table (λ e. (list_accepted s (length table) e).1)

  module _ (h b : ℕ) where
    pub query_arguments_length : (table : List ℕ) (nl : ℕ) → length (query_arguments s h b table nl) ≡ length table
    unfolding query_arguments
    query_arguments_length table nl =
        unless_length (query_verdict s h b (length table) nl) (list_in s) table
        (λ e. (query_accepted s h b (length table) nl e).argument_room_lem)

    pub query_table_length : {A : Type 0} (field : Entry → A) (al : ℕ) (table : List A)
        → length (query_table field s h b al table) ≡ length table
    unfolding query_column queried answer_by
    query_table_length {A} field al table =
        answered_length (query_verdict s h b al (length table)) (answer p h b) rows (field zeroed) table (λ e.
        after_length b (node_count t h) rows (field zeroed) table (query_accepted s h b al (length table) e).node_room_lem
        (occurs p h) (ltb b (node_count t h)) (warranted t h) (warranted t (complement h))
        (λ k. rw count (nltb→le b (node_count t h) k)))
      where
        p : Program
        p = program_in s

        t : Tests ℕ
        t = tests p

        rows : List A
        rows = map field (forest_entries t h)

        count : length rows ≡ node_count t h
        count = length-map (forest_entries t h) field ∙ entries_count t h

-- ---- a table of nodes holds in each field what a table of that field alone would

module _ {A B : Type 0} (f : A → B) where
  map_drop : (n : ℕ) (l : List A) → map f (drop n l) ≡ drop n (map f l)
  map_drop zero l = refl
  map_drop (suc n) [] = refl
  map_drop (suc n) (x ∷ l) = map_drop n l

  pub map_replicate : (n : ℕ) (x : A) → map f (replicate n x) ≡ replicate n (f x)
  map_replicate zero x = refl
  map_replicate (suc n) x = ap (λ l. f x ∷ l) (map_replicate n x)

  map_front : (l table : List A) → map f (front l table) ≡ front (map f l) (map f table)
  map_front l table =
      map-append f l (drop (length l) table)
      ∙ ap (λ r. map f l ++ r) (map_drop (length l) table ∙ ap (λ n. drop n (map f table)) (sym (length-map l f)))

  map_after : (a : Answer) (l : List A) (empty : A) (table : List A)
      → map f (nodes_after a l empty table) ≡ nodes_after a (map f l) (f empty) (map f table)
  map_after (Yes n) l empty table = map_front l table
  map_after (No n) l empty table = map_front l table
  map_after (Undecided n) l empty table = map_front l table
  map_after Unknown l empty table = refl
  map_after (Unfinished n) l empty table =
      map_front (replicate n empty) table ∙ ap (λ r. front r (map f table)) (map_replicate n empty)

  map_left : (a : Outcome Answer) (l : List A) (empty : A) (table : List A)
      → map f (nodes_left a l empty table) ≡ nodes_left a (map f l) (f empty) (map f table)
  map_left (Given a) l empty table = map_after a l empty table
  map_left (Refused n place) l empty table = refl

  pub query_table_column : (field : Entry → A) (s : List ℕ) (h b al : ℕ) (table : List A)
      → map f (query_table field s h b al table) ≡ query_table (λ e. f (field e)) s h b al (map f table)
  unfolding query_column
  query_table_column field s h b al table =
      map_left (queried s h b al (length table)) (map field rows) (field zeroed) table
      ∙ ap (λ n. after n (map f (map field rows))) (sym (length-map table f))
      ∙ ap (after (length (map f table))) (map-map f field rows)
    where
      after : ℕ → List B → List B
      after n r = nodes_left (queried s h b al n) r (f (field zeroed)) (map f table)

      rows : List Entry
      rows = forest_entries (tests (program_in s)) h
