-- Demand 2: the list, each answer with its nodes, and the tables after it are those of the published definitions.
use mathlib.Core.Path.{◌≡◌, refl, sym, ap, ◌∙◌, subst, subst₂}
use mathlib.Core.List.{List, map}
use mathlib.Core.Logic.{◌↔◌}
use Prim.Native.Nat.{ℕ, ◌≤◌}
use native.Mathlib.Omega.{arith}
use lib.ListN.{length, replicate}
use Rattle.program.specs.Program.{Program}
use Rattle.program.specs.Limits.{Limits}
use Rattle.calls.specs.Verdicts.{Accepted}
use Rattle.layout.specs.Reading.{program_in}
use Rattle.image.proofs.Accepted.{accepted_limits}
use Rattle.argument.specs.Argument.{ArgumentList}
use Rattle.argument.proofs.Lists.{list_published}
use Rattle.preference.specs.Preference.{Preferred, preferred_test}
use Rattle.preference.proofs.Preferences.{preferred_renders}
use Rattle.tree.specs.Forest.{Forest, size}
use Rattle.tree.specs.Entries.{Entry}
use Rattle.answer.specs.declared.Answer.{Answer}
use Rattle.answer.specs.declared.Answer.TheVariants.{Yes, No, Undecided, Unknown, Unfinished}
use Rattle.answer.specs.Forest.{ForestIn, EntriesIn}
use Rattle.answer.specs.Answer.{node_count, tests, answer, code_of, nodes_of}
use Rattle.answer.proofs.Forests.{forest_published, count_published, entries_published}
use Rattle.answer.proofs.Answers.{entries_count, answer_unknown, answer_unfinished, answer_nodes_finished}
use Rattle.answer.proofs.Answers.{answer_nodes_unfinished, answer_nodes_unknown, answer_not_refused}
use Rattle.answer.proofs.Answers.{answer_yes, answer_no, answer_undecided}
use Rattle.nodes.specs.declared.Node.{Node}
use Rattle.calls.specs.Outcomes.{Outcome, by_verdict, code_in}
use Rattle.calls.specs.Outcomes as outcomes
use Rattle.calls.specs.Calls.{check_image, list_in, list_verdict, listed, list_table, list_call, count_number}
use Rattle.calls.specs.Calls.{unless_refused, front, query_verdict, queried, query_arguments, query_column, query_nodes}
use Rattle.calls.specs.Calls.{nodes_after, nodes_left, node_of, zeroed, Call, asked, literal_asked, verdict_of, code_from, nodes_from}
use Rattle.derivation.proofs.Tables.{limits_heads}
use Rattle.calls.proofs.Refusals.{checked_heads, check_accepted, list_accepted, query_accepted}
use Rattle.warrant.specs.Answers.{Answers, NodesAfter}
use Rattle.warrant.specs.Claims.{One, Demand_2}
use Rattle.warrant.proofs.Calls.{queried_accepted, call_answered}

-- ---- of a program within the limits

module _ (p : Program) (limits : Limits p) (h b : ℕ) where
  computed_answers : Answers p h b (node_count (tests p) h) (code_of (answer p h b)) (nodes_of (answer p h b))
  computed_answers =
      let heads = limits_heads limits in
      let test = preferred_test p in
      let decides = preferred_renders p in
      record {
        unknown = answer_unknown p test h b;
        nodes_unknown = answer_nodes_unknown p test h b;
        unfinished = answer_unfinished p test h b;
        nodes_unfinished = answer_nodes_unfinished p test h b;
        nodes_finished = answer_nodes_finished p test h b;
        says_yes_lem = answer_yes p heads (Preferred p) test decides h b;
        says_no = answer_no p heads (Preferred p) test decides h b;
        undecided = answer_undecided p heads (Preferred p) test decides h b;
      }

  pub answers : (f : Forest ℕ) → ForestIn p h f → Answers p h b (size f) (code_of (answer p h b)) (nodes_of (answer p h b))
  answers f g =
      subst (λ (n : ℕ). Answers p h b n (code_of (answer p h b)) (nodes_of (answer p h b)))
      (sym (count_published p (limits_heads limits) h f g)) computed_answers

-- ---- what is published is one

only : {A : Type 0} {P : A → Type 0} (x : A) → ((y : A) → P y ↔ (y ≡ x)) → One P
only x settled = (x, (settled x).1 refl, λ y. (settled y).0)

-- ---- the node table

finished : (code b : ℕ) (es : List Entry) (table : List Node) → code ≤ 3
    → NodesAfter code b es table (front (map node_of es) table)
finished code b es table h = record {
  after_unknown = λ e. absurd (omega arith);
  after_unfinished = λ e. absurd (omega arith);
  after_finished = λ _. refl;
}

nodes_after_lem : (a : Answer) (b : ℕ) (es : List Entry) (table : List Node) → (code_of a ≡ 0 → ⊥) → (code_of a ≡ 5 → nodes_of a ≡ b)
    → NodesAfter (code_of a) b es table (nodes_after a (map node_of es) (node_of zeroed) table)
nodes_after_lem (Yes n) b es table f g = finished 1 b es table (omega arith)
nodes_after_lem (No n) b es table f g = finished 2 b es table (omega arith)
nodes_after_lem (Undecided n) b es table f g = finished 3 b es table (omega arith)
nodes_after_lem Unknown b es table f g = record {
  after_unknown = λ e. refl;
  after_unfinished = λ e. absurd (omega arith);
  after_finished = λ e. absurd (omega arith);
}
nodes_after_lem (Unfinished n) b es table f g = record {
  after_unknown = λ e. absurd (omega arith);
  after_unfinished = λ e. ap (λ (m : ℕ). front (replicate m (node_of zeroed)) table) (g refl);
  after_finished = λ e. absurd (omega arith);
}

-- ---- of the calls

module _ (s : List ℕ) where
  -- the list that is computed is the published one
  same_list : check_image s ≡ Accepted → (list : List ℕ) → ArgumentList (program_in s).rules list → list_in s ≡ list
  same_list e list a = sym ((list_published (program_in s).rules (checked_heads s e) list).0 a)

  pub call_answers : (c : Call) (f : Forest ℕ) → verdict_of s c ≡ Accepted → ForestIn (program_in s) (literal_asked c) f
      → Answers (program_in s) (literal_asked c) (asked c).budget (size f) (code_from s c) (nodes_from s c)
  call_answers c f e g =
      let a = asked c in
      let fits = query_accepted s a.literal a.budget a.argument_room a.node_room e in
      let r = call_answered s c e in
      subst₂ (Answers (program_in s) (literal_asked c) (asked c).budget (size f)) (sym r.0) (sym r.1)
      (answers (program_in s) (accepted_limits s (check_accepted s fits.checked).0) a.literal a.budget f g)

  counted : (h : ℕ) (f : Forest ℕ) (es : List Entry) → check_image s ≡ Accepted → ForestIn (program_in s) h f
      → EntriesIn (program_in s) h es → length es ≡ size f
  counted h f es e g k =
      let heads = checked_heads s e in
      ap length ((entries_published (program_in s) heads h es).0 k) ∙ entries_count (tests (program_in s)) h
      ∙ sym (count_published (program_in s) heads h f g)

  list_count : (list : List ℕ) (room : ℕ) → list_verdict s room ≡ Accepted → ArgumentList (program_in s).rules list
      → (listed s room ≡ outcomes.Given (length list)) × (list_call s room ≡ length list)
  unfolding listed
  list_count list room e a = (counts, let n = ap count_number counts in omega arith)
    where
      counts : listed s room ≡ outcomes.Given (length list)
      counts =
          ap (λ v. by_verdict v (length (list_in s))) e
          ∙ ap (λ (l : List ℕ). outcomes.Given (length l)) (same_list (list_accepted s room e).0 list a)

  list_table_lem : (list table : List ℕ) → list_verdict s (length table) ≡ Accepted → ArgumentList (program_in s).rules list
      → list_table s table ≡ front list table
  unfolding list_table
  list_table_lem list table e a =
      ap (λ v. unless_refused v (front (list_in s) table) table) e
      ∙ ap (λ (l : List ℕ). front l table) (same_list (list_accepted s (length table) e).0 list a)

  argument_table : (list : List ℕ) (h b : ℕ) (table : List ℕ) (nl : ℕ) → query_verdict s h b (length table) nl ≡ Accepted
      → ArgumentList (program_in s).rules list → query_arguments s h b table nl ≡ front list table
  unfolding query_arguments
  argument_table list h b table nl e a =
      ap (λ v. unless_refused v (front (list_in s) table) table) e
      ∙ ap (λ (l : List ℕ). front l table) (same_list (query_accepted s h b (length table) nl e).checked list a)

  node_table : (h b al : ℕ) (es : List Entry) (table : List Node) → query_verdict s h b al (length table) ≡ Accepted
      → EntriesIn (program_in s) h es
      → NodesAfter (code_in (queried s h b al (length table))) b es table (query_nodes s h b al table)
  unfolding query_column
  node_table h b al es table e k =
      let p = program_in s in
      let checked = (query_accepted s h b al (length table) e).checked in
      let q = queried_accepted s h b al (length table) e in
      let same = (entries_published p (checked_heads s checked) h es).0 k in
      let cut = answer_unfinished p (preferred_test p) h b in
      subst₂ (λ (a : Outcome Answer) (l : List Entry). NodesAfter (code_in a) b es table (nodes_left a (map node_of l) (node_of zeroed) table))
      (sym q) same
      (nodes_after_lem (answer p h b) b es table (answer_not_refused p (preferred_test p) h b) (λ z.
      let o = cut.0 z in answer_nodes_unfinished p (preferred_test p) h b o.0 o.1))

pub demand_2 : Demand_2
demand_2 = record {
  one_list = λ s e. only _ (list_published (program_in s).rules (checked_heads s e));
  one_forest = λ s h e. only _ (forest_published (program_in s) (checked_heads s e) h);
  one_entries = λ s h e. only _ (entries_published (program_in s) (checked_heads s e) h);
  entries_N = counted;
  list_count = list_count;
  list_table_lem = list_table_lem;
  call_answers = call_answers;
  argument_table = argument_table;
  node_table = node_table;
}
