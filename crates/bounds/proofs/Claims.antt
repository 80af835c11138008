-- What is claimed of two budgets and of the length of lines holds.
use mathlib.Core.Path.{◌≡◌, refl, sym, ap, subst, ◌∙◌}
use mathlib.Core.List.Memᴰ
use mathlib.Core.List.{List, [], ◌++◌, map, Memᴰ}
use mathlib.Core.Logic.{◌⊎◌, inl, inr, ◌↔◌}
use Prim.Native.Nat.{ℕ, ◌+◌, ◌≤◌, ◌<◌}
use native.Mathlib.Omega.{arith}
use lib.ListN.{length, take, get_or, replicate, length-map, length-replicate, get_or-map}
use lib.Seq.{get_or-take}
use Rattle.program.specs.Program.{Program}
use Rattle.calls.specs.Verdicts.{Accepted}
use Rattle.layout.specs.Reading.{program_in}
use Rattle.derivation.specs.Derivation.{complement, HeadsBelow}
use Rattle.argument.specs.Argument.{mask_of, literal_of, ArgumentList}
use Rattle.argument.proofs.Lists.{list_published}
use Rattle.preference.specs.Preference.{Preferred, preferred_test}
use Rattle.defeat.specs.OfProgram.{frame_of}
use Rattle.tree.specs.Forest.{Forest}
use Rattle.tree.specs.Entries.{Entry}
use Rattle.tree.specs.Published.{ForestFor, InPreorder}
use Rattle.tree.proofs.Published.{in_order_member}
use Rattle.answer.specs.Forest.{ForestIn, EntriesIn}
use Rattle.nodes.specs.declared.Node.{Node}
use Rattle.answer.specs.declared.Answer.{Answer}
use Rattle.answer.specs.Answer.{Occurs, forest_entries, node_count, tests, answer, code_of, nodes_of}
use Rattle.answer.proofs.Answers.{entries_count, answer_nodes_within}
use Rattle.answer.proofs.Warrant.{derived_occurs, occurs_complement}
use Rattle.answer.proofs.Forests.{forest_published, entries_published}
use Rattle.calls.specs.Outcomes.{Outcome}
use Rattle.calls.specs.Calls.{node_of, zeroed, nodes_after, nodes_left, query_column, query_verdict, query_nodes, Call, query, host, trees, asked, literal_asked}
use Rattle.calls.specs.Calls.{verdict_of, code_from, nodes_from, check_image}
use Rattle.calls.proofs.Refusals.{Fits, query_accepted, checked_heads}
use Rattle.warrant.specs.Claims.{One}
use Rattle.warrant.proofs.Calls.{queried_accepted, call_answered, query_table_length}
use Rattle.bounds.specs.Masks.{LineLimit, line_limit}
use Rattle.bounds.specs.Lines.{LineIn, parent_in, argument_in, TableLine}
use Rattle.bounds.specs.Claims.{Lent, table_left, Kept, Finished, Bounds}
use Rattle.bounds.proofs.Masks.{masks_different, limit_settled, limit_rules}
use Rattle.bounds.proofs.Lines.{roots_some, line_short, tree_short}
use Rattle.bounds.proofs.Tables.{line_unique, Reads, Led, preorder_led, preorder_has}
use Rattle.bounds.proofs.Budgets.{answer_kept, named_occurs, answer_all, answer_named}

module _ (s : List ℕ) where
  abbrev p : Program
  p = program_in s

  -- the nodes of a literal's forest
  abbrev rows : ℕ → List Node
  rows h = map node_of (forest_entries (tests (program_in s)) h)

  rows_count : (h : ℕ) → length (rows h) ≡ node_count (tests p) h
  rows_count h = length-map (forest_entries (tests p) h) node_of ∙ entries_count (tests p) h

  -- the answer that a call gives where it is not turned away
  abbrev given : Call → Answer
  given c = answer (program_in s) (literal_asked c) (asked c).budget

  fits : (c : Call) → verdict_of s c ≡ Accepted
      → Fits s (literal_asked c) (asked c).budget (asked c).argument_room (asked c).node_room
  fits c = query_accepted s (literal_asked c) (asked c).budget (asked c).argument_room (asked c).node_room

  -- ---- what a call leaves

  -- its node table, from the one before
  record After (c : Call) (nodes : List Node) : Type 0 where
    before : List Node
    room : (asked c).budget ≤ length nodes
    nodes_are : nodes ≡ nodes_after (given c) (rows (literal_asked c)) (node_of zeroed) before

  query_after : (h b al : ℕ) (before : List Node) → query_verdict s h b al (length before) ≡ Accepted
      → (b ≤ length (query_nodes s h b al before))
      × (query_nodes s h b al before ≡ nodes_after (answer p h b) (rows h) (node_of zeroed) before)
  unfolding query_column
  query_after h b al before e = (
    let k = (query_accepted s h b al (length before) e).node_room_lem in
        omega (arith, query_table_length s h b node_of al before),
    ap (λ (a : Outcome Answer). nodes_left a (rows h) (node_of zeroed) before) (queried_accepted s h b al (length before) e),
  )

  lent_after : (h b al nl : ℕ) (lent : List Node) → length lent ≡ nl → query_verdict s h b al nl ≡ Accepted
      → (b ≤ length (query_nodes s h b al lent))
      × (query_nodes s h b al lent ≡ nodes_after (answer p h b) (rows h) (node_of zeroed) lent)
  lent_after h b al nl lent k e = query_after h b al lent (ap (query_verdict s h b al) k ∙ e)

  after : (c : Call) (lent : List Node) → Lent c lent → verdict_of s c ≡ Accepted → After c (table_left s c lent)
  after (query h b al nl) lent k e =
      let r = lent_after h b al nl lent k e in record { before = lent; room = r.0; nodes_are = r.1 }
  after (trees h b al nl) lent k e =
      let r = lent_after h b al nl lent k e in record { before = lent; room = r.0; nodes_are = r.1 }
  after (host h b) lent k e =
      let own : List Node = replicate 4096 (node_of zeroed) in
      let r = lent_after h b 4096 4096 own (length-replicate 4096 (node_of zeroed)) e in
      record { before = own; room = r.0; nodes_are = r.1 }

  -- ---- finished

  module _ {c : Call} (fin : Finished s c) where
    not_cut : ¬ (code_of (given c) ≡ 5)
    not_cut z = fin.finished ((call_answered s c fin.accepted).0 ∙ z)

    nodes_given : nodes_from s c ≡ nodes_of (given c)
    nodes_given = (call_answered s c fin.accepted).1

    -- the first entries of the table are the forest's
    named : (lent : List Node) → Lent c lent
        → (nodes_from s c ≤ length (table_left s c lent))
        × (take (nodes_from s c) (table_left s c lent) ≡ take (nodes_from s c) (rows (literal_asked c)))
    named lent l =
        let a = after c lent l fin.accepted in
        let count : node_count (tests p) (literal_asked c) ≤ length (rows (literal_asked c)) = omega (arith, rows_count (literal_asked c)) in (
          let w = answer_nodes_within p (preferred_test p) (literal_asked c) (asked c).budget in
              omega (arith, a.room, nodes_given),
          ap (λ (n : ℕ). take n (table_left s c lent)) nodes_given
              ∙ ap (take (nodes_of (given c))) a.nodes_are
              ∙ answer_named p (preferred_test p) (literal_asked c) (asked c).budget (rows (literal_asked c)) (node_of zeroed) a.before count not_cut
              ∙ ap (λ (n : ℕ). take n (rows (literal_asked c))) (sym nodes_given),
        )

  -- ---- more budget

  kept : (c d : Call) → literal_asked c ≡ literal_asked d → (asked c).budget ≤ (asked d).budget → Finished s c
      → verdict_of s d ≡ Accepted → Kept s c d
  kept c d e le fin f =
      let same : given d ≡ given c =
      ap (λ (h : ℕ). answer p h (asked d).budget) (sym e)
      ∙ answer_kept p (preferred_test p) (literal_asked c) (asked c).budget (asked d).budget le (not_cut fin) in
      let a = call_answered s c fin.accepted in
      let b = call_answered s d f in
      let code : code_from s d ≡ code_from s c = b.0 ∙ ap code_of same ∙ sym a.0 in
      let count : nodes_from s d ≡ nodes_from s c = b.1 ∙ ap nodes_of same ∙ sym a.1 in
      let done : Finished s d = record { accepted = f; finished = λ z. fin.finished (sym code ∙ z) } in
      record {
        same_code = code;
        same_N = count;
        same_entries = λ lent other l m.
            let u = named fin lent l in
            let v = named done other m in (
              u.0,
              omega (arith, count, v.0),
              ap (λ (n : ℕ). take n (table_left s d other)) (sym count) ∙ v.1
                  ∙ ap (λ (n : ℕ). take n (rows (literal_asked d))) count
                  ∙ ap (λ (h : ℕ). take (nodes_from s c) (rows h)) (sym e)
                  ∙ sym u.1,
            );
      }

  -- ---- the lines of the table

  module _ {list : List ℕ} {c : Call} (are : ArgumentList (program_in s).rules list) (fin : Finished s c) (lent : List Node)
      (l : Lent c lent) where
    abbrev nodes : List Node
    nodes = table_left s c lent

    abbrev h : ℕ
    h = literal_asked c

    abbrev es : List Entry
    es = forest_entries (tests (program_in s)) (literal_asked c)

    heads : HeadsBelow 128 (program_in s).rules
    heads = checked_heads s (fits c fin.accepted).checked

    published : EntriesIn (program_in s) (literal_asked c) (forest_entries (tests (program_in s)) (literal_asked c))
    published = (entries_published p heads h es).1 refl

    -- the list and the forest are those that are published
    same_list : published.list ≡ list
    same_list = (list_published p.rules heads published.list).0 published.is_list ∙ sym ((list_published p.rules heads list).0 are)

    own_forest : ForestIn (program_in s) (literal_asked c) published.are_entries.forest
    own_forest = record { list = published.list; is_list = published.is_list; is_forest = published.are_entries.is_forest }

    same_forest : (f : Forest ℕ) → ForestIn (program_in s) (literal_asked c) f → published.are_entries.forest ≡ f
    same_forest f g = (forest_published p heads h _).0 own_forest ∙ sym ((forest_published p heads h f).0 g)

    in_preorder : InPreorder (frame_of (program_in s) (Preferred (program_in s))) list [] 0 0 published.are_entries.forest es
    in_preorder =
        subst (λ m. InPreorder (frame_of p (Preferred p)) m [] 0 0 published.are_entries.forest es) same_list
        published.are_entries.in_preorder

    -- the N nodes read as the entries
    node_read : (j : ℕ) → j < nodes_from s c → get_or nodes j (node_of zeroed) ≡ node_of (get_or es j zeroed)
    node_read j k =
        sym (get_or-take (nodes_from s c) nodes j (node_of zeroed) k)
        ∙ ap (λ (r : List Node). get_or r j (node_of zeroed)) (named fin lent l).1
        ∙ get_or-take (nodes_from s c) (rows h) j (node_of zeroed) k
        ∙ get_or-map node_of es j zeroed

    reads : length es ≤ nodes_from s c → Reads list 0 (parent_in nodes) (argument_in list nodes) 0 es
    reads all j k =
        let z : 0 + j ≡ j = omega arith in
        let e = node_read j (omega arith) in (
          ap (parent_in nodes) z ∙ ap (λ (n : Node). n.parent) e,
          ap (argument_in list nodes) z ∙ ap (λ (n : Node). get_or list n.argument 0) e,
        )

    -- all nodes are named, where the literal's atom occurs
    all_named : Occurs (program_in s) (literal_asked c) → nodes_from s c ≡ length es
    all_named o =
        nodes_given fin ∙ answer_all p (preferred_test p) h (asked c).budget (not_cut fin) o ∙ sym (entries_count (tests p) h)

    led : (i : ℕ) → i < nodes_from s c → Led list 0 (parent_in nodes) (argument_in list nodes) [] published.are_entries.forest i
    led i k =
        let n = all_named (named_occurs p (preferred_test p) h (asked c).budget i (omega (arith, nodes_given fin))) in
        let z : 0 + i ≡ i = omega arith in
        subst (Led list 0 (parent_in nodes) (argument_in list nodes) [] published.are_entries.forest) z
        (preorder_led 0 (parent_in nodes) (argument_in list nodes) in_preorder tt (reads (omega arith)) i (omega arith))

    lead : (i : ℕ) → i < nodes_from s c → One (TableLine list nodes i)
    lead i k = let d = led i k in (d.line, d.leads, λ n q. line_unique q d.leads)

    -- the atom of a forest with a line occurs
    line_occurs : {n : List ℕ} → LineIn [] published.are_entries.forest n → Occurs (program_in s) (literal_asked c)
    line_occurs i = go (roots_some g.grows i)
      where
        g : ForestFor (frame_of (program_in s) (Preferred (program_in s))) published.list (literal_asked c) published.are_entries.forest
        g = published.are_entries.is_forest

        of_argument : (x k : ℕ) → Memᴰ x published.list → literal_of x ≡ k → Occurs (program_in s) k
        of_argument x k j e =
            subst (Occurs p) e (derived_occurs p (mask_of x) (literal_of x) (published.is_list.each_is_one x j).derived)

        each : (x : ℕ) → Memᴰ x g.for_literal ⊎ Memᴰ x g.for_complement → Occurs (program_in s) (literal_asked c)
        each x (inl j) = let k = (in_order_member g.literal_in_order x).0 j in of_argument x h k.0 k.1
        each x (inr j) =
            let k = (in_order_member g.complement_in_order x).0 j in
            occurs_complement (of_argument x (complement h) k.0 k.1)

        go : (x : ℕ) × Memᴰ x (g.for_literal ++ g.for_complement) → Occurs (program_in s) (literal_asked c)
        go (x, j) = each x (Memᴰ.append_cases g.for_literal j)

    found : {n : List ℕ} → LineIn [] published.are_entries.forest n → (i : ℕ) × (i < nodes_from s c) × TableLine list nodes i n
    found {n} i =
        let all = all_named (line_occurs i) in
        let (j, k, q) = preorder_has 0 (parent_in nodes) (argument_in list nodes) in_preorder tt (reads (omega arith)) i in
        let z : 0 + j ≡ j = omega arith in
        (j, omega arith, subst (λ m. TableLine list nodes m n) z q)

    hold : (f : Forest ℕ) → ForestIn (program_in s) (literal_asked c) f
        → (n : List ℕ) → LineIn [] f n ↔ ((i : ℕ) × (i < nodes_from s c) × TableLine list nodes i n)
    hold f g n =
        let e = same_forest f g in (
          λ i. found (subst (λ r. LineIn [] r n) (sym e) i),
          λ k.
              let d = led k.0 k.1 in
              subst (LineIn [] f) (line_unique d.leads k.2) (subst (λ r. LineIn [] r d.line) e d.of_node),
        )

    short : (most : ℕ) → LineLimit p.rules most → (i : ℕ) (n : List ℕ) → i < nodes_from s c → TableLine list nodes i n
        → length n ≤ most
    short most k i n j q =
        let g = own_forest in
        tree_short p (Preferred p) most h published.list n published.are_entries.forest k published.is_list
        published.are_entries.is_forest ((hold _ g n).1 (i, j, q))

  limit : check_image s ≡ Accepted → One (LineLimit p.rules)
  limit e =
      let settled = limit_settled p.rules (checked_heads s e) in
      (line_limit p.rules, (settled (line_limit p.rules)).1 refl, λ n. (settled n).0)

pub bounds : Bounds
bounds = record {
  more_budget = kept;
  masks_are = masks_different;
  one_limit = limit;
  lines_short = line_short;
  trees_short = tree_short;
  tables_lead = λ s list c lent are fin l. lead s are fin lent l;
  tables_hold = λ s list c lent f are g fin l. hold s are fin lent l f g;
  tables_short = λ s list c lent most are k fin l. short s are fin lent l most k;
  limit_rules = limit_rules;
}
