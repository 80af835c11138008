-- From the forest to the answer and what it leaves in the tables.
use mathlib.Core.Path.{◌≡◌, refl, sym, ap, ◌∙◌, subst}
use mathlib.Core.Bool.{Bool, true, false}
use mathlib.Core.List.{List, ◌++◌}
use Prim.Native.Nat.{ℕ, ◌≤◌}
use native.Mathlib.Nat.{le_trans}
use native.Mathlib.Omega.{arith}
use lib.Dec.{ltb}
use borrow.Author.Tests.{lt-ltb, le-ltb}
use lib.ListN.{length, drop, replicate, length-replicate}
use Rattle.std.specs.Prelude.{Option, Some, None, MatchOption}
use Rattle.std.specs.Option.{ForSome}
use Rattle.program.specs.Program.{Program}
use Rattle.program.specs.Inside.Table.{Holds}
use Rattle.derivation.specs.Derivation.{complement}
use Rattle.excluded.specs.Inside.Exclusions.{Excluded, Conclusions}
use Rattle.tree.specs.declared.candidates.Framework.{Framework}
use Rattle.tree.specs.Entries.{Entry}
use Rattle.tree.specs.Inside.Tables.{Columns, Hold}
use Rattle.tree.specs.Inside.Steps.{Prepared}
use Rattle.tree.specs.Inside.Roots.{RootsReady, ForestBuilt, ForestOver}
use Rattle.tree.proofs.Tables.{column_front, columns_same}
use Rattle.forest.specs.declared.roots.Grown.{Grown}
use Rattle.answer.specs.declared.Answer.{Answer}
use Rattle.answer.specs.declared.Answer.TheVariants.{Yes, Unknown, Unfinished}
use Rattle.answer.specs.Answer.{occurs, node_count, forest_entries, warranted, answer_of, answer_by, tests, answer}
use Rattle.answer.specs.Tables.{front}
use Rattle.answer.specs.Inside.Columns.{columns_after, cleared}
use Rattle.outcome.specs.Outcome.{concluded, cleared_unless}
use Rattle.decision.specs.Inside.Steps.{Held, Asked, Listing, Decided}
use Rattle.answer.proofs.Answers.{entries_count}

-- ---- the tables that the forest is built from

module _ (f : Framework) (w : Held f.table.now) (l : Listing w f.rows.now f.arguments.now) (u : ℕ)
    (c : Conclusions u f.arguments.now)
    (e : (p : Program) → Holds p f.table.now → Excluded p.rules u f.exclusions.now) where
  abbrev pub prepared : Prepared f
  prepared = record {
    program = w.program;
    conclusions = u;
    made = record {
      limits = w.limits;
      holds = w.holds;
      told = l.told;
      excluded = e w.program w.holds;
      conclusions = subst (Conclusions u) l.listed c;
      listed = l.listed;
    };
    laid = l.laid;
  }

  pub roots_ready : (h budget : ℕ) (t : Columns) (line : List ℕ) → Asked f.table.now h budget t → 4096 ≤ length line
      → RootsReady f line 0 budget t
  roots_ready h budget t line a k = record {
    prepared = prepared;
    below = omega arith;
    budget = a.budget_below;
    line_holds = le_trans a.budget_below k;
    tables_hold = a.tables_hold;
  }

-- what a forest within the budget or past it says
abbrev pub GrownOf : (p : Program) (h b : ℕ) (before after : Columns) → Option Grown → Type 0
GrownOf p h b before after r = MatchOption r
    (ForestOver (tests p) h b before after)
    (λ g. ForestBuilt (tests p) h b g.nodes g.won g.lost before after)

-- the number of nodes is the budget at most
pub grown_small : (p : Program) (h b : ℕ) (before after : Columns) (r : Option Grown) → GrownOf p h b before after r
    → ForSome r (λ g. g.nodes ≤ b)
grown_small p h b before after r k g e = (rw e at k).built.within

-- and small enough to be concluded from
pub grown_bound : (p : Program) (h b : ℕ) (before after : Columns) (r : Option Grown) → GrownOf p h b before after r
    → b ≤ 4096 → ForSome r (λ g. g.nodes ≤ 4097)
grown_bound p h b before after r k le g e = omega (arith, grown_small p h b before after r k g e, le)

-- ---- the answer

module _ (p : Program) (h b : ℕ) where
  abbrev es : List Entry
  es = forest_entries (tests p) h

  answered : (o v : Bool) → occurs p h ≡ o → ltb b (node_count (tests p) h) ≡ v → (w m : Bool)
      → w ≡ warranted (tests p) h → m ≡ warranted (tests p) (complement h)
      → answer_of o v w m b (node_count (tests p) h) ≡ answer p h b
  unfolding answer_by
  answered o v e f w m k q = cc

  pub decided_unknown : (t : Columns) (o : Bool) → o ≡ occurs p h → o ≡ false → Decided p h b Unknown t t
  decided_unknown t o e f = record {
    result_is = answered false (ltb b (node_count (tests p) h)) (sym e ∙ f) refl _ _ refl refl;
    nodes_are = refl;
  }

  module _ (o : Bool) (occurs_is : o ≡ occurs p h) (there : o ≡ true) {before : Columns} where
    -- more nodes than the budget
    module _ {after : Columns} (over : ForestOver (tests p) h b before after) where
      zeroed : (s u : List ℕ) → drop b u ≡ drop b s → front (replicate b 0) u ≡ front (replicate b 0) s
      zeroed s u e = ap (λ (d : List ℕ). replicate b 0 ++ d) (at u ∙ e ∙ sym (at s))
        where
          at : (x : List ℕ) → drop (length {A = ℕ} (replicate b 0)) x ≡ drop b x
          at x = ap (λ (n : ℕ). drop n x) (length-replicate b 0)

      decided_over : Decided p h b (Unfinished b) before (cleared b after)
      decided_over = record {
        result_is = answered true true (sym occurs_is ∙ there)
            (lt-ltb b (node_count (tests p) h) (omega (arith, over.more, entries_count (tests p) h)))
            (warranted (tests p) h) (warranted (tests p) (complement h)) refl refl;
        nodes_are = columns_same
            (zeroed before.indexes after.indexes (ap (λ (t : Columns). t.indexes) over.kept))
            (zeroed before.parents after.parents (ap (λ (t : Columns). t.parents) over.kept))
            (zeroed before.kinds after.kinds (ap (λ (t : Columns). t.kinds) over.kept))
            (zeroed before.marks after.marks (ap (λ (t : Columns). t.marks) over.kept));
      }

    -- no more nodes than the budget
    module _ {after : Columns} {nodes : ℕ} {won lost : Bool} (grown : ForestBuilt (tests p) h b nodes won lost before after) (hold : Hold b before) where
      count : nodes ≡ node_count (tests p) h
      count = omega (arith, grown.built.next_is, entries_count (tests p) h)

      finished : answer_of true false won lost b nodes ≡ answer p h b
      finished =
          ap (answer_of true false won lost b) count
          ∙ answered true false (sym occurs_is ∙ there)
          (le-ltb b (node_count (tests p) h) (subst (λ (n : ℕ). n ≤ b) count grown.built.within)) won lost grown.won_is grown.lost_is

      fronts : after ≡ columns_after (Yes nodes) es before
      fronts =
          let n = grown.built.next_is in
          let m = grown.built.within in
          grown.built.tables_are ∙ columns_same
          (column_front (λ e. e.argument) before.indexes es (omega (arith, hold.indexes_hold)))
          (column_front (λ e. e.parent) before.parents es (omega (arith, hold.parents_hold)))
          (column_front (λ e. e.kind) before.kinds es (omega (arith, hold.kinds_hold)))
          (column_front (λ e. e.mark) before.marks es (omega (arith, hold.marks_hold)))

      decided_within : Decided p h b (answer_of true false won lost b nodes) before after
      decided_within = record { result_is = finished; nodes_are = go won lost }
        where
          go : (w m : Bool) → after ≡ columns_after (answer_of true false w m b nodes) es before
          go true m = fronts
          go false true = fronts
          go false false = fronts

    pub decided : (after : Columns) → Hold b before → (g : Option Grown) → GrownOf p h b before after g → {r : Answer} {last : Columns}
        → r ≡ concluded g b → last ≡ cleared_unless g b after → Decided p h b r before last
    decided after hold None over e z = rw (e, z) (decided_over over)
    decided after hold (Some g) built e z =
        rw (e, z, le-ltb b g.nodes built.built.within) (decided_within built hold)
