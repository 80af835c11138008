-- The trees of a literal's arguments, written one after another.
use mathlib.Core.Path.{◌≡◌, refl, sym, ap, ◌∙◌, subst}
use mathlib.Core.Bool.{Bool, true, false, ◌||◌}
use mathlib.Core.List.{List, [], ◌∷◌, ◌++◌, append-nil}
use mathlib.Core.Logic.{◌≢◌}
use Prim.Native.Nat.{ℕ, suc, ◌+◌, ◌≤◌, ◌<◌}
use native.Mathlib.Omega.{arith}
use native.Mathlib.Numerals.{add-one}
use lib.ListN.{length, get_or, drop, drop_of_length-le}
use lib.Seq.{drop-cons}
use lib.Dec.{eqb}
use borrow.Author.Tests.{eq-eqb, ne_eqb}
use Rattle.lists.specs.Lists.{any, filter, index_in}
use Rattle.derivation.specs.Derivation.{complement}
use Rattle.argument.specs.Argument.{literal_of}
use Rattle.defeat.specs.Tests.{Tests}
use Rattle.tree.specs.Forest.{Forest, none, tree, size, mark_of, replies, forest_of, undefeated_root}
use Rattle.tree.specs.Entries.{Entry, entries}
use Rattle.tree.specs.OfLiteral.{arguments_for, forest, forest_entries, warranted}
use Rattle.tree.specs.Inside.Tables.{Columns, Fits, Over}
use Rattle.tree.specs.Inside.Steps.{tree_entries}
use Rattle.tree.specs.Inside.Roots.{trees_entries, TreesBuilt, ForestBuilt, TreesOver, ForestOver}
use Rattle.tree.proofs.Entries.{preorder_length, entries_length, entries_first, entries_roots}
use Rattle.tree.proofs.Progress.{Progress, progress_start, progress_end, progress_step, progress_over}
use Rattle.tree.proofs.Growing.{Listing, at_list, list_length, tree_mark}

-- ---- the arguments for h

-- those from number j on
unfoldable pub roots_from : Tests ℕ → ℕ → ℕ → List ℕ
roots_from t h j = filter (λ x. eqb (literal_of x) h) (drop j t.arguments)

module _ (t : Tests ℕ) {arguments : List ℕ} (L : Listing t arguments) (h : ℕ) where
  pub roots_all : roots_from t h 0 ≡ arguments_for t h
  unfolding roots_from arguments_for
  roots_all = refl

  pub roots_none : (j : ℕ) → length arguments ≤ j → roots_from t h j ≡ []
  unfolding roots_from
  roots_none j le =
      ap (filter (λ x. eqb (literal_of x) h))
      (drop_of_length-le t.arguments {i = j} (omega (arith, list_length t L [])))

  roots_at : (j : ℕ) → j < length arguments → roots_from t h j ≡ filter (λ x. eqb (literal_of x) h) (get_or arguments j 0 ∷ drop (suc j) t.arguments)
  unfolding roots_from
  roots_at j lt =
      ap (filter (λ x. eqb (literal_of x) h))
      (drop-cons t.arguments j 0 (omega (arith, list_length t L []))
      ∙ ap (λ (x : ℕ). x ∷ drop (suc j) t.arguments) (at_list t L [] j))

  pub roots_skip : (j : ℕ) → j < length arguments → literal_of (get_or arguments j 0) ≢ h → roots_from t h j ≡ roots_from t h (j + 1)
  unfolding roots_from
  roots_skip j lt n = roots_at j lt ∙ rw (ne_eqb (literal_of (get_or arguments j 0)) h n, add-one)

  pub roots_take : (j : ℕ) → j < length arguments → literal_of (get_or arguments j 0) ≡ h
      → roots_from t h j ≡ get_or arguments j 0 ∷ roots_from t h (j + 1)
  unfolding roots_from
  roots_take j lt e = roots_at j lt ∙ rw (eq-eqb (literal_of (get_or arguments j 0)) h e, add-one)

-- ---- their trees, from number `at` on

module _ (t : Tests ℕ) (h at limit : ℕ) (before : Columns) where
  -- the arguments before number j are done: `next` is the next free number, and `found` says if some root so far is U
  pub record Rooting (j next : ℕ) (found : Bool) (tables : Columns) : Type 0 where
    pub progress : Progress (entries (index_in t.arguments) at (forest_of t (arguments_for t h))) at limit before
        (entries (index_in t.arguments) next (forest_of t (roots_from t h j))) next tables
    pub finds : (found || any (undefeated_root t) (roots_from t h j)) ≡ warranted t h

or_assoc : (a b c : Bool) → ((a || b) || c) ≡ (a || (b || c))
or_assoc true b c = refl
or_assoc false b c = refl

or_none : (a : Bool) → (a || false) ≡ a
or_none true = refl
or_none false = refl

mark_U : (b : Bool) → eqb (mark_of b) 1 ≡ b
mark_U true = refl
mark_U false = refl

module _ (t : Tests ℕ) {arguments : List ℕ} (L : Listing t arguments) (h at limit : ℕ) (before : Columns) where
  abbrev place : ℕ → ℕ
  place = index_in t.arguments

  abbrev all : List Entry
  all = trees_entries t h at

  pub rooting_start : at ≤ limit → Rooting t h at limit before 0 at false before
  unfolding warranted
  rooting_start le = record {
    progress = rw (roots_all t L h) (progress_start all at limit before le);
    finds = ap (any (undefeated_root t)) (roots_all t L h);
  }

  module _ {j next : ℕ} {found : Bool} {tables : Columns} (g : Rooting t h at limit before j next found tables) where
    -- no argument is left
    pub rooting_end : length arguments ≤ j → TreesBuilt t h at limit next found before tables
    unfolding forest_of
    rooting_end le =
        let e : roots_from t h j ≡ [] = roots_none t L h j le in
        record {
          built = progress_end g.progress (ap (λ (l : List ℕ). entries place next (forest_of t l)) e);
          undefeated_is = sym (or_none found) ∙ ap (λ (l : List ℕ). found || any (undefeated_root t) l) (sym e) ∙ g.finds;
        }

    module _ (inside : j < length arguments) where
      abbrev x : ℕ
      x = get_or arguments j 0

      abbrev first : Forest ℕ
      first = tree x 0 (replies t (x ∷ [])) none

      -- the argument is for another literal
      pub rooting_skip : literal_of x ≢ h → Rooting t h at limit before (j + 1) next found tables
      rooting_skip n = let s = roots_skip t L h j inside n in record {
        progress = subst (λ (l : List ℕ). Progress all at limit before (entries place next (forest_of t l)) next tables) s g.progress;
        finds = ap (λ (l : List ℕ). found || any (undefeated_root t) l) (sym s) ∙ g.finds;
      }

      module _ (is_for : literal_of x ≡ h) where
        taken : roots_from t h j ≡ x ∷ roots_from t h (j + 1)
        taken = roots_take t L h j inside is_for

        abbrev rest : List Entry
        rest = entries place (next + size first) (forest_of t (roots_from t h (j + 1)))

        split : entries place next (forest_of t (roots_from t h j)) ≡ tree_entries t [] x 0 next next ++ rest
        unfolding tree_entries forest_of
        split =
            ap (λ (l : List ℕ). entries place next (forest_of t l)) taken
            ∙ entries_first place next x 0 (replies t (x ∷ [])) (forest_of t (roots_from t h (j + 1)))

        -- a root's tree does not fit
        pub rooting_over : {after : Columns} → Over (tree_entries t [] x 0 next next) next limit tables after
            → TreesOver t h at limit before after
        rooting_over o = progress_over g.progress (tree_entries t [] x 0 next next) rest split o

        -- a root's tree is written
        module _ {end : ℕ} {after : Columns} (f : Fits (tree_entries t [] x 0 next next) next limit end tables after) where
          ended : end ≡ next + size first
          unfolding tree_entries
          ended = omega (arith, f.next_is, preorder_length place next next first)

          pub rooting_step : limit ≤ length tables.marks
              → Rooting t h at limit before (j + 1) end (found || eqb (get_or after.marks next 0) 1) after
          unfolding undefeated_root
          rooting_step long = record {
            progress =
                subst (λ (n : ℕ). Progress all at limit before (entries place n (forest_of t (roots_from t h (j + 1)))) end after)
                (sym ended)
                (progress_step g.progress (tree_entries t [] x 0 next next) rest split f);
            finds =
                ap (λ (m : ℕ). (found || eqb m 1) || any (undefeated_root t) (roots_from t h (j + 1))) (tree_mark t [] x 0 next next f long)
                ∙ ap (λ (u : Bool). (found || u) || any (undefeated_root t) (roots_from t h (j + 1))) (mark_U (undefeated_root t x))
                ∙ or_assoc found (undefeated_root t x) (any (undefeated_root t) (roots_from t h (j + 1)))
                ∙ ap (λ (l : List ℕ). found || any (undefeated_root t) l) (sym taken)
                ∙ g.finds;
          }

-- ---- the trees for h, then those for its complement

module _ (t : Tests ℕ) (h limit : ℕ) (before : Columns) where
  abbrev against : ℕ → List Entry
  against at = trees_entries t (complement h) at

  abbrev after_first : ℕ
  after_first = 0 + size (forest_of t (arguments_for t h))

  forest_split : forest_entries t h ≡ trees_entries t h 0 ++ against after_first
  unfolding forest
  forest_split = entries_roots t (index_in t.arguments) 0 (arguments_for t h) (arguments_for t (complement h))

  start : Progress (trees_entries t h 0 ++ against after_first) 0 limit before (trees_entries t h 0 ++ against after_first) 0 before
  start = progress_start (trees_entries t h 0 ++ against after_first) 0 limit before (omega arith)

  -- the first do not fit
  pub forest_first : {after : Columns} → TreesOver t h 0 limit before after → ForestOver t h limit before after
  forest_first o = rw forest_split (progress_over start (trees_entries t h 0) (against after_first) refl o)

  module _ {next : ℕ} {won : Bool} {middle : Columns} (b : TreesBuilt t h 0 limit next won before middle)
      (k : ℕ) (e : k ≡ complement h) where
    next_is : next ≡ after_first
    next_is =
        b.built.next_is
        ∙ ap (λ (k : ℕ). 0 + k) (entries_length (index_in t.arguments) 0 (forest_of t (arguments_for t h)))

    then : Progress (trees_entries t h 0 ++ against after_first) 0 limit before (against after_first) next middle
    then = progress_step start (trees_entries t h 0) (against after_first) refl b.built

    same : against after_first ≡ trees_entries t k next ++ []
    same = rw (e, next_is) (sym (append-nil (against after_first)))

    -- the second do not
    pub forest_second : {after : Columns} → TreesOver t k next limit middle after → ForestOver t h limit before after
    forest_second o = rw forest_split (progress_over then (trees_entries t k next) [] same o)

    pub forest_end : {nodes : ℕ} {lost : Bool} {after : Columns}
        → TreesBuilt t k next limit nodes lost middle after → ForestBuilt t h limit nodes won lost before after
    forest_end c = record {
      built = rw forest_split (progress_end (progress_step then (trees_entries t k next) [] same c.built) refl);
      won_is = b.undefeated_is;
      lost_is = rw e at c.undefeated_is;
    }
