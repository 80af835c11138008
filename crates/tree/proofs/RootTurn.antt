-- The builder of a literal's trees on its way: those of the arguments up to a number are written.
use mathlib.Core.Path.{◌≡◌, refl, ◌∙◌}
use mathlib.Core.Bool.{Bool, false, ◌||◌}
use mathlib.Core.List.{List, []}
use mathlib.Core.Logic.{◌≢◌}
use Prim.Native.Nat.{ℕ, ◌+◌, ◌≤◌, ◌<◌}
use native.Mathlib.Omega.{arith}
use lib.ListN.{length, get_or}
use lib.Dec.{eqb}
use Rattle.std.specs.Prelude.{None}
use Rattle.lists.proofs.Lists.{within_nil}
use Rattle.argument.specs.Argument.{literal_of}
use Rattle.tree.specs.declared.candidates.Framework.{Framework}
use Rattle.tree.specs.declared.nodes.Step.{Step}
use Rattle.tree.specs.Inside.Tables.{Columns, Hold, Fits, Over}
use Rattle.tree.specs.Inside.Steps.{tree_entries, Prepared, tests_in, Ready}
use Rattle.tree.specs.Inside.Roots.{RootsReady, TreesBuilt, TreesOver}
use Rattle.tree.proofs.Tables.{fits_hold}
use Rattle.tree.proofs.Growing.{tree_room}
use Rattle.tree.proofs.Listings.{prepared_listing}
use Rattle.tree.proofs.Trees.{Rooting, rooting_start, rooting_skip, rooting_end, rooting_over, rooting_step}

-- The arguments before `start` are done, the tables are t, `next` is the next free number. line₀ and t₀ are the tables at
-- the beginning.
pub record RootTurn (f : Framework) (h : ℕ) (line₀ : List ℕ) (at limit : ℕ) (t₀ : Columns)
    (line : List ℕ) (t : Columns) (found : Bool) (next start : ℕ) : Type 0 where
  pub ready : RootsReady f line₀ at limit t₀
  pub line_long : length line ≡ length line₀
  pub tables_hold : Hold limit t
  pub high : next ≤ limit
  pub rooting : (w : Prepared f) → Rooting (tests_in w) h at limit t₀ start next found t

pub root_turn_start : {f : Framework} (h : ℕ) {line : List ℕ} {at limit : ℕ} {t : Columns}
    → RootsReady f line at limit t → RootTurn f h line at limit t line t false at 0
root_turn_start h {at = at} {limit = limit} {t = t} r = record {
  ready = r;
  line_long = refl;
  tables_hold = r.tables_hold;
  high = r.below;
  rooting = λ w. rooting_start (tests_in w) (prepared_listing w) h at limit t r.below;
}

-- a root's step: no line is before it, and its parent is its own number
abbrev pub root_step : (index at : ℕ) → Step
root_step index at = record { index = index; kind = None; depth = 0; own = 0; other = 0; parent = at; at = at }

module _ {f : Framework} {h : ℕ} {line₀ : List ℕ} {at limit : ℕ} {t₀ : Columns}
    {line : List ℕ} {t : Columns} {found : Bool} {next start : ℕ}
    (T : RootTurn f h line₀ at limit t₀ line t found next start) where
  pub root_turn_end : length f.arguments.now ≤ start → (w : Prepared f) → TreesBuilt (tests_in w) h at limit next found t₀ t
  root_turn_end le w = rooting_end (tests_in w) (prepared_listing w) h at limit t₀ (T.rooting w) le

  module _ (inside : start < length f.arguments.now) where
    abbrev x : ℕ
    x = get_or f.arguments.now start 0

    -- an argument for another literal
    pub root_turn_skip : literal_of x ≢ h → RootTurn f h line₀ at limit t₀ line t found next (start + 1)
    root_turn_skip n = record {
      ready = T.ready;
      line_long = T.line_long;
      tables_hold = T.tables_hold;
      high = T.high;
      rooting = λ w. rooting_skip (tests_in w) (prepared_listing w) h at limit t₀ (T.rooting w) inside n;
    }

    pub root_ready : Ready f line (root_step start next) limit t
    root_ready = record {
      prepared = T.ready.prepared;
      on_line = within_nil _;
      own_masks = refl;
      other_masks = refl;
      kind_is = λ w. refl;
      in_list = inside;
      parent_in = omega arith;
      deep = omega arith;
      below = T.high;
      budget = T.ready.budget;
      line_holds = omega (arith, T.line_long, T.ready.line_holds);
      tables_hold = T.tables_hold;
    }

    module _ (is_for : literal_of x ≡ h) {after : Columns} where
      pub root_turn_over : ((w : Prepared f) → Over (tree_entries (tests_in w) [] x 0 next next) next limit t after)
          → (w : Prepared f) → TreesOver (tests_in w) h at limit t₀ after
      root_turn_over o w =
          rooting_over (tests_in w) (prepared_listing w) h at limit t₀ (T.rooting w) inside is_for (o w)

      module _ {end : ℕ} (fits : (w : Prepared f) → Fits (tree_entries (tests_in w) [] x 0 next next) next limit end t after) where
        -- the root has a number
        root_turn_room : next < limit
        root_turn_room =
            let w = T.ready.prepared in
            let b = fits w in
            omega (arith, tree_room (tests_in w) [] x 0 next next b, b.within)

        -- below the largest budget
        pub root_turn_mark : next < 4096
        root_turn_mark = omega (arith, root_turn_room, T.ready.budget)

        -- the tables have the room that they had
        root_turn_hold : Hold limit after
        root_turn_hold = fits_hold (fits T.ready.prepared) T.tables_hold

        -- so its mark can be read
        pub root_turn_mark_in : next < length after.marks
        root_turn_mark_in = omega (arith, root_turn_room, root_turn_hold.marks_hold)

        pub root_turn_step : (line' : List ℕ) (found' : Bool) → length line' ≡ length line
            → found' ≡ (found || eqb (get_or after.marks next 0) 1)
            → RootTurn f h line₀ at limit t₀ line' after found' end (start + 1)
        root_turn_step line' found' nl e = record {
          ready = T.ready;
          line_long = nl ∙ T.line_long;
          tables_hold = root_turn_hold;
          high = (fits T.ready.prepared).within;
          rooting = λ w. rw e
              (rooting_step (tests_in w) (prepared_listing w) h at limit t₀ (T.rooting w) inside is_for (fits w) T.tables_hold.marks_hold);
        }

-- the same after some trees were written
pub roots_moved : {f : Framework} {line : List ℕ} {at limit : ℕ} {t : Columns} → RootsReady f line at limit t
    → (line' : List ℕ) (next : ℕ) → next ≤ limit → length line' ≡ length line → {t' : Columns} → Hold limit t'
    → RootsReady f line' next limit t'
roots_moved r line' next le n hold = record {
  prepared = r.prepared;
  below = le;
  budget = r.budget;
  line_holds = omega (arith, n, r.line_holds);
  tables_hold = hold;
}
