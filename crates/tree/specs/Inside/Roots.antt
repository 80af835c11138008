-- What the builder of a literal's forest is asked, and what it leaves.
use Rattle.std.specs.Prelude.{◌≡◌, Bool, ℕ, ◌≤◌, List, length}
use Rattle.lists.specs.Lists.{index_in}
use Rattle.derivation.specs.Derivation.{complement}
use Rattle.defeat.specs.Tests.{Tests}
use Rattle.tree.specs.declared.candidates.Framework.{Framework}
use Rattle.tree.specs.Forest.{forest_of}
use Rattle.tree.specs.Entries.{Entry, entries}
use Rattle.tree.specs.OfLiteral.{arguments_for, forest_entries, warranted}
use Rattle.tree.specs.Inside.Tables.{Columns, Hold, Fits, Over}
use Rattle.tree.specs.Inside.Steps.{Prepared}

-- what is asked before trees are written from number `at` on: "a budget of 0 to 4,096 nodes", and a line and tables with room for as many
pub record RootsReady (f : Framework) (line : List ℕ) (at limit : ℕ) (t : Columns) : Type 0 where
  pub prepared : Prepared f
  pub below : at ≤ limit
  pub budget : limit ≤ 4096
  pub line_holds : limit ≤ length line
  pub tables_hold : Hold limit t

-- the entries of the trees of the arguments for h, from number `at` on
abbrev pub trees_entries : Tests ℕ → (h at : ℕ) → List Entry
trees_entries t h at = entries (index_in t.arguments) at (forest_of t (arguments_for t h))

-- these trees, with the next free number, and whether some root is marked U
pub record TreesBuilt (t : Tests ℕ) (h at limit next : ℕ) (undefeated : Bool) (before after : Columns) : Type 0 where
  pub built : Fits (trees_entries t h at) at limit next before after
  pub undefeated_is : undefeated ≡ warranted t h

-- the forest of h: the number of its nodes; whether h has a root marked U, and its complement
pub record ForestBuilt (t : Tests ℕ) (h limit nodes : ℕ) (won lost : Bool) (before after : Columns) : Type 0 where
  pub built : Fits (forest_entries t h) 0 limit nodes before after
  pub won_is : won ≡ warranted t h
  pub lost_is : lost ≡ warranted t (complement h)

-- these trees, and this forest, are too large for the limit
abbrev pub TreesOver : Tests ℕ → (h at limit : ℕ) → (before after : Columns) → Type 0
TreesOver t h at limit before after = Over (trees_entries t h at) at limit before after

abbrev pub ForestOver : Tests ℕ → (h limit : ℕ) → (before after : Columns) → Type 0
ForestOver t h limit before after = Over (forest_entries t h) 0 limit before after
