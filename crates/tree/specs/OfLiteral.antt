-- The forest of a literal (document 01, "Lines and trees"). An argument is its entry in the argument list, M × 128 + h.
use Rattle.std.specs.Prelude.{Bool, List, ◌++◌, ℕ, eqb}
use Rattle.lists.specs.Lists.{any, filter, index_in}
use Rattle.derivation.specs.Derivation.{complement}
use Rattle.argument.specs.Argument.{literal_of}
use Rattle.defeat.specs.Tests.{Tests}
use Rattle.tree.specs.Forest.{Forest, size, forest_of, undefeated_root}
use Rattle.tree.specs.Entries.{Entry, entries}

module _ (t : Tests ℕ) where
  -- the arguments for h, in list order
  unfoldable pub arguments_for : ℕ → List ℕ
  arguments_for h = filter (λ x. eqb (literal_of x) h) t.arguments

  -- "The forest of h is the tree of each argument for h in list order, then those for its complement."
  unfoldable pub forest : ℕ → Forest ℕ
  forest h = forest_of t (arguments_for h ++ arguments_for (complement h))

  -- "N is its number of nodes, nothing pruned."
  abbrev pub node_count : ℕ → ℕ
  node_count h = size (forest h)

  -- "Node entries stand in preorder"
  abbrev pub forest_entries : ℕ → List Entry
  forest_entries h = entries (index_in t.arguments) 0 (forest h)

  -- "h has a root marked U"
  unfoldable pub warranted : ℕ → Bool
  warranted h = any (undefeated_root t) (arguments_for h)
