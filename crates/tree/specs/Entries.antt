-- "Node entries stand in preorder in a lent table of node entries, each with: index in the argument list; parent's node
-- number (a root: its own); kind 0 root, 1 proper, 2 blocking; mark 1 U, 2 D."
use Rattle.std.specs.Prelude.{List, [], ◌∷◌, ◌++◌, ℕ, suc, ◌+◌}
use Rattle.tree.specs.Forest.{Forest, none, tree, size, all_defeated, mark_of}

pub record Entry : Type 0 where
  pub argument : ℕ
  pub parent : ℕ
  pub kind : ℕ
  pub mark : ℕ

-- `place` is an argument's index in the argument list
module _ {A : Type 0} (place : A → ℕ) where
  -- the entry of an argument with the replies c
  abbrev pub entry_of : ℕ → A → ℕ → Forest A → Entry
  entry_of parent a k c = record { argument = place a; parent = parent; kind = k; mark = mark_of (all_defeated c) }

  -- the nodes of trees with one parent, where the first node's number is `at`
  abbrev pub preorder : ℕ → ℕ → Forest A → List Entry
  preorder at parent none = []
  preorder at parent (tree a k c r) =
      entry_of parent a k c ∷ (preorder (suc at) at c ++ preorder (suc at + size c) parent r)

  -- the nodes of a forest, where the first node's number is `at`: a root's parent is its own number
  abbrev pub entries : ℕ → Forest A → List Entry
  entries at none = []
  entries at (tree a k c r) =
      entry_of at a k c ∷ (preorder (suc at) at c ++ entries (suc at + size c) r)
