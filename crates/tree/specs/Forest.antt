-- Dialectical trees as data, their marks, and the tree that grows from a line.
use Rattle.std.specs.Prelude.{Bool, true, false, not, ◌&&◌, List, [], ◌∷◌, ℕ, zero, suc, ◌+◌, length}
use Rattle.lists.specs.Lists.{filter}
use Rattle.defeat.specs.Tests.{Tests}
use Rattle.tree.specs.Reply.{unused, reply_kind}

-- Trees side by side: the first one's argument and kind, the trees of the replies to it, and the trees after it.
pub data Forest (A : Type 0) : Type 0 where
  none : Forest A
  tree : (argument : A) (kind : ℕ) (replies rest : Forest A) → Forest A

module _ {A : Type 0} where
  -- "N is its number of nodes, nothing pruned."
  abbrev pub size : Forest A → ℕ
  size none = 0
  size (tree a k c r) = suc (size c + size r)

  -- every root is marked D: "An inner node is U exactly when every child is D, else D."
  abbrev pub all_defeated : Forest A → Bool
  all_defeated none = true
  all_defeated (tree a k c r) = let rest = all_defeated r in not (all_defeated c) && rest

  -- one candidate's tree before the others, where its kind says that it is a child
  abbrev pub pick : ℕ → A → Forest A → Forest A → Forest A
  pick zero x c r = r
  pick (suc k) x c r = tree x (suc k) c r

  -- the trees of those candidates that pass, "in list order". A `let` waits: what is below is grown for them alone.
  abbrev pub from : (A → ℕ) → (A → Forest A) → List A → Forest A
  from test below [] = none
  from test below (x ∷ l) = let c = below x in pick (test x) x c (from test below l)

-- a node's mark from what `all_defeated` says of the replies: "mark 1 U, 2 D"
abbrev pub mark_of : Bool → ℕ
mark_of true = 1
mark_of false = 2

module _ {A : Type 0} (t : Tests A) where
  -- the replies to the line, to a depth
  unfoldable pub replies_to : ℕ → List A → Forest A
  replies_to zero l = none
  replies_to (suc depth) l = from (reply_kind t l) (λ x. replies_to depth (x ∷ l)) t.arguments

  -- how many arguments are not yet a sub-argument of one on the line; each reply leaves fewer
  unfoldable pub remaining : List A → ℕ
  remaining l = length (filter (unused t l) t.arguments)

  -- "The children of a node are all defeaters that keep the line acceptable, in list order", each with the replies to
  -- it. No line is so long that it reaches the depth: `replies_unroll` of proofs/ says the same without one.
  unfoldable pub replies : List A → Forest A
  replies l = replies_to (suc (remaining l)) l

  -- "The forest of h is the tree of each argument for h in list order, then those for its complement": the roots are
  -- given here, in that order. A root's kind is 0.
  unfoldable pub forest_of : List A → Forest A
  forest_of [] = none
  forest_of (a ∷ roots) = tree a 0 (replies (a ∷ [])) (forest_of roots)

  -- whether a, as the root of a tree, is marked U: all replies to it are D
  unfoldable pub undefeated_root : A → Bool
  undefeated_root a = all_defeated (replies (a ∷ []))
