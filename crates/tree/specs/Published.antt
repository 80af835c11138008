-- The forest of a literal and its node entries as document 01 has them, under its heading "Lines and trees": what they have
-- to be, node by node and in list order. No depth, no test and no budget plays a part. proofs/Published.antt says that the
-- computed forest is so and that no other is, proofs/Preorder.antt the same of the entries.
use Rattle.std.specs.Prelude.{◌≡◌, List, [], ◌∷◌, ◌++◌, ℕ, suc, ◌+◌}
use Rattle.derivation.specs.Derivation.{complement}
use Rattle.argument.specs.Argument.{literal_of}
use Rattle.defeat.specs.Frame.{Frame}
use Rattle.defeat.specs.Defeat.{ProperDefeater, BlockingDefeater}
use Rattle.tree.specs.Marks.{Mark, U, D, Child, Marked}
use Rattle.tree.specs.Forest.{Forest, none, tree, size}
use Rattle.tree.specs.Entries.{Entry}

-- ---- the forest

-- "in list order": `InOrder list ys` says that ys are those of the list that have P, all of them and each where it stands
module _ {A : Type 0} (P : A → Type 0) where
  pub data InOrder : List A → List A → Type 0 where
    end : InOrder [] []
    kept : {x : A} {l ys : List A} → P x → InOrder l ys → InOrder (x ∷ l) (x ∷ ys)
    passed : {x : A} {l ys : List A} → ¬ P x → InOrder l ys → InOrder (x ∷ l) ys

module _ {A : Type 0} (F : Frame A) where
  -- "kind 0 root, 1 proper, 2 blocking": `KindOf l k` says that k is the kind of the node at the end of the line l
  pub data KindOf : List A → ℕ → Type 0 where
    root : {a : A} → KindOf (a ∷ []) 0
    proper : {y x : A} {l : List A} → ProperDefeater F y x → KindOf (y ∷ x ∷ l) 1
    blocking : {y x : A} {l : List A} → BlockingDefeater F y x → KindOf (y ∷ x ∷ l) 2

module _ {A : Type 0} (F : Frame A) (list : List A) where
  -- "The children of a node are all defeaters that keep the line acceptable, in list order."
  abbrev pub Children : List A → List A → Type 0
  Children l ys = InOrder (Child F l) list ys

  -- `Grows l xs f` says that f is the tree of each of xs, in this order, where xs stand after the line l: roots after no
  -- line, children after the line that ends in their parent.
  pub data Grows : List A → List A → Forest A → Type 0 where
    no_more : {l : List A} → Grows l [] none
    node : {l xs ys : List A} {x : A} {k : ℕ} {c r : Forest A}
        → KindOf F (x ∷ l) k → Children (x ∷ l) ys → Grows (x ∷ l) ys c
        → Grows l xs r → Grows l (x ∷ xs) (tree x k c r)

-- "The forest of h is the tree of each argument for h in list order, then those for its complement." Its number of nodes
-- is its `size`: "N is its number of nodes, nothing pruned."
pub record ForestFor (F : Frame ℕ) (list : List ℕ) (h : ℕ) (f : Forest ℕ) : Type 0 where
  pub for_literal : List ℕ
  pub for_complement : List ℕ
  pub literal_in_order : InOrder (λ x. literal_of x ≡ h) list for_literal
  pub complement_in_order : InOrder (λ x. literal_of x ≡ complement h) list for_complement
  pub grows : Grows F list [] (for_literal ++ for_complement) f

-- ---- its entries

-- "index in the argument list": where x stands first
module _ {A : Type 0} where
  pub data IndexIn : List A → A → ℕ → Type 0 where
    here : {x : A} {l : List A} → IndexIn (x ∷ l) x 0
    later : {x y : A} {l : List A} {i : ℕ} → ¬ (y ≡ x) → IndexIn l x i → IndexIn (y ∷ l) x (suc i)

  -- "parent's node number (a root: its own)": of node number `at` after a line that ends in node number `above`
  abbrev pub parent_after : List A → (above at : ℕ) → ℕ
  parent_after [] above at = at
  parent_after (x ∷ l) above at = above

-- "mark 1 U, 2 D"
abbrev pub number_of : Mark → ℕ
number_of U = 1
number_of D = 2

module _ {A : Type 0} (F : Frame A) (list : List A) where
  -- "Node entries stand in preorder .., each with: index in the argument list; parent's node number (a root: its own);
  -- kind 0 root, 1 proper, 2 blocking; mark 1 U, 2 D." `InPreorder l above at f es` says that es are the entries of the
  -- trees f after the line l, whose last node has the number `above`; the first of them has the number `at`.
  pub data InPreorder : List A → (above at : ℕ) → Forest A → List Entry → Type 0 where
    no_entry : {l : List A} {above at : ℕ} → InPreorder l above at none []
    entry : {l : List A} {above at index k : ℕ} {x : A} {m : Mark} {c r : Forest A} {es fs : List Entry}
        → IndexIn list x index → Marked F m (x ∷ l)
        → InPreorder (x ∷ l) at (suc at) c es
        → InPreorder l above (suc at + size c) r fs
        → InPreorder l above at (tree x k c r)
        (record { argument = index; parent = parent_after l above at; kind = k; mark = number_of m } ∷ (es ++ fs))

-- the entries of the forest of h; the roots stand after no line, and have no node above them
pub record EntriesFor (F : Frame ℕ) (list : List ℕ) (h : ℕ) (es : List Entry) : Type 0 where
  pub forest : Forest ℕ
  pub is_forest : ForestFor F list h forest
  pub in_preorder : InPreorder F list [] 0 0 forest es
