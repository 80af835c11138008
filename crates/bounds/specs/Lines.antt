-- The line of each node: in a forest, and in a node table by the parents' numbers. As in tree/specs/Line, the last argument
-- comes first.
use Rattle.std.specs.Prelude.{◌≡◌, List, [], ◌∷◌, ℕ, ◌<◌, get_or}
use Rattle.tree.specs.Forest.{Forest, tree}
use Rattle.nodes.specs.declared.Node.{Node}
use Rattle.calls.specs.Calls.{node_of, zeroed}

module _ {A : Type 0} where
  -- `LineIn l f n` says that n is the line of a node of the trees f, which stand after the line l
  pub data LineIn : List A → Forest A → List A → Type 0 where
    first : {l : List A} {x : A} {k : ℕ} {c r : Forest A} → LineIn l (tree x k c r) (x ∷ l)
    below : {l n : List A} {x : A} {k : ℕ} {c r : Forest A} → LineIn (x ∷ l) c n → LineIn l (tree x k c r) n
    beside : {l n : List A} {x : A} {k : ℕ} {c r : Forest A} → LineIn l r n → LineIn l (tree x k c r) n

-- "parent's node number (a root: its own)": `LineUp i l` says that from node number i the parents lead to a root, each before
-- its child, and that l are the arguments on the way
module _ {A : Type 0} (parent_of : ℕ → ℕ) (argument_of : ℕ → A) where
  pub data LineUp : ℕ → List A → Type 0 where
    at_root : {i : ℕ} → parent_of i ≡ i → LineUp i (argument_of i ∷ [])
    up : {i : ℕ} {l : List A} → parent_of i < i → LineUp (parent_of i) l → LineUp i (argument_of i ∷ l)

-- what stands in a node table: the parent, and the argument, by its "index in the argument list". An index past the list would
-- read as 0; demand 2 says that there is none
abbrev pub parent_in : List Node → ℕ → ℕ
parent_in nodes i = (get_or nodes i (node_of zeroed)).parent

abbrev pub argument_in : List ℕ → List Node → ℕ → ℕ
argument_in list nodes i = get_or list (get_or nodes i (node_of zeroed)).argument 0

-- the line that leads up from a node of the table
abbrev pub TableLine : List ℕ → List Node → ℕ → List ℕ → Type 0
TableLine list nodes = LineUp (parent_in nodes) (argument_in list nodes)
