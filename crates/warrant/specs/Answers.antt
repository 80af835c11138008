-- An answer and the tables after it, as document 01 has them under its heading "Answers": for any code, any number of nodes
-- and any tables, what they have to be.
use Rattle.std.specs.Prelude.{◌≡◌, List, map, ◌↔◌, ℕ, ◌≤◌, ◌<◌, replicate}
use Rattle.program.specs.Program.{Program}
use Rattle.derivation.specs.Derivation.{complement}
use Rattle.tree.specs.Entries.{Entry}
use Rattle.answer.specs.Warrant.{Warranted}
use Rattle.answer.specs.Answer.{Occurs}
use Rattle.nodes.specs.declared.Node.{Node}
use Rattle.calls.specs.Calls.{front, node_of, zeroed}

-- The code and the nodes of the answer to h, where the forest of h has N nodes.
pub record Answers (p : Program) (h budget N code nodes : ℕ) : Type 0 where
  -- "4 UNKNOWN, 0 nodes: the atom stands in no rule."
  pub unknown : (code ≡ 4) ↔ (¬ Occurs p h)
  pub nodes_unknown : ¬ Occurs p h → nodes ≡ 0
  -- "5 UNFINISHED, nodes = budget: otherwise, if N exceeds the budget."
  pub unfinished : (code ≡ 5) ↔ (Occurs p h × (budget < N))
  pub nodes_unfinished : Occurs p h → budget < N → nodes ≡ budget
  -- "Else, with N nodes: 1 YES if h has a root marked U; 2 NO if the complement has; 3 UNDECIDED if neither."
  pub nodes_finished : Occurs p h → N ≤ budget → nodes ≡ N
  pub says_yes_lem : (code ≡ 1) ↔ ((N ≤ budget) × Warranted p h)
  pub says_no : (code ≡ 2) ↔ ((N ≤ budget) × Warranted p (complement h))
  pub undecided : (code ≡ 3) ↔ (Occurs p h × (N ≤ budget) × (¬ Warranted p h) × (¬ Warranted p (complement h)))

-- The node table after an answer with this code, where the forest has these entries. "Entries past those named keep their
-- contents."
pub record NodesAfter (code budget : ℕ) (entries : List Entry) (before after : List Node) : Type 0 where
  -- "Node table untouched."
  pub after_unknown : code ≡ 4 → after ≡ before
  -- "The first budget entries are zeroed."
  pub after_unfinished : code ≡ 5 → after ≡ front (replicate budget (node_of zeroed)) before
  -- "The first N entries hold the forest."
  pub after_finished : code ≤ 3 → after ≡ front (map node_of entries) before
