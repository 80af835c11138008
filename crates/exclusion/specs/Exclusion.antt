-- Demand 3 of two calls that are made: what their caller is told.
use Rattle.std.specs.Prelude.{◌≡◌, Bool, true, false, List, ℕ, ◌/◌, eqb, length}
use Rattle.lists.specs.Decides.{Decides}
use Rattle.layout.specs.Reading.{program_in}
use Rattle.defeat.specs.OfProgram.{Exclude}
use Rattle.calls.specs.Outcomes.{code_in}
use Rattle.nodes.specs.declared.Node.{Node}
use Rattle.calls.specs.Calls.{queried, query_arguments, query_nodes, host_call, trees_call, Call, query, host, trees, SaysYes}

-- "any call that gives a literal's answer, as these two do": the call from C, or the query with tables of these lengths
abbrev pub call_of : Bool → (literal budget argument_room node_room : ℕ) → Call
call_of true h budget argument_room node_room = host h budget
call_of false h budget argument_room node_room = query h budget argument_room node_room

-- the call says YES to its literal, as a test
abbrev pub says_yes : List ℕ → Call → Bool
says_yes s (query h budget argument_room node_room) = eqb (code_in (queried s h budget argument_room node_room)) 1
says_yes s (host h budget) = eqb (host_call s h budget / 65536) 1
says_yes s (trees h budget argument_room node_room) =
    eqb (trees_call s h budget argument_room node_room / 65536) 1

-- what a call leaves in the two lent tables: the call from C is not given them
abbrev pub arguments_left : Bool → List ℕ → (literal budget : ℕ) → List ℕ → (node_room : ℕ) → List ℕ
arguments_left true s h budget table node_room = table
arguments_left false s h budget table node_room = query_arguments s h budget table node_room

abbrev pub nodes_left : Bool → List ℕ → (literal budget argument_room : ℕ) → List Node → List Node
nodes_left true s h budget argument_room table = table
nodes_left false s h budget argument_room table = query_nodes s h budget argument_room table

abbrev pub TablesLeft : Bool → List ℕ → (literal budget : ℕ) → List ℕ → List Node → List ℕ → List Node → Type 0
TablesLeft foreign s h budget arguments nodes arguments' nodes' =
    (arguments' ≡ arguments_left foreign s h budget arguments (length nodes))
    × (nodes' ≡ nodes_left foreign s h budget (length arguments) nodes)

-- one call: whether it says YES, and the tables after it
abbrev pub OneCall : Bool → List ℕ → (literal budget : ℕ) → List ℕ → List Node → Bool → List ℕ → List Node → Type 0
OneCall foreign s h budget arguments nodes r arguments' nodes' =
    (r ≡ says_yes s (call_of foreign h budget (length arguments) (length nodes)))
    × TablesLeft foreign s h budget arguments nodes arguments' nodes'

-- what is returned of two calls on one image, which ask for h and k
pub record TwoCalls (image : List ℕ) (h k : ℕ) (c d : Call) (r : Bool) : Type 0 where
  -- whether both say YES
  pub both : Decides r (SaysYes image c × SaysYes image d)
  -- literals that exclude each other never both get YES
  pub never : Exclude (program_in image).rules h k → r ≡ false
