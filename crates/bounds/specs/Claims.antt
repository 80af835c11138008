-- More budget, and how long a quarrel can get (document 02, C-18): what is claimed. proofs/Claims.antt proves it.
use Rattle.std.specs.Prelude.{◌≡◌, List, [], ◌↔◌, ℕ, ◌-◌, ◌^◌, ◌≤◌, ◌<◌, length, take, replicate}
use Rattle.program.specs.Program.{Rule, Program, defeasibles}
use Rattle.calls.specs.Verdicts.{Accepted}
use Rattle.layout.specs.Reading.{program_in}
use Rattle.argument.specs.Argument.{ArgumentList}
use Rattle.defeat.specs.OfProgram.{frame_of}
use Rattle.tree.specs.Line.{AcceptableLine}
use Rattle.tree.specs.Forest.{Forest}
use Rattle.tree.specs.Published.{ForestFor}
use Rattle.answer.specs.Forest.{ForestIn}
use Rattle.nodes.specs.declared.Node.{Node}
use Rattle.calls.specs.Calls.{check_image, query_nodes, node_of, zeroed, Call, query, host, trees, asked, literal_asked, verdict_of}
use Rattle.calls.specs.Calls.{code_from, nodes_from}
use Rattle.warrant.specs.Claims.{One}
use Rattle.bounds.specs.Masks.{DifferentMasks, masks_in, or_one, LineLimit}
use Rattle.bounds.specs.Lines.{LineIn, TableLine}

-- ---- more budget

-- the node table that a call is lent has as many entries as it says; the C call is lent none
abbrev pub Lent : Call → List Node → Type 0
Lent (query h budget argument_room node_room) lent = length lent ≡ node_room
Lent (host h budget) lent = lent ≡ []
Lent (trees h budget argument_room node_room) lent = length lent ≡ node_room

-- what a call leaves in its node table: in the one that it is lent, or in its own of "4,096 entries, zeroed"
abbrev pub table_left : List ℕ → Call → List Node → List Node
table_left image (query h budget argument_room node_room) lent = query_nodes image h budget argument_room lent
table_left image (host h budget) lent = query_nodes image h budget 4096 (replicate 4096 (node_of zeroed))
table_left image (trees h budget argument_room node_room) lent = query_nodes image h budget argument_room lent

-- "given .. with the same N and the same first N entries": the answer of c is that of d
pub record Kept (image : List ℕ) (c d : Call) : Type 0 where
  pub same_code : code_from image d ≡ code_from image c
  pub same_N : nodes_from image d ≡ nodes_from image c
  -- whatever stood in their tables, both have N entries now, and these agree
  pub same_entries : (lent other : List Node) → Lent c lent → Lent d other
      → (nodes_from image c ≤ length (table_left image c lent)) × (nodes_from image c ≤ length (table_left image d other))
      × (take (nodes_from image c) (table_left image d other) ≡ take (nodes_from image c) (table_left image c lent))

-- a call that is not refused, with an answer other than UNFINISHED
pub record Finished (image : List ℕ) (c : Call) : Type 0 where
  pub accepted : verdict_of image c ≡ Accepted
  pub finished : ¬ (code_from image c ≡ 5)

-- ---- one claim

pub record Bounds : Type 1 where
  -- "for every accepted program, literal and two budgets where neither call is refused: an answer other than UNFINISHED
  -- given with the smaller one is given with the larger": of any two calls that ask for one literal
  pub more_budget : (image : List ℕ) (c d : Call) → literal_asked c ≡ literal_asked d → (asked c).budget ≤ (asked d).budget
      → Finished image c → verdict_of image d ≡ Accepted → Kept image c d
  -- "different non-empty masks in the argument list": what is computed is so; and of a program that is accepted one number
  -- is the limit
  pub masks_are : (list : List ℕ) → DifferentMasks list (masks_in list)
  pub one_limit : (image : List ℕ) → check_image image ≡ Accepted → One (LineLimit (program_in image).rules)
  -- "no line in any tree has more nodes than there are different non-empty masks in the argument list, or than one where there
  -- are none": no acceptable line has, in any program and at any preference between masks
  pub lines_short : (p : Program) (Pref : ℕ → ℕ → Type 0) (most : ℕ) (l : List ℕ) → LineLimit p.rules most
      → AcceptableLine (frame_of p Pref) l → length l ≤ most
  -- no line of a node of a published forest
  pub trees_short : (p : Program) (Pref : ℕ → ℕ → Type 0) (most h : ℕ) (list l : List ℕ) (f : Forest ℕ)
      → LineLimit p.rules most → ArgumentList p.rules list → ForestFor (frame_of p Pref) list h f → LineIn [] f l
      → length l ≤ most
  -- the node table after a finished call, with the argument list that its entries point into: from each of the N nodes the
  -- parents lead up one line, and these are the lines of the literal's forest, all of them
  pub tables_lead : (image list : List ℕ) (c : Call) (lent : List Node) → ArgumentList (program_in image).rules list
      → Finished image c → Lent c lent
      → (i : ℕ) → i < nodes_from image c → One (TableLine list (table_left image c lent) i)
  pub tables_hold : (image list : List ℕ) (c : Call) (lent : List Node) (f : Forest ℕ) → ArgumentList (program_in image).rules list
      → ForestIn (program_in image) (literal_asked c) f → Finished image c → Lent c lent
      → (l : List ℕ) → LineIn [] f l ↔ ((i : ℕ) × (i < nodes_from image c) × TableLine list (table_left image c lent) i l)
  -- none of them has more nodes
  pub tables_short : (image list : List ℕ) (c : Call) (lent : List Node) (most : ℕ) → ArgumentList (program_in image).rules list
      → LineLimit (program_in image).rules most → Finished image c → Lent c lent
      → (i : ℕ) (l : List ℕ) → i < nodes_from image c → TableLine list (table_left image c lent) i l → length l ≤ most
  -- nor is the limit more than there are non-empty masks of the program's defeasible rules at all
  pub limit_rules : (rules : List Rule) (most : ℕ) → LineLimit rules most → most ≤ or_one (2 ^ defeasibles rules - 1)
