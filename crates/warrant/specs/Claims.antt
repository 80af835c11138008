-- The three demands, one claim each: of every image, literal and budget, and of tables of every length and contents.
-- proofs/Claims.antt proves them. They speak of the definitions that the contracts of the calls equate results and tables
-- with (crate `calls`, specs/Calls.antt).
use Rattle.std.specs.Prelude.{◌≡◌, List, ◌↔◌, ℕ, ◌≤◌, ◌<◌, length}
use Rattle.program.specs.Program.{Program}
use Rattle.calls.specs.Verdicts.{Accepted, Refused}
use Rattle.layout.specs.Reading.{program_in}
use Rattle.argument.specs.Argument.{ArgumentList}
use Rattle.defeat.specs.OfProgram.{Exclude}
use Rattle.tree.specs.Forest.{Forest, size}
use Rattle.tree.specs.Entries.{Entry}
use Rattle.answer.specs.Warrant.{WarrantedBy, Warranted}
use Rattle.answer.specs.Forest.{ForestIn, EntriesIn}
use Rattle.nodes.specs.declared.Node.{Node}
use Rattle.calls.specs.Outcomes.{code_in}
use Rattle.calls.specs.Outcomes as outcomes
use Rattle.calls.specs.Calls.{check_image, check_call, list_verdict, listed, list_table, list_call, query_verdict, queried}
use Rattle.calls.specs.Calls.{query_arguments, query_nodes, front, Carries, Call, asked, literal_asked, verdict_of, code_from}
use Rattle.calls.specs.Calls.{nodes_from, HandsBack, SaysYes}
use Rattle.calls.specs.Causes.{Judged, ImageCause, ListCause, QueryCause}
use Rattle.warrant.specs.Answers.{Answers, NodesAfter}

-- ---- demand 1

-- No image, literal, budget or table length makes a call fault, run on or write past its tables. Nothing is refused except
-- for a listed cause; a refusal hands back its number and changes no lent table. That no call faults or runs on is no
-- sentence here: of every function of a proved crate it is proved that it is safe and ends.
pub record Demand_1 : Type 0 where
  -- no call writes past its tables: each keeps its length
  pub list_length : (image table : List ℕ) → length (list_table image table) ≡ length table
  pub arguments_length : (image : List ℕ) (h budget : ℕ) (table : List ℕ) (node_room : ℕ)
      → length (query_arguments image h budget table node_room) ≡ length table
  pub nodes_length : (image : List ℕ) (h budget argument_room : ℕ) (table : List Node)
      → length (query_nodes image h budget argument_room table) ≡ length table
  -- a call is accepted where no cause applies, else refused by the first that does
  pub check_judged : (image : List ℕ) → Judged (ImageCause image) (check_image image)
  pub list_judged : (image : List ℕ) (room : ℕ) → Judged (ListCause image room) (list_verdict image room)
  pub call_judged : (image : List ℕ) (c : Call) → Judged (QueryCause image (asked c)) (verdict_of image c)
  -- a refusal hands back its number, and its place where the result has one
  pub check_refused : (image : List ℕ) (number place : ℕ) → check_image image ≡ Refused number place
      → Carries (check_call image) number place
  pub list_refused : (image : List ℕ) (room number place : ℕ) → list_verdict image room ≡ Refused number place
      → (listed image room ≡ outcomes.Refused number place) × Carries (list_call image room) number place
  pub call_refused : (image : List ℕ) (c : Call) (number place : ℕ) → verdict_of image c ≡ Refused number place
      → HandsBack image c number place
  -- it passes for no acceptance, no count and no answer
  pub check_accepted : (image : List ℕ) → (check_image image ≡ Accepted) ↔ (check_call image ≡ 0)
  pub list_accepted : (image : List ℕ) (room : ℕ) → (list_verdict image room ≡ Accepted) ↔ (list_call image room < 0x1_0000_0000)
  pub call_accepted : (image : List ℕ) (c : Call)
      → (verdict_of image c ≡ Accepted) ↔ ((1 ≤ code_from image c) × (code_from image c ≤ 5))
  -- and changes no lent table
  pub list_left : (image table : List ℕ) (number place : ℕ) → list_verdict image (length table) ≡ Refused number place
      → list_table image table ≡ table
  pub arguments_left_lem : (image : List ℕ) (h budget : ℕ) (table : List ℕ) (node_room number place : ℕ)
      → query_verdict image h budget (length table) node_room ≡ Refused number place
      → query_arguments image h budget table node_room ≡ table
  pub nodes_left_lem : (image : List ℕ) (h budget argument_room : ℕ) (table : List Node) (number place : ℕ)
      → query_verdict image h budget argument_room (length table) ≡ Refused number place
      → query_nodes image h budget argument_room table ≡ table

-- ---- demand 2

-- one thing is so, and no other
abbrev pub One : {A : Type 0} → (A → Type 0) → Type 0
One {A} P = (x : A) × P x × ((y : A) → P y → y ≡ x)

-- Each answer, argument list, node count and marked tree is the one the published definitions give, as document 01 fixes
-- them: UNFINISHED exactly when the trees have more nodes than the budget; within it, YES exactly when some argument for the
-- literal roots a tree marked undefeated.
pub record Demand_2 : Type 0 where
  -- the published definitions give one argument list, one forest for each literal and one list of its entries, N of them
  pub one_list : (image : List ℕ) → check_image image ≡ Accepted → One (ArgumentList (program_in image).rules)
  pub one_forest : (image : List ℕ) (h : ℕ) → check_image image ≡ Accepted → One (ForestIn (program_in image) h)
  pub one_entries : (image : List ℕ) (h : ℕ) → check_image image ≡ Accepted → One (EntriesIn (program_in image) h)
  pub entries_N : (image : List ℕ) (h : ℕ) (f : Forest ℕ) (entries : List Entry) → check_image image ≡ Accepted
      → ForestIn (program_in image) h f → EntriesIn (program_in image) h entries → length entries ≡ size f
  -- "listing returns the argument count and writes the list"
  pub list_count : (image list : List ℕ) (room : ℕ) → list_verdict image room ≡ Accepted
      → ArgumentList (program_in image).rules list
      → (listed image room ≡ outcomes.Given (length list)) × (list_call image room ≡ length list)
  pub list_table_lem : (image list table : List ℕ) → list_verdict image (length table) ≡ Accepted
      → ArgumentList (program_in image).rules list → list_table image table ≡ front list table
  -- each answer and its nodes
  pub call_answers : (image : List ℕ) (c : Call) (f : Forest ℕ) → verdict_of image c ≡ Accepted
      → ForestIn (program_in image) (literal_asked c) f
      → Answers (program_in image) (literal_asked c) (asked c).budget (size f) (code_from image c) (nodes_from image c)
  -- "After every answer the argument table begins with the list."
  pub argument_table : (image list : List ℕ) (h budget : ℕ) (table : List ℕ) (node_room : ℕ)
      → query_verdict image h budget (length table) node_room ≡ Accepted → ArgumentList (program_in image).rules list
      → query_arguments image h budget table node_room ≡ front list table
  -- the marked tree
  pub node_table : (image : List ℕ) (h budget argument_room : ℕ) (entries : List Entry) (table : List Node)
      → query_verdict image h budget argument_room (length table) ≡ Accepted → EntriesIn (program_in image) h entries
      → NodesAfter (code_in (queried image h budget argument_room (length table))) budget entries table
      (query_nodes image h budget argument_room table)

-- ---- demand 3

-- when a call is to say YES: it is not turned away, N is within its budget, its literal is warranted
pub record Grants (image : List ℕ) (c : Call) : Type 0 where
  pub accepted : verdict_of image c ≡ Accepted
  pub within_budget : (f : Forest ℕ) → ForestIn (program_in image) (literal_asked c) f → size f ≤ (asked c).budget
  pub warranted : Warranted (program_in image) (literal_asked c)

-- Literals that exclude each other are never both warranted, nor both answered YES: one claim, of warrant as defined and
-- of the calls. Nothing says that the two literals differ.
pub record Demand_3 : Type 1 where
  -- of warrant, for every program and any preference between masks
  pub of_warrant : (p : Program) (Pref : ℕ → ℕ → Type 0) (h k : ℕ) → Exclude p.rules h k
      → WarrantedBy p Pref h → WarrantedBy p Pref k → ⊥
  -- and at document 01's
  pub of_document : (p : Program) (h k : ℕ) → Exclude p.rules h k → Warranted p h → Warranted p k → ⊥
  -- the calls say YES to what is warranted
  pub calls_grant : (image : List ℕ) (c : Call) → SaysYes image c ↔ Grants image c
  -- of the calls, any two on one image
  pub of_calls : (image : List ℕ) (c d : Call) → Exclude (program_in image).rules (literal_asked c) (literal_asked d)
      → SaysYes image c → SaysYes image d → ⊥
