-- What the steps of supporter and objector are asked, and what they leave.
use Rattle.std.specs.Prelude.{◌≡◌, List, [], ◌∷◌, ℕ, zero, suc, ◌+◌, ◌^◌, ◌≤◌, ◌<◌, length, get_or, set, eqb, Option, Some}
use Rattle.lists.specs.Lists.{Within, choose, index_in}
use Rattle.literals.specs.Sets.{union}
use Rattle.program.specs.Program.{Program}
use Rattle.argument.specs.Argument.{mask_of}
use Rattle.closures.specs.Inside.Table.{Laid}
use Rattle.defeat.specs.Tests.{Tests}
use Rattle.preference.specs.Preference.{preferred_test}
use Rattle.defeat.specs.Inside.Exclusions.{Ready as Made}
use Rattle.defeat.specs.Inside.Kinds.{number_of, number_of_kind}
use Rattle.defeat.specs.OfProgram.{tests_of}
use Rattle.tree.specs.declared.candidates.Framework.{Framework}
use Rattle.tree.specs.declared.candidates.Reply.{Reply}
use Rattle.tree.specs.declared.nodes.Mark.{Mark}
use Rattle.tree.specs.declared.nodes.Mark.TheVariants.{Undefeated, Defeated}
use Rattle.tree.specs.declared.nodes.Step.{Step}
use Rattle.tree.specs.Reply.{mine, theirs, reply_kind, last_kind}
use Rattle.tree.specs.Forest.{none, tree, replies}
use Rattle.tree.specs.Entries.{Entry, preorder}
use Rattle.tree.specs.Inside.Tables.{Columns, Hold, opened, Built}

-- a table holds the line with its root first; as a list its last argument is first
abbrev pub line_of : List ℕ → (depth : ℕ) → List ℕ
line_of line zero = []
line_of line (suc depth) = get_or line depth 0 ∷ line_of line depth

-- the masks of some arguments as one
abbrev pub masks_of : List ℕ → ℕ
masks_of [] = 0
masks_of (x ∷ l) = union (masks_of l) (mask_of x)

-- the entries of the tree of x after a line, from number `at` on
unfoldable pub tree_entries : Tests ℕ → List ℕ → (x kind at parent : ℕ) → List Entry
tree_entries t l x kind at parent = preorder (index_in t.arguments) at parent (tree x kind (replies t (x ∷ l)) none)

-- a mark in the engine, as document 01's number: "mark 1 U, 2 D"
abbrev pub number_of_mark : Mark → ℕ
number_of_mark Undefeated = 1
number_of_mark Defeated = 2

-- a node's mark after one reply more: "An inner node is U exactly when every child is D, else D."
abbrev pub settled_by : (mark reply : ℕ) → ℕ
settled_by mark reply = choose (eqb reply 1) 2 mark

-- the tables that trees grow from hold one program: its rules, its rows, its exclusion sets and its argument list
pub record Prepared (f : Framework) : Type 0 where
  pub program : Program
  pub conclusions : ℕ
  pub made : Made program conclusions f.table.now f.rows.now f.exclusions.now f.arguments.now
  pub laid : Laid f.rows.now

-- the tests of that program
abbrev pub tests_in : {f : Framework} → Prepared f → Tests ℕ
tests_in w = tests_of w.program (preferred_test w.program)

-- a step's argument
abbrev pub argument_of : Framework → Step → ℕ
argument_of f s = get_or f.arguments.now s.index 0

-- what a step is asked. The line so far is that of its parent: `own` has the masks of its side on the line, `other` those of
-- the other side.
pub record Ready (f : Framework) (line : List ℕ) (s : Step) (limit : ℕ) (t : Columns) : Type 0 where
  pub prepared : Prepared f
  pub on_line : Within (line_of line s.depth) f.arguments.now
  pub own_masks : s.own ≡ masks_of (theirs (line_of line s.depth))
  pub other_masks : s.other ≡ masks_of (mine (line_of line s.depth))
  pub kind_is : (w : Prepared f) → number_of_kind s.kind ≡ last_kind (tests_in w) (argument_of f s ∷ line_of line s.depth)
  pub in_list : s.index < length f.arguments.now
  pub parent_in : s.parent ≤ s.at
  pub deep : s.depth ≤ s.at
  pub below : s.at ≤ limit
  pub budget : limit ≤ 4096
  pub line_holds : limit ≤ length line
  pub tables_hold : Hold limit t

-- what a step leaves, r being its result: the tree of the argument is built below its parent, from number `at` on, and the line
-- up to the argument is as it was
abbrev pub Leaves : (f : Framework) (line line' : List ℕ) (s : Step) (limit : ℕ) (r : Option ℕ) (t t' : Columns) → Type 0
Leaves f line line' s limit r t t' =
    ((w : Prepared f)
    → Built (tree_entries (tests_in w) (line_of line s.depth) (argument_of f s) (number_of_kind s.kind) s.at s.parent) s.at limit r t t')
    × (line_of line' s.depth ≡ line_of line s.depth)

-- the step of a reply to a step: the sides change places
abbrev pub answered : (s : Step) (joined : ℕ) (r : Reply) (at : ℕ) → Step
answered s joined r at = record {
  index = r.index;
  kind = Some r.kind;
  depth = s.depth + 1;
  own = s.other;
  other = joined;
  parent = s.at;
  at = at;
}

-- what is asked before replies to a step are looked for: its argument is the last one on the line, `other` has the masks of the
-- replies' side on it
pub record Asked (f : Framework) (line : List ℕ) (s : Step) : Type 0 where
  pub prepared : Prepared f
  pub on_line : Within (line_of line (s.depth + 1)) f.arguments.now
  pub side_masks : s.other ≡ masks_of (theirs (line_of line (s.depth + 1)))
  pub last_is : (w : Prepared f) → number_of_kind s.kind ≡ last_kind (tests_in w) (line_of line (s.depth + 1))
  pub line_holds : s.depth < length line

-- none of the candidates from `start` up to number n is a reply to the step
abbrev pub NoReply : (f : Framework) (line : List ℕ) (s : Step) (start n : ℕ) → Type 0
NoReply f line s start n = (w : Prepared f) (i : ℕ) → start ≤ i → i < n
    → reply_kind (tests_in w) (line_of line (s.depth + 1)) (get_or f.arguments.now i 0) ≡ 0

-- the first candidate from `start` on that is a reply
pub record FirstReply (f : Framework) (line : List ℕ) (s : Step) (start : ℕ) (r : Reply) : Type 0 where
  pub low : start ≤ r.index
  pub in_list : r.index < length f.arguments.now
  pub none_before : NoReply f line s start r.index
  pub kind_is : (w : Prepared f) → number_of r.kind ≡ reply_kind (tests_in w) (line_of line (s.depth + 1)) (get_or f.arguments.now r.index 0)

-- what is asked before a node is entered: each table that gets a number has its place, and the numbers fit
pub record Enters (line : List ℕ) (s : Step) (t : Columns) : Type 0 where
  pub line_holds : s.depth < length line
  pub indexes_hold : s.at < length t.indexes
  pub parents_hold : s.at < length t.parents
  pub kinds_hold : s.at < length t.kinds
  pub index_fits : s.index < 2 ^ 32
  pub parent_fits : s.parent < 2 ^ 32

-- what that leaves in the tables
pub record Entered (line line' : List ℕ) (s : Step) (argument : ℕ) (t t' : Columns) : Type 0 where
  pub line_is : line' ≡ set line s.depth argument
  pub tables_are : t' ≡ opened s.at s.index s.parent (number_of_kind s.kind) t
