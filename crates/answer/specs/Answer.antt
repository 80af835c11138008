-- Answers as document 01 has them, under its heading "Answers".
use Rattle.std.specs.Prelude.{◌≡◌, Bool, true, false, ℕ, ◌/◌, eqb, ltb}
use mathlib.Core.List.{◌∷◌, Memᴰ}
use Rattle.lists.specs.Lists.{any}
use Rattle.program.specs.Program.{Rule, Program}
use Rattle.derivation.specs.Derivation.{complement}
use Rattle.defeat.specs.Tests.{Tests}
use Rattle.preference.specs.Preference.{preferred_test}
use Rattle.defeat.specs.OfProgram.{tests_of}
pub use Rattle.tree.specs.OfLiteral.{node_count, forest_entries}
unfoldable pub use Rattle.tree.specs.OfLiteral.{arguments_for, forest, warranted}
use Rattle.answer.specs.declared.Answer.{Answer}
use Rattle.answer.specs.declared.Answer.TheVariants.{Yes, No, Undecided, Unknown, Unfinished}

-- "4 UNKNOWN, 0 nodes: the atom stands in no rule.": h's atom is that of some literal of some rule
pub record Occurs (p : Program) (h : ℕ) : Type 0 where
  pub rule : Rule
  pub in_program : Memᴰ rule p.rules
  pub literal : ℕ
  pub in_rule : Memᴰ literal (rule.head ∷ rule.body)
  pub same_atom : literal / 2 ≡ h / 2

unfoldable pub occurs : Program → ℕ → Bool
occurs p h = any (λ r. any (λ l. eqb (l / 2) (h / 2)) (r.head ∷ r.body)) p.rules

-- the answers by the tests that decide between them, "4 UNKNOWN", "otherwise", "5 UNFINISHED", "Else, with N nodes"
abbrev pub answer_of : (occurring over won lost : Bool) (budget n : ℕ) → Answer
answer_of false over won lost budget n = Unknown
answer_of true true won lost budget n = Unfinished budget
answer_of true false true lost budget n = Yes n
answer_of true false false true budget n = No n
answer_of true false false false budget n = Undecided n

-- at any preference between masks
unfoldable pub answer_by : Program → (ℕ → ℕ → Bool) → ℕ → ℕ → Answer
answer_by p preferred h budget =
    let t = tests_of p preferred in
    let n = node_count t h in
    answer_of (occurs p h) (ltb budget n) (warranted t h) (warranted t (complement h)) budget n

-- at document 01's
abbrev pub tests : Program → Tests ℕ
tests p = tests_of p (preferred_test p)

abbrev pub answer : Program → ℕ → ℕ → Answer
answer p h budget = answer_by p (preferred_test p) h budget

-- document 01's number for each answer: "1 YES", "2 NO", "3 UNDECIDED", "4 UNKNOWN", "5 UNFINISHED"
abbrev pub code_of : Answer → ℕ
code_of (Yes n) = 1
code_of (No n) = 2
code_of (Undecided n) = 3
code_of Unknown = 4
code_of (Unfinished n) = 5

abbrev pub nodes_of : Answer → ℕ
nodes_of (Yes n) = n
nodes_of (No n) = n
nodes_of (Undecided n) = n
nodes_of Unknown = 0
nodes_of (Unfinished n) = n
