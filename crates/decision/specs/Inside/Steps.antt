-- What the steps from a program to an answer are asked, and what they leave.
use Rattle.std.specs.Prelude.{◌≡◌, Bool, List, ◌∷◌, Option, Some, None, ℕ, ◌/◌, ◌≤◌, ◌<◌, eqb, leb, length}
use Rattle.lists.specs.Lists.{any, choose}
use Rattle.literals.specs.Inside.Words.{set_of}
use Rattle.program.specs.Program.{Rule, Program}
use Rattle.program.specs.Limits.{Limits}
use Rattle.program.specs.Inside.Table.{Holds}
use Rattle.argument.specs.List.{argument_list}
use Rattle.listing.specs.Inside.Listing.{with_list}
use Rattle.closures.specs.Inside.Table.{Laid, Tells}
use Rattle.closing.specs.Inside.Plan.{Planned, PlanOf}
use Rattle.tree.specs.Entries.{Entry}
use Rattle.tree.specs.Inside.Tables.{Columns, Hold}
use Rattle.answer.specs.declared.Answer.{Answer}
use Rattle.answer.specs.Answer.{tests, forest_entries, answer}
use Rattle.answer.specs.Inside.Columns.{columns_after}
use Rattle.decision.specs.declared.answering.Plan.{Plan}

-- the atom of h stands in a rule
abbrev pub stands_in : ℕ → Rule → Bool
stands_in h r = any (λ l. eqb (l / 2) (h / 2)) (r.head ∷ r.body)

-- a program within the limits that the table holds
pub record Held (table : List ℕ) : Type 0 where
  pub program : Program
  pub limits : Limits program
  pub holds : Holds program table

-- a literal, a budget, and the tables of a forest with room for it
pub record Asked (table : List ℕ) (h budget : ℕ) (t : Columns) : Type 0 where
  pub held : Held table
  pub literal_below : h < 128
  pub budget_below : budget ≤ 4096
  pub tables_hold : Hold budget t

-- the rows of the program that the table holds are planned
pub record Plans (table : List ℕ) (p : Plan) : Type 0 where
  pub planned : Planned p.live.now p.keep.now p.base.now (set_of p.ground.derived) (set_of p.ground.literals)
      (set_of p.ground.pairs) p.ground.end p.ground.span
  pub plan_of : (q : Program) → Holds q table → PlanOf q p.live.now (set_of p.ground.derived) (set_of p.ground.literals)

-- the rows and the argument list of the program are there
pub record Listing {table : List ℕ} (w : Held table) (rows arguments : List ℕ) : Type 0 where
  pub told : Tells w.program.rules rows
  pub laid : Laid rows
  pub listed : arguments ≡ argument_list w.program.rules

pub record Decidable (table rows arguments : List ℕ) (h budget : ℕ) (t : Columns) : Type 0 where
  pub asked : Asked table h budget t
  pub listing : Listing asked.held rows arguments

-- the answer, and what it leaves in the tables of the forest
pub record Decided (p : Program) (h budget : ℕ) (r : Answer) (before after : Columns) : Type 0 where
  pub result_is : r ≡ answer p h budget
  pub nodes_are : after ≡ columns_after r (forest_entries (tests p) h) before

-- the answer, or none: "More arguments than the argument table holds"
abbrev pub settled : Program → (h budget room : ℕ) → Option Answer
settled p h budget room = choose (leb (length (argument_list p.rules)) room) (Some (answer p h budget)) None

-- with no answer the tables are as they were
abbrev pub columns_settled : Option Answer → List Entry → Columns → Columns
columns_settled (Some r) forest t = columns_after r forest t
columns_settled None forest t = t

-- that, and what it leaves in all tables
pub record Settled (p : Program) (h budget : ℕ) (r : Option Answer) (arguments arguments' : List ℕ) (before after : Columns)
    : Type 0 where
  pub result_is : r ≡ settled p h budget (length arguments)
  pub arguments_are : arguments' ≡ with_list (argument_list p.rules) arguments
  pub nodes_are : after ≡ columns_settled r (forest_entries (tests p) h) before

-- the same of each program within the limits that the table holds
abbrev pub Settles : (table : List ℕ) (h budget : ℕ) (r : Option Answer) (arguments arguments' : List ℕ)
    (before after : Columns) → Type 0
Settles table h budget r arguments arguments' before after =
    (w : Held table) → Settled w.program h budget r arguments arguments' before after
