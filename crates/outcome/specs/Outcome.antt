-- What is concluded from a forest, or from none: that is one with more nodes than the budget.
use Rattle.std.specs.Prelude.{true, ℕ, Option, Some, None, ltb}
use Rattle.lists.specs.Lists.{choose}
use Rattle.tree.specs.Inside.Tables.{Columns}
use Rattle.forest.specs.declared.roots.Grown.{Grown}
use Rattle.answer.specs.declared.Answer.{Answer}
use Rattle.answer.specs.declared.Answer.TheVariants.{Unfinished}
use Rattle.answer.specs.Answer.{answer_of}
use Rattle.answer.specs.Inside.Columns.{cleared}

-- the answer
abbrev pub concluded : Option Grown → (budget : ℕ) → Answer
concluded None budget = Unfinished budget
concluded (Some g) budget = answer_of true (ltb budget g.nodes) g.won g.lost budget g.nodes

-- the tables after it: zeros in place of a forest that is not whole
abbrev pub cleared_unless : Option Grown → (budget : ℕ) → Columns → Columns
cleared_unless None budget t = cleared budget t
cleared_unless (Some g) budget t = choose (ltb budget g.nodes) (cleared budget t) t
