-- What an answer leaves in four tables of numbers, one for each field of the node entries.
use Rattle.std.specs.Prelude.{List, ℕ, replicate}
use Rattle.tree.specs.Entries.{Entry}
use Rattle.tree.specs.Inside.Tables.{Columns}
use Rattle.answer.specs.declared.Answer.{Answer}
use Rattle.answer.specs.Tables.{front, column_after}

abbrev pub columns_after : Answer → List Entry → Columns → Columns
columns_after a forest t = record {
  indexes = column_after (λ e. e.argument) a forest t.indexes;
  parents = column_after (λ e. e.parent) a forest t.parents;
  kinds = column_after (λ e. e.kind) a forest t.kinds;
  marks = column_after (λ e. e.mark) a forest t.marks;
}

-- the first n entries of each zeroed
abbrev pub cleared : ℕ → Columns → Columns
cleared n t = record {
  indexes = front (replicate n 0) t.indexes;
  parents = front (replicate n 0) t.parents;
  kinds = front (replicate n 0) t.kinds;
  marks = front (replicate n 0) t.marks;
}
