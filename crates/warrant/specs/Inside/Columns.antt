-- The query over four tables of numbers, one for each field of the node entries.
use Rattle.std.specs.Prelude.{List, ℕ}
use Rattle.tree.specs.Inside.Tables.{Columns}
use Rattle.tree.specs.Entries.{Entry}
use Rattle.answer.specs.declared.Answer.{Answer}
use Rattle.calls.specs.Outcomes.{Outcome}
use Rattle.calls.specs.Calls.{column_in, query_column}

-- what an outcome leaves in them
abbrev pub columns_left : Outcome Answer → List Entry → Columns → Columns
columns_left a forest t = record {
  indexes = column_in (λ e. e.argument) a forest t.indexes;
  parents = column_in (λ e. e.parent) a forest t.parents;
  kinds = column_in (λ e. e.kind) a forest t.kinds;
  marks = column_in (λ e. e.mark) a forest t.marks;
}

-- what the query leaves in them, beside a node table of so many entries
abbrev pub query_columns : List ℕ → (literal budget argument_room node_room : ℕ) → Columns → Columns
query_columns s h budget argument_room node_room t = record {
  indexes = query_column (λ e. e.argument) s h budget argument_room node_room t.indexes;
  parents = query_column (λ e. e.parent) s h budget argument_room node_room t.parents;
  kinds = query_column (λ e. e.kind) s h budget argument_room node_room t.kinds;
  marks = query_column (λ e. e.mark) s h budget argument_room node_room t.marks;
}
