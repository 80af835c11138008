-- Node entries as the rows of four tables of numbers, one for each field.
use Rattle.std.specs.Prelude.{List, map, ℕ, get_or}
use Rattle.lists.specs.Lists.{upto}
use Rattle.tree.specs.Inside.Tables.{Columns}
use Rattle.nodes.specs.declared.Node.{Node}

-- entry i of each table, together
abbrev pub row_at : Columns → ℕ → Node
row_at t i = record {
  argument = get_or t.indexes i 0;
  parent = get_or t.parents i 0;
  kind = get_or t.kinds i 0;
  mark = get_or t.marks i 0;
}

-- the first n rows
abbrev pub rows : ℕ → Columns → List Node
rows n t = map (row_at t) (upto 0 n)
