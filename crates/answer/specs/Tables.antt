-- What an answer leaves in the lent tables (document 01, "Answers").
use Rattle.std.specs.Prelude.{List, ◌++◌, map, length, drop, replicate}
use Rattle.tree.specs.Entries.{Entry}
use Rattle.answer.specs.declared.Answer.{Answer}
use Rattle.answer.specs.declared.Answer.TheVariants.{Yes, No, Undecided, Unknown, Unfinished}

-- a table that begins with a list; "Entries past those named keep their contents."
abbrev pub front : {A : Type 0} → List A → List A → List A
front l table = l ++ drop (length l) table

-- a node table, or one column of it: "The first N entries hold the forest."; "The first budget entries are zeroed.";
-- "Node table untouched."
abbrev pub nodes_after : {A : Type 0} → Answer → List A → A → List A → List A
nodes_after (Yes n) forest empty table = front forest table
nodes_after (No n) forest empty table = front forest table
nodes_after (Undecided n) forest empty table = front forest table
nodes_after Unknown forest empty table = table
nodes_after (Unfinished n) forest empty table = front (replicate n empty) table

abbrev pub zeroed : Entry
zeroed = record { argument = 0; parent = 0; kind = 0; mark = 0 }

-- one field of the entries in a table of its own
abbrev pub column_after : {A : Type 0} → (Entry → A) → Answer → List Entry → List A → List A
column_after field a forest table = nodes_after a (map field forest) (field zeroed) table
