-- A node entry as a struct.
use Rattle.tree.specs.Entries.{Entry}
use Rattle.nodes.specs.declared.Node.{Node}

-- "each with: index in the argument list; parent's node number ..; kind ..; mark"
abbrev pub node_of : Entry → Node
node_of e = record { argument = e.argument; parent = e.parent; kind = e.kind; mark = e.mark }
