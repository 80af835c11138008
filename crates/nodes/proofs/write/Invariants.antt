-- `write` meets its contract: the rows before i stand in front of the table.
use mathlib.Core.Path.{◌≡◌}
use Rattle.answer.specs.Tables.{front}
use Rattle.tree.specs.Inside.Tables.{held}
use Rattle.nodes.specs.Inside.Rows.{rows}
use Rattle.nodes.proofs.write.Given as goal

abbrev pub invariant-loop-i : goal.invariant-loop-i
invariant-loop-i l = l.nodes ≡ front (rows l.i (held l.columns)) l.fn.nodes
