-- `write` meets its contract: the next row is stored behind those that stand there.
use native.Mathlib.Omega.{arith}
use Rattle.tree.specs.Inside.Tables.{held}
use Rattle.nodes.proofs.Rows.{front_rows_next}
use Rattle.nodes.proofs.write.Goals as goal

pub loop-i-preserved : goal.loop-i-preserved
loop-i-preserved c =
    rw (c.loop-i.invariant, c.row.ensures) (front_rows_next (held c.args.columns.now) c.args.nodes.now c.loop-i.i (let r = c.requires.0 in omega (arith, c.loop-i-test.true)))
