-- The trees written so far and those that are left make up the whole.
use Rattle.tree.specs.Inside.Tables.{held, Kept}
use Rattle.tree.proofs.RootTurn.{RootTurn}
use Rattle.forest.proofs.roots.trees.Given as goal

abbrev pub invariant-loop-index : goal.invariant-loop-index
invariant-loop-index l =
    RootTurn l.framework l.literal l.fn.line l.at l.limit (held l.fn.columns) l.line (held l.columns) l.undefeated l.next l.index
    × Kept l.fn.columns l.columns
