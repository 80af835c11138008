use Rattle.excluded.proofs.Concluded.{looked_skip, looked_more, looked_all}
use Rattle.excluded.proofs.conclusions.Goals as goal
use Rattle.excluded.proofs.conclusions.Goals.{then-x-ge128, else-x-ge128}

pub loop-x-preserved : goal.loop-x-preserved
loop-x-preserved c = elim c.if-x-ge128.branch [
  | then-x-ge128 w ↦ rw w.found-is (looked_more _ _ _ c.loop-x.invariant _ _ w.literal_of.ensures.0 w.insert-found.ensures)
  | else-x-ge128 w ↦ rw w.found-is (looked_skip _ _ _ c.loop-x.invariant w.if-x-ge128.false)
]

pub returns : goal.returns
returns c = looked_all _ _ c.loop-x.x-index c.loop-x-test.false c.loop-x.invariant
