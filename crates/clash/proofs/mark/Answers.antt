use mathlib.Core.Path.{◌∙◌}
use native.Mathlib.Omega.{arith}
use Rattle.clash.proofs.Turns.{marking_start, marking_next, marking_end, byte_marks}
use Rattle.clash.proofs.mark.Goals as goal

pub loop-i-init : goal.loop-i-init
loop-i-init c = marking_start _ _ _

pub loop-i-preserved : goal.loop-i-preserved
loop-i-preserved c = marking_next _ _ _ _ c.loop-i.i _ _ c.loop-i-test.true c.loop-i.invariant c.has.ensures (c.from.ensures ∙ byte_marks c.has.result)

pub returns : goal.returns
returns c = marking_end _ _ _ _ c.loop-i.i (omega arith) c.requires.1 c.loop-i.invariant
