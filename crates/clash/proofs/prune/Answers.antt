use native.Mathlib.Omega.{arith}
use Rattle.clash.proofs.Turns.{pruning_start, pruning_next, pruning_end}
use Rattle.clash.proofs.prune.Goals as goal

pub loop-n-init : goal.loop-n-init
loop-n-init c = pruning_start _ _ _ c.rule_count-rules.ensures

pub loop-n-preserved : goal.loop-n-preserved
loop-n-preserved c = pruning_next _ _ c.loop-n.n _ _ c.loop-n-test.true c.loop-n.invariant c.leave_out-kept.ensures

pub returns : goal.returns
returns c p h = pruning_end _ _ c.loop-n.n _ (omega arith) c.loop-n.invariant p h
