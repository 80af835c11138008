use Rattle.plans.proofs.Bearings.{bears_then, bears_whole}
use native.Mathlib.Omega.{arith}
use Rattle.plans.proofs.round.Goals as goal

pub loop-i-preserved : goal.loop-i-preserved
loop-i-preserved c = bears_then c.loop-i.invariant c.bear-grown.ensures

pub returns : goal.returns
returns c = let count = c.rule_count-rules.ensures in
    bears_whole c.args.table.now c.loop-i.i (omega arith) c.loop-i.invariant
