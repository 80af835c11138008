use Rattle.literals.specs.Inside.Words.{set_of}
use Rattle.excluded.proofs.Crossings.{spread_none, spread_more, spread_all}
use native.Mathlib.Omega.{arith}
use Rattle.excluded.proofs.joint.joint.Goals as goal

pub loop-i-init : goal.loop-i-init
loop-i-init c = spread_none c.args.rules.now c.args.reach.now _

pub loop-i-preserved : goal.loop-i-preserved
loop-i-preserved c = spread_more c.args.rules.now c.args.reach.now c.loop-i.i (set_of c.loop-i.found) (set_of c.spread.result) _ c.union-found.ensures c.loop-i.invariant c.spread.ensures

pub returns : goal.returns
returns c = spread_all c.args.rules.now c.args.reach.now c.loop-i.i (set_of c.loop-i.found) (omega (arith, c.rule_count-i-end.ensures)) c.loop-i.invariant
