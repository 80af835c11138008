use Prim.Native.Nat.{◌-◌}
use Rattle.literals.specs.Inside.Words.{set_of}
use Rattle.image.proofs.Repeated.{missed_start, missed_end, missed_found, missed_fewer, missed_next}
use native.Mathlib.Omega.{arith}
use Rattle.image.proofs.rules.repeated.Goals as goal

pub loop-after-init : goal.loop-after-init
loop-after-init c = missed_start c.args.table.now c.args.links.now c.args.i c.requires.0 c.args.rule.defeasible c.args.rule.head (set_of c.args.rule.body) _ c.from-after.ensures c.requires.2

pub returns-then-same : goal.returns-then-same
returns-then-same c = missed_found c.args.table.now c.args.links.now c.args.i c.requires.0 c.args.rule.defeasible c.args.rule.head (set_of c.args.rule.body) (c.loop-after.after - 1) c.loop-after.after (omega arith) c.loop-after.invariant _ c.same.ensures c.if-same.true

pub loop-after-smaller : goal.loop-after-smaller
loop-after-smaller c = omega (arith, c.from-after-in-loop-after.ensures, missed_fewer c.args.table.now c.args.links.now c.args.i c.requires.0 c.args.rule.defeasible c.args.rule.head (set_of c.args.rule.body) (c.loop-after.after - 1) c.loop-after.after (omega arith) c.loop-after.invariant)

pub loop-after-preserved : goal.loop-after-preserved
loop-after-preserved c = missed_next c.args.table.now c.args.links.now c.args.i c.requires.0 c.args.rule.defeasible c.args.rule.head (set_of c.args.rule.body) (c.loop-after.after - 1) c.loop-after.after (omega arith) c.loop-after.invariant _ c.same.ensures _ c.from-after-in-loop-after.ensures c.if-same.false

pub returns : goal.returns
returns c = missed_end c.args.table.now c.args.links.now c.args.i c.requires.0 c.args.rule.defeasible c.args.rule.head (set_of c.args.rule.body) c.loop-after.after (omega arith) c.loop-after.invariant
