use mathlib.Core.Path.{◌∙◌, ap}
use Rattle.literals.specs.Sets.{union}
use Rattle.literals.specs.Inside.Words.{set_of}
use Rattle.rows.proofs.Firings.{rounds_step, rounds_whole}
use native.Mathlib.Omega.{arith}
use Rattle.rows.proofs.round.Goals as goal

pub loop-i-preserved : goal.loop-i-preserved
loop-i-preserved c = rounds_step (set_of c.union-seen.result) c.head.result c.has.result
    (c.union-seen.ensures ∙ ap (union (set_of c.loop-i.seen)) c.body.ensures) c.head.ensures c.has.ensures c.loop-i.invariant c.fire.ensures

pub returns : goal.returns
returns c = let count = c.rule_count-rules.ensures in
    (set_of c.loop-i.seen, rounds_whole c.args.table.now c.loop-i.i (omega arith) c.loop-i.invariant)
