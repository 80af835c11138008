use Rattle.literals.specs.Inside.Words.{set_of}
use Rattle.live.proofs.Takings.{taken_none, taken_ends}
use Rattle.live.proofs.live_rules.Goals as goal

pub loop-init : goal.loop-init
loop-init c = taken_none _ _ _ _ _ c.empty.ensures

pub returns : goal.returns
returns c =
    taken_ends c.args.table.now (set_of c.args.derived) (set_of c.args.literals) _ _ _ _ c.empty-taken.ensures c.pass-last.ensures.taken_to c.pass-last.ensures.taken_2
    c.pass-last.array_long _ c.store_counts.ensures
