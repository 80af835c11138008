use Rattle.rows.proofs.Filled.{grown_more, round_fills}
use Rattle.rows.proofs.fill.Goals as goal

pub loop-preserved : goal.loop-preserved
loop-preserved c = grown_more c.loop.invariant c.round.ensures.1

pub returns-clause-rows : goal.returns-clause-rows
returns-clause-rows c = round_fills c.requires.bearing c.loop.invariant c.round.ensures.1 c.loop-test.false
