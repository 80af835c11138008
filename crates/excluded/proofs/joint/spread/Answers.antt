-- `joint::spread` meets its contract.
use Rattle.excluded.proofs.Crossings.{spread_law}
use Rattle.excluded.proofs.joint.spread.Goals as goal

pub returns : goal.returns
returns c = spread_law c.args.rules.now _ c.args.i _ _ _ _ _ c.body.ensures c.touch.ensures c.head.ensures c.entry-known.ensures.bits c.minus.ensures
