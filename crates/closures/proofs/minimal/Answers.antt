-- `minimal` meets its contract.
use Rattle.closures.proofs.Readings.{minima_kept}
use Rattle.closures.proofs.minimal.Goals as goal

pub returns : goal.returns
returns c = minima_kept c.args.rows.now c.args.literal c.args.w c.minimal.result c.requires.literal_value c.minimal.ensures
