-- `number_at` meets its contract: the two bytes, joined.
use Rattle.layout.proofs.Cursors.{number_joined}
use Rattle.layout.proofs.cursor.number_at.Goals as goal

pub returns : goal.returns
returns c = number_joined c.args.image.now c.args.at _ _ c.from.ensures c.from-2.ensures
