-- `arguments_for` meets its contract, a law for each answer.
use Rattle.collecting.proofs.Told.{word_is, word_empty}
use Rattle.collecting.proofs.arguments_for.Goals as goal

pub returns-then-x-eq0 : goal.returns-then-x-eq0
returns-then-x-eq0 c = let a = c.args in
    word_empty a.rows.now a.literal a.w c.minimal-x.result c.requires.laid.0 c.requires.laid.1 c.requires.literal_value c.minimal-x.ensures c.if-x-eq0.true

pub returns : goal.returns
returns c = let a = c.args in
    word_is a.rows.now a.literal a.w c.minimal-x.result c.clashing.result c.requires.laid.0 c.requires.laid.1 c.requires.literal_value c.minimal-x.ensures c.clashing.ensures
