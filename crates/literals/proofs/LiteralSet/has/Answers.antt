-- `LiteralSet::has` meets its contract: the literal is looked up in the word that has its digit.
use mathlib.Core.Path.{◌∙◌}
use Rattle.literals.proofs.LiteralSet.has.Goals as goal

pub returns : goal.returns
returns c = c.has.ensures ∙ c.word.ensures
