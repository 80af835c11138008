-- One number after the other.
use mathlib.Core.Path.{refl}
use Rattle.lists.proofs.Stores.{written_append}
use Rattle.writing.proofs.entry.Goals as goal

pub returns : goal.returns
returns c = written_append _ _ _ _ _ _ _ _ _ refl c.number-next.ensures c.number.ensures
