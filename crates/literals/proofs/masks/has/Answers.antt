-- `masks::has` meets its contract.
use mathlib.Core.Path.{refl}
use Rattle.literals.specs.Sets.{bit, has}
use Rattle.literals.proofs.masks.has.Goals as goal

pub returns : goal.returns
unfolding has bit
returns c = refl
