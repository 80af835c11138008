-- `masks::clear` meets its contract.
use mathlib.Core.Path.{ap}
use lib.Bits.{and_le_l}
use Rattle.literals.specs.Sets.{minus}
use Rattle.literals.proofs.Words.{shifted_one}
use Rattle.literals.proofs.masks.clear.Goals as goal

pub overflow_sub-result : goal.overflow_sub-result
overflow_sub-result c = and_le_l _ _

pub returns : goal.returns
returns c = ap (minus c.args.mask) (shifted_one c.args.bit c.requires)
