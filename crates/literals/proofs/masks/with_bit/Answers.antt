-- `masks::with_bit` meets its contract.
use Rattle.literals.proofs.Words.{shifted_insert}
use Rattle.literals.proofs.masks.with_bit.Goals as goal

pub returns : goal.returns
returns c = shifted_insert c.args.mask c.args.bit c.requires
