-- `lower` meets its contract.
use lib.Pow.{pow_mono}
use Rattle.literals.proofs.Words.{shifted_one}
use Rattle.minima.proofs.Places.{lowers}
use native.Mathlib.Omega.{arith}
use Rattle.minima.proofs.lower.Goals as goal

pub overflow_shl-result-2 : goal.overflow_shl-result-2
overflow_shl-result-2 c = omega (arith, shifted_one c.args.bit (omega arith), pow_mono {i = c.args.bit} {j = 5} (omega arith))

pub returns : goal.returns
returns c = rw (shifted_one c.args.bit (omega arith)) (lowers c.args.x c.args.bit c.requires)
