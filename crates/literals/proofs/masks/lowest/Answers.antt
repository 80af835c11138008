-- `masks::lowest` meets its contract: the zeros below the lowest digit are counted.
use native.Mathlib.Omega.{arith}
use lib.Count.{count_trailing_zeros, trailing_le}
use borrow.Author.Rules.{rules}
use Rattle.literals.proofs.Bits.{bit_trailing, bit_under_trailing, bit_bound}
use Rattle.literals.proofs.Members.{bit_has, bit_lacks}
use Rattle.literals.proofs.masks.lowest.Goals as goal

pub overflow_cast-result : goal.overflow_cast-result
overflow_cast-result c = omega (arith, trailing_le 64 c.args.mask)

pub returns : goal.returns
returns c = let m = c.args.mask in
    let e = bit_trailing 64 m (search rules) c.requires in
    record {
      member = bit_has m (count_trailing_zeros 64 m) e;
      least = λ j l. bit_lacks m j (bit_under_trailing 64 m j l);
      small = bit_bound m 64 (count_trailing_zeros 64 m) (search rules) e;
    }
