-- `low_word` meets its contract: the need has one of the six lowest bits, or none.
use Prim.Native.Nat.{◌%◌}
use Rattle.literals.proofs.Members.{has_bound}
use Rattle.rows.proofs.Patterns.{chooses_place, chooses_all}
use native.Mathlib.Omega.{arith}
use Rattle.rows.proofs.low_word.Goals as goal

pub returns-then-low-eq0 : goal.returns-then-low-eq0
returns-then-low-eq0 c = chooses_all _ c.if-low-eq0.true

pub bounds-lowest : goal.bounds-lowest
bounds-lowest c = has_bound (c.args.need % 64) 6 _ (omega arith) c.lowest.ensures.member

pub returns : goal.returns
returns c = chooses_place _ c.lowest.result c.if-low-eq0.false c.lowest.ensures.member
