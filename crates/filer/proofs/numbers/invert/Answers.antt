use mathlib.Core.Bool.{false≢true}
use Rattle.filer.proofs.Renumberings.{placing_far, placing_again, placing_done}
use native.Mathlib.Omega.{arith}
use Rattle.filer.proofs.numbers.invert.Goals as goal

pub returns-then-number-numbers : goal.returns-then-number-numbers
returns-then-number-numbers c = (placing_far _ c.requires.1 c.loop-i.i _ c.loop-i-test.true c.from-number.ensures c.if-number-numbers.true, λ e. absurd (false≢true e))

pub returns-then-places-number : goal.returns-then-places-number
returns-then-places-number c = (placing_again _ c.requires.1 _ _ c.loop-i.i _ c.loop-i-test.true c.from-number.ensures (omega (arith, c.if-number-numbers.false)) c.if-places-number.true c.loop-i.invariant, λ e. absurd (false≢true e))

pub returns : goal.returns
returns c = placing_done _ c.requires.1 _ _ c.loop-i.i (omega arith) c.loop-i-test.false c.loop-i.invariant
