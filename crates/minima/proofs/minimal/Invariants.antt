-- `minimal` meets its contract: the words without one bit of the number i are cut away, then the places without one bit.
use mathlib.Core.Path.{◌≡◌}
use mathlib.Core.Bool.{true}
use Prim.Native.Nat.{ℕ, ◌+◌}
use lib.ListN.{get_or}
use Rattle.literals.specs.Sets.{within}
use Rattle.minima.specs.Steps.{Cut}
use Rattle.minima.proofs.minimal.Given as goal

abbrev pub invariant-loop-bit : goal.invariant-loop-bit
invariant-loop-bit l = (within l.bit-iterator.left l.i ≡ true)
    × ((r : ℕ) → Cut (λ j. get_or l.rows (l.at + j) 0) l.i l.bit-iterator.left l.x r → Cut (λ j. get_or l.rows (l.at + j) 0) l.i l.i (get_or l.rows (l.at + l.i) 0) r)
