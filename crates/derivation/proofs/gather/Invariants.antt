-- `derivation::gather` meets its contract. The invariant: the rounds to come are the last ones of those from the given
-- literals. The measure is what is not yet derived.
use Prim.Native.Nat.{◌-◌, ◌^◌, ◌<◌}
use lib.Count.{ones}
use Rattle.literals.specs.Inside.Words.{set_of}
use Rattle.program.specs.Program.{Π_mask}
use Rattle.derivation.proofs.Turns.{Rounding}
use Rattle.derivation.proofs.gather.Given as goal

abbrev pub invariant-loop-t : goal.invariant-loop-t
invariant-loop-t l = record {
  rounding : Rounding (Π_mask l.mask) l.table (set_of l.initial.s) (set_of l.s) l.rounds;
  word : l.s.lo < 2 ^ 64;
}

abbrev pub decreases-loop-t : goal.decreases-loop-t
decreases-loop-t l = 128 - ones (set_of l.s)
