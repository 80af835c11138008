-- What is left from pair j on decides the whole and completes the masks.
use Prim.Native.Nat.{◌-◌}
use lib.ListN.{length}
use Rattle.image.proofs.Beaten.{Pairing}
use Rattle.image.proofs.pairs.read.Given as goal

abbrev pub invariant-loop-first : goal.invariant-loop-first
invariant-loop-first l = Pairing l.image l.cursor l.least l.place l.table

abbrev pub decreases-loop-first : goal.decreases-loop-first
decreases-loop-first l = length l.pairs - l.cursor.at
