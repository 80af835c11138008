-- The two bytes are stored in turn.
use lib.ListN.{length-set}
use Rattle.writing.proofs.Outputs.{written_two}
use native.Mathlib.Omega.{arith}
use Rattle.writing.proofs.number.Goals as goal

pub bounds-out-at-2 : goal.bounds-out-at-2
bounds-out-at-2 c = simp length-set (omega arith)

pub returns : goal.returns
returns c = written_two _ _ _ _
