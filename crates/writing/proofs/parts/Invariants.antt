-- The parts from the k-th number on are left to be written.
use Rattle.lists.proofs.Stores.{Writing}
use Rattle.writing.specs.Image.{together}
use Rattle.writing.specs.Inside.Steps.{parts_by}
use Rattle.writing.proofs.Outputs.{parts_from}
use Rattle.writing.proofs.parts.Given as goal

abbrev pub invariant-loop-number : goal.invariant-loop-number
invariant-loop-number l = Writing l.initial.out l.out l.at l.end (together (parts_by l.image l.order)) (together (parts_from l.image l.order l.number-index))
