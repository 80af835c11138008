-- `occurs` meets its contract. The invariant: the atom stands in some rule exactly if it stands in one of those from here on.
use mathlib.Core.Path.{◌≡◌}
use Rattle.program.specs.Program.{Program}
use Rattle.program.specs.Inside.Table.{Holds}
use Rattle.answer.specs.Answer.{occurs}
use Rattle.decision.proofs.Occurrences.{occurs_from}
use Rattle.decision.proofs.occurrence.occurs.Given as goal

abbrev pub invariant-loop-i : goal.invariant-loop-i
invariant-loop-i l = (p : Program) → Holds p l.table → occurs_from p l.literal l.i ≡ occurs p l.literal
