-- `chain::hand_on` meets its contract: bit k has handed on to the rows before i.
use Rattle.program.specs.Inside.Filling.{HandedOn}
use Rattle.program.proofs.chain.hand_on.Given as goal

abbrev pub invariant-loop-i : goal.invariant-loop-i
invariant-loop-i l = HandedOn l.k l.i l.initial.table l.table
