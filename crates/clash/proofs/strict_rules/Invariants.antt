-- `strict_rules` meets its contract. The invariant: from rule i on the strict rules are still to be put in.
use Rattle.literals.specs.Inside.Words.{set_of}
use Rattle.clash.proofs.Turns.{Sorting}
use Rattle.clash.proofs.strict_rules.Given as goal

abbrev pub invariant-loop-i : goal.invariant-loop-i
invariant-loop-i l = Sorting l.table l.i (set_of l.s)
