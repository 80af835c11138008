-- `strict::bearing` meets its contract: the rules before i are looked at.
use Rattle.literals.specs.Inside.Words.{set_of}
use Rattle.excluded.specs.Inside.Strict.{Open}
use Rattle.excluded.proofs.strict.bearing.Given as goal

abbrev pub invariant-loop-i : goal.invariant-loop-i
invariant-loop-i l = Open l.table (set_of l.derived) l.i (set_of l.rules)
