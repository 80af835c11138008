-- What is left from entry i on decides the whole.
use Rattle.image.proofs.Walk.{Walk}
use Rattle.image.proofs.rules.read.Given as goal

abbrev pub invariant-loop-i : goal.invariant-loop-i
invariant-loop-i l = Walk l.image l.cursor l.ends l.bits l.i l.table l.links
