-- What is left from entry i on decides the whole.
use Rattle.layout.specs.Inside.Steps.{Along}
use Rattle.layout.proofs.header.directory_sound.Given as goal

abbrev pub invariant-loop-i : goal.invariant-loop-i
invariant-loop-i l = Along l.image l.cursor l.ends l.i
