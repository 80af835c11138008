-- `place` meets its contract: one row more at a time.
use Rattle.literals.specs.Inside.Words.{set_of}
use Rattle.plans.proofs.Places.{PlacedLeft}
use Rattle.plans.proofs.place.Given as goal

abbrev pub invariant-loop-literal : goal.invariant-loop-literal
invariant-loop-literal l = PlacedLeft l.keep (set_of l.fn.literals) (set_of l.literal-iterator.left) l.start l.initial.base l.base l.n
