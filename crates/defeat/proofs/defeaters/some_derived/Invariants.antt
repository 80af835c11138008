-- `defeaters::some_derived` meets its contract: one literal at a time.
use mathlib.Core.Bool.{Bool}
use Rattle.defeat.specs.Inside.Steps.{SomeDerived}
use Rattle.defeat.proofs.defeaters.some_derived.Given as goal

abbrev pub invariant-loop-left : goal.invariant-loop-left
invariant-loop-left l = (r : Bool) → SomeDerived l.rows l.left l.first l.mask r → SomeDerived l.rows l.word l.first l.mask r

abbrev pub decreases-loop-left : goal.decreases-loop-left
decreases-loop-left l = l.left
