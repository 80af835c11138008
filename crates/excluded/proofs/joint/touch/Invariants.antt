-- `joint::touch` meets its contract.
use Rattle.literals.specs.Inside.Words.{set_of}
use Rattle.excluded.proofs.Crossings.{Touching}
use Rattle.excluded.proofs.joint.touch.Given as goal

abbrev pub invariant-loop-literal : goal.invariant-loop-literal
invariant-loop-literal l = Touching l.reach (set_of l.fn.s) (set_of l.literal-iterator.left) (set_of l.found)
