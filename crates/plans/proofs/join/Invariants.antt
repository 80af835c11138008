-- `join` meets its contract: what is joined of the literals left is joined of all.
use Prim.Native.Nat.{ℕ}
use Rattle.literals.specs.Inside.Words.{set_of}
use Rattle.plans.specs.Steps.{Joined}
use Rattle.plans.proofs.join.Given as goal

abbrev pub invariant-loop-literal : goal.invariant-loop-literal
invariant-loop-literal l = (r : ℕ) → Joined l.keep (set_of l.literal-iterator.left) l.x r → Joined l.keep (set_of l.fn.literals) l.start r
