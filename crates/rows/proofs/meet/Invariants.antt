-- `meet` meets its contract.
use mathlib.Core.Path.{◌≡◌}
use Prim.Native.Nat.{ℕ}
use mathlib.Core.Bool.{true}
use Rattle.literals.specs.Sets.{within}
use Rattle.literals.specs.Inside.Words.{set_of}
use Rattle.rows.specs.Steps.{Met}
use Rattle.rows.specs.Layout.{word_of}
use Rattle.rows.proofs.meet.Given as goal

abbrev pub invariant-loop-literal : goal.invariant-loop-literal
invariant-loop-literal l = ((r : ℕ) → Met (word_of l.keep l.base l.rows l.w) (set_of l.literal-iterator.left) l.x r → Met (word_of l.keep l.base l.rows l.w) (set_of l.fn.literals) l.start r)
    × (within (set_of l.literal-iterator.left) (set_of l.fn.literals) ≡ true)
