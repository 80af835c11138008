-- `turn` meets its contract: the literals that are left are left to be put into columns.
use mathlib.Core.List.{List}
use Prim.Native.Nat.{ℕ}
use Rattle.literals.specs.Inside.Words.{set_of}
use Rattle.collecting.specs.Inside.Columns.{Turned, Members}
use Rattle.collecting.proofs.turn.Given as goal

abbrev pub invariant-loop-literal : goal.invariant-loop-literal
invariant-loop-literal l = (d : List ℕ) (y : ℕ) → Turned l.rows l.w (Members (set_of l.literal-iterator.left)) l.columns d l.masks y → Turned l.rows l.w (Members (set_of l.fn.literals)) l.initial.columns d 0 y
