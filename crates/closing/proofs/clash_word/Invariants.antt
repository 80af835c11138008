-- `clash_word` meets its contract: the atoms of the low word, and then those of the high one.
use Prim.Native.Nat.{◌^◌, ◌<◌}
use Rattle.literals.specs.Inside.Words.{joined, set_of}
use Rattle.closing.proofs.Clashings.{Clashing}
use Rattle.closing.proofs.clash_word.Given as goal

abbrev pub invariant-loop-low : goal.invariant-loop-low
invariant-loop-low l = (l.low-iterator.left < 2 ^ 64) × Clashing l.rows (set_of l.pairs) l.w (joined l.pairs.hi l.low-iterator.left) l.x

abbrev pub invariant-loop-high : goal.invariant-loop-high
invariant-loop-high l = Clashing l.rows (set_of l.fn.pairs) l.w (joined l.high-iterator.left 0) l.x
