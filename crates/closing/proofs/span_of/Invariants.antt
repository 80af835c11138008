-- `span_of` meets its contract: one atom at a time.
use Prim.Native.Nat.{ℕ, ◌<◌}
use mathlib.Core.Path.{◌≡◌}
use mathlib.Core.Bool.{true}
use Rattle.literals.specs.Sets.{within}
use Rattle.literals.specs.Inside.Words.{set_of}
use Rattle.closing.proofs.Pairings.{Spanned}
use Rattle.closing.proofs.span_of.Given as goal

abbrev pub invariant-loop-literal : goal.invariant-loop-literal
invariant-loop-literal l = (within (set_of l.literal-iterator.left) (set_of l.fn.pairs) ≡ true) × (l.x < 1024)
    × ((r : ℕ) → Spanned l.keep (set_of l.literal-iterator.left) l.x r → Spanned l.keep (set_of l.fn.pairs) 0 r)
