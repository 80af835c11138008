-- What is left of the line decides: nothing passed so far has the mask within its own.
use mathlib.Core.Path.{◌≡◌}
use mathlib.Core.Bool.{Bool}
use mathlib.Core.List.{List}
use Prim.Native.Nat.{ℕ}
use Rattle.lists.specs.Lists.{any}
use Rattle.literals.specs.Sets.{within}
use Rattle.argument.specs.Argument.{mask_of}
use Rattle.tree.specs.Inside.Steps.{line_of}
use Rattle.tree.proofs.candidates.used.Given as goal

-- an argument with the mask is a sub-argument of one of the first i
abbrev pub usedTo : List ℕ → ℕ → ℕ → Bool
usedTo line mask i = any (λ x. within mask (mask_of x)) (line_of line i)

abbrev pub invariant-loop-i : goal.invariant-loop-i
invariant-loop-i l = usedTo l.line l.mask l.depth ≡ usedTo l.line l.mask l.i
