-- What a mask derives, as a set.
use Rattle.std.specs.Prelude.{List, ℕ}
use Rattle.program.specs.Program.{Rule, Π_mask}
use Rattle.derivation.specs.Closure.{closure}

-- what Π with the mask m derives
abbrev pub mask_closure : List Rule → ℕ → ℕ
mask_closure rules m = closure (Π_mask m rules) 0
