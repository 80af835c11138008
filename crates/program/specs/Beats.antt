-- Which rule beats which (document 02, C-11).
use mathlib.Core.List.{Memᴰ}
use Rattle.std.specs.Prelude.{ℕ}
use Rattle.program.specs.Program.{Program}

-- "rule a beats rule b when a chain of one or more listed pairs leads from a to b. Rules on a closed chain beat each other and
-- themselves."
pub data Beats (p : Program) : ℕ → ℕ → Type 0 where
  listed : {a b : ℕ} → Memᴰ (a, b) p.pairs → Beats p a b
  through : {a c b : ℕ} → Memᴰ (a, c) p.pairs → Beats p c b → Beats p a b
