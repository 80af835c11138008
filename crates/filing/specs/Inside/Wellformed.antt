-- Programs whose rules and pairs can be told apart by their numbers.
use mathlib.Core.List.{Memᴰ}
use Rattle.std.specs.Prelude.{ℕ, ◌<◌, length}
use Rattle.lists.specs.Lists.{Distinct}
use Rattle.program.specs.Program.{Program}

-- what the causes 10, 12 and 13 leave: each rule once, each pair once, and pairs of rules that are there
pub record Wellformed (p : Program) : Type 0 where
  pub rules_once : Distinct p.rules
  pub pairs_once : Distinct p.pairs
  pub named : (a b : ℕ) → Memᴰ (a, b) p.pairs → (a < length p.rules) × (b < length p.rules)
