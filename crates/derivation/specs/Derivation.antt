-- Derivation (document 01, "Derivation and arguments"), of any list of rules: Π with a mask m is `Π_mask m rules`, and Π
-- with two facts more is `fact a ∷ fact b ∷ Π rules`.
use mathlib.Core.List.{List, [], ◌∷◌, Memᴰ}
use Rattle.std.specs.Prelude.{ℕ, ◌+◌, ◌-◌, ◌*◌, ◌/◌, ◌%◌, ◌<◌}
use Rattle.program.specs.Program.{Rule}

-- "a finite chain of rules, each with its whole body derived earlier": the heads of the chain, the last one first
pub data Chain (rules : List Rule) : List ℕ → Type 0 where
  start : Chain rules []
  link : {earlier : List ℕ} (r : Rule) → Memᴰ r rules → ((b : ℕ) → Memᴰ b r.body → Memᴰ b earlier)
      → Chain rules earlier → Chain rules (r.head ∷ earlier)

-- "A literal is derived from a set of rules if a finite chain of rules, each with its whole body derived earlier, ends in
-- it."
abbrev pub Derives : List Rule → ℕ → Type 0
Derives rules l = (earlier : List ℕ) × Chain rules (l ∷ earlier)

-- "A literal is .. 2 × atom + sign; .. and the complement differs in the sign only"
abbrev pub complement : ℕ → ℕ
complement l = 2 * (l / 2) + (1 - l % 2)

-- "A set is contradictory if it derives some literal and its complement."
abbrev pub Contradictory : List Rule → Type 0
Contradictory rules = (l : ℕ) × Derives rules l × Derives rules (complement l)

-- the head of each rule is one of the first n literals
abbrev pub HeadsBelow : ℕ → List Rule → Type 0
HeadsBelow n rules = (r : Rule) → Memᴰ r rules → r.head < n
