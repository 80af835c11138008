-- The exclusion table: two words for each of the 128 literals, and what they say. Made once in a call, for those literals
-- that have an argument with a rule in its mask: no other argument attacks or is attacked.
use Rattle.std.specs.Prelude.{◌≡◌, true, ℕ, ◌+◌, ◌*◌, ◌≤◌, get_or}
use mathlib.Core.List.{List, Memᴰ}
use Rattle.literals.specs.Sets.{has}
use Rattle.literals.specs.Inside.Words.{joined}
use Rattle.program.specs.Program.{Rule}
use Rattle.derivation.specs.Closure.{excludes}
use Rattle.argument.specs.Argument.{literal_of}

-- the row of the literal l
abbrev pub excluded_by : List ℕ → ℕ → ℕ
excluded_by t l = joined (get_or t (2 * l + 1) 0) (get_or t (2 * l) 0)

-- the row of each literal of u has those literals of u that exclude it, and no other
pub record Excluded (rules : List Rule) (u : ℕ) (t : List ℕ) : Type 0 where
  pub exact : (a b : ℕ) → has u a ≡ true → has u b ≡ true → has (excluded_by t a) b ≡ excludes rules a b
  pub only : (a b : ℕ) → has u a ≡ true → has (excluded_by t a) b ≡ true → has u b ≡ true

-- u has the literal of each argument of the list whose mask is not empty
abbrev pub Conclusions : ℕ → List ℕ → Type 0
Conclusions u l = (x : ℕ) → Memᴰ x l → 128 ≤ x → has u (literal_of x) ≡ true
