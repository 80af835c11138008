-- Those limits of document 01 that proofs use: its causes 1 to 13 enforce them on an image, and more.
use Rattle.std.specs.Prelude.{◌≡◌, ℕ, ◌*◌, ◌^◌, ◌<◌, ◌≤◌, length}
use mathlib.Core.List.{List, Memᴰ}
use Rattle.program.specs.Program.{Rule, Program, defeasible, defeasibles, rule_at}

-- "a rule that is absent or not defeasible": rule i is neither
pub record DefeasibleAt (rules : List Rule) (i : ℕ) : Type 0 where
  pub there : i < length rules
  pub kind_is : (rule_at rules i).kind ≡ defeasible

-- "naming a rule that is absent or not defeasible, or one rule twice": the pair of a and b does neither
pub record PairOf (rules : List Rule) (a b : ℕ) : Type 0 where
  pub first : DefeasibleAt rules a
  pub second : DefeasibleAt rules b
  pub distinct : ¬ (a ≡ b)

pub record Limits (p : Program) : Type 0 where
  -- "atom count A, 0 to 64"
  pub atoms_limit : p.atoms ≤ 64
  -- "rule count R, 0 to 96"
  pub rules_limit : length p.rules ≤ 96
  -- "At most 16 rules are defeasible"
  pub defeasibles_limit : defeasibles p.rules ≤ 16
  -- "A literal not below 2 × A" is refused
  pub heads_below : (r : Rule) → Memᴰ r p.rules → r.head < 2 * p.atoms
  pub bodies_below : (r : Rule) → Memᴰ r p.rules → (l : ℕ) → Memᴰ l r.body → l < 2 * p.atoms
  -- "A pair naming a rule that is absent or not defeasible, or one rule twice" is refused
  pub pairs_name : (a b : ℕ) → Memᴰ (a, b) p.pairs → PairOf p.rules a b

-- "A set of defeasible rules is its mask, the sum of 2^bit": m is the mask of some of p's
abbrev pub Mask : Program → ℕ → Type 0
Mask p m = m < 2 ^ defeasibles p.rules
