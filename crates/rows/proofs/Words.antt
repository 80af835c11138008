-- Words that grow.
use mathlib.Core.Path.{◌≡◌}
use mathlib.Core.List.{List, [], ◌∷◌}
use Prim.Native.Nat.{ℕ, zero, suc, ◌^◌, ◌<◌}
use native.Mathlib.Decide.{dec_lt}
use native.Mathlib.Omega.{arith}
use lib.Bits.{or_add_and, and_le_r}
use lib.ListN.{length, get_or, set}
use Rattle.literals.specs.Sets.{union}
use Rattle.rows.specs.Steps.{slack}

-- a greater word leaves less
pub slack_set : (c : List ℕ) (i v : ℕ) → i < length c → get_or c i 0 < v → v < 2 ^ 64 → slack (set c i v) < slack c
unfolding slack
slack_set [] i v h l f = absurd (omega arith)
slack_set (x ∷ c) zero v h l f = omega arith
slack_set (x ∷ c) (suc i) v h l f = omega (arith, slack_set c i v (omega arith) l f)

pub union_more : (a b : ℕ) → (union a b ≡ a → ⊥) → a < union a b
union_more a b n = go (dec_lt a (union a b))
  where
    go : Dec (a < union a b) → a < union a b
    go (yes h) = h
    go (no h) = absurd (n (omega (arith, or_add_and a b, and_le_r a b)))
