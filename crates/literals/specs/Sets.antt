-- Sets of small numbers, each held as one number: the sum of 2 ^ k over its members k. A set of literals and a mask of
-- defeasible rules are both such sets. Written with division and remainder, so that they compute.
use Rattle.std.specs.Prelude.{◌≡◌, Bool, true, false, not, ◌&&◌, ◌||◌, List, [], ◌∷◌, Option, MatchOption, ℕ, zero, suc, ◌+◌, ◌-◌, ◌*◌, ◌/◌, ◌%◌, ◌^◌, ◌<◌, eqb}
use Rattle.std.specs.Int.Bits.{bit_and, bit_or}
use Rattle.lists.specs.Lists.{choose}

-- digit k of s: 1 for a member, 0 otherwise
unfoldable pub bit : ℕ → ℕ → ℕ
bit s k = s / 2 ^ k % 2

-- k is a member of s
unfoldable pub has : ℕ → ℕ → Bool
unfolding bit
has s k = eqb (bit s k) 1

-- s with k
unfoldable pub insert : ℕ → ℕ → ℕ
unfolding has
insert s k = choose (has s k) s (s + 2 ^ k)

-- s with each number of a list
unfoldable pub insert_all : ℕ → List ℕ → ℕ
unfolding insert
insert_all s [] = s
insert_all s (k ∷ l) = insert_all (insert s k) l

-- each number of a list is a member
unfoldable pub has_all : ℕ → List ℕ → Bool
unfolding has
has_all s [] = true
has_all s (k ∷ l) = has s k && has_all s l

-- the members of either
abbrev pub union : ℕ → ℕ → ℕ
union a b = bit_or a b

-- the members of a that are not in b
abbrev pub minus : ℕ → ℕ → ℕ
minus a b = a - bit_and a b

-- each member of a is one of b
abbrev pub within : ℕ → ℕ → Bool
within a b = eqb (bit_and a b) a

-- some number is a member of both
abbrev pub meets : ℕ → ℕ → Bool
meets a b = not (eqb (bit_and a b) 0)

-- k is the lowest member of a set of numbers below n
pub record LowestBelow (n s k : ℕ) : Type 0 where
  pub member : has s k ≡ true
  pub least : (j : ℕ) → j < k → has s j ≡ false
  pub small : k < n

-- of a word
abbrev pub Lowest : ℕ → ℕ → Type 0
Lowest = LowestBelow 64

-- one step over the members of a set, ascending: the lowest is taken out, and where none is left there is none
abbrev pub Taken : ℕ → ℕ → Option ℕ → ℕ → Type 0
Taken n s r t = MatchOption r ((s ≡ 0) × (t ≡ 0)) (λ k. LowestBelow n s k × (t ≡ minus s (2 ^ k)))

-- "derives some literal and its complement": 2a and 2a + 1 are both members, for some a below n
unfoldable pub clash_below : ℕ → ℕ → Bool
unfolding has
clash_below zero s = false
clash_below (suc n) s = (has s (2 * n) && has s (2 * n + 1)) || clash_below n s

-- the same for some of the 64 atoms
abbrev pub clash : ℕ → Bool
clash s = clash_below 64 s
