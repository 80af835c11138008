-- What the private steps of the code compute.
use Rattle.std.specs.Prelude.{◌≡◌, Bool, true, not, ◌&&◌, List, ℕ, ◌+◌}
use Rattle.lists.specs.Lists.{any}
use Rattle.literals.specs.Sets.{has, within}
use Rattle.argument.specs.Argument.{mask_of, literal_of}
use Rattle.closures.specs.Inside.Table.{tells}
use Rattle.excluded.specs.Inside.Exclusions.{excluded_by}
use Rattle.defeat.specs.Tests.{kind_of}

-- some literal first + b, b a member of word, is derived by the mask m
pub record SomeDerived (rows : List ℕ) (word first m : ℕ) (r : Bool) : Type 0 where
  pub says : r ≡ true → (b : ℕ) × (has word b ≡ true) × (tells rows (first + b) m ≡ true)
  pub passes : (b : ℕ) → has word b ≡ true → tells rows (first + b) m ≡ true → r ≡ true

-- by the two tables the literal of x excludes one that the mask of y derives
pub record AttacksBy (exclusions rows : List ℕ) (x y : ℕ) (r : Bool) : Type 0 where
  pub says : r ≡ true → (z : ℕ) × (has (excluded_by exclusions (literal_of x)) z ≡ true) × (tells rows z (mask_of y) ≡ true)
  pub passes : (z : ℕ) → has (excluded_by exclusions (literal_of x)) z ≡ true → tells rows z (mask_of y) ≡ true → r ≡ true

-- z is a sub-argument of one with the mask m, and its literal is in s
abbrev pub attacked_by : ℕ → ℕ → ℕ → Bool
attacked_by s m z = within (mask_of z) m && has s (literal_of z)

-- the kind by those of a list that are attacked: `over` those that the attacker is preferred over, `under` those that are
-- preferred over it
abbrev pub kind_among : (ℕ → Bool) → (ℕ → Bool) → (ℕ → Bool) → List ℕ → ℕ
kind_among attacked over under l =
    kind_of (any (λ z. attacked z && over z) l) (any (λ z. attacked z && (not (over z) && not (under z))) l)
