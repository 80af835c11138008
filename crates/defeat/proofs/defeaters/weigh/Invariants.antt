-- `defeaters::weigh` meets its contract: what the arguments that are left say, with what was found before them, is what
-- the whole list says.
use mathlib.Core.Path.{◌≡◌, sym, ap, ◌∙◌}
use mathlib.Core.Bool.{Bool, true, false}
use mathlib.Core.List.{List, ◌∷◌}
use Prim.Native.Nat.{ℕ, ◌+◌, ◌<◌, ◌≤◌}
use native.Mathlib.Omega.{arith}
use lib.ListN.{length, get_or, drop, drop_of_length-le}
use Rattle.literals.specs.Inside.Words.{set_of}
use Rattle.program.specs.Program.{Program}
use Rattle.program.specs.Limits.{Limits, Mask}
use Rattle.program.specs.Inside.Table.{Holds}
use Rattle.argument.specs.Argument.{mask_of}
use Rattle.argument.specs.List.{argument_list}
use Rattle.preference.specs.Preference.{preferred_test}
use Rattle.defeat.specs.Inside.Kinds.{number_of_kind}
use Rattle.defeat.specs.Inside.Steps.{attacked_by, kind_among}
use Rattle.defeat.proofs.Weighing.{kind_left, left_start, left_none, left_skip, left_proper, left_under, left_neither}
use Rattle.defeat.proofs.Attacks.{listed_mask_lem, entry_listed, entry_first, entry_past}
use Rattle.defeat.proofs.defeaters.weigh.Given as goal

-- the tables at hand, the excluded literals s, and the masks x and y
module _ (table l : List ℕ) (s x y : ℕ) where
  abbrev pub attacks : ℕ → Bool
  attacks = attacked_by s y

  -- x is preferred over z, and z over x
  abbrev pub over : Program → ℕ → Bool
  over p z = preferred_test p x (mask_of z)

  abbrev pub under : Program → ℕ → Bool
  under p z = preferred_test p (mask_of z) x

  abbrev pub whole : Program → ℕ
  whole p = kind_among attacks (over p) (under p) (argument_list p.rules)

  -- what is left of the list, from i on
  abbrev pub rest : Program → ℕ → List ℕ
  rest p i = drop i (argument_list p.rules)

  -- of every program that the tables are made of
  abbrev pub Each : (Program → Type 0) → Type 0
  Each P = (p : Program) → Limits p → Holds p table → Mask p x → l ≡ argument_list p.rules → P p

  abbrev pub Left : ℕ → ℕ → Type 0
  Left found i = Each (λ p. kind_left attacks (over p) (under p) found (rest p i) ≡ whole p)

  abbrev pub Answers : ℕ → Type 0
  Answers r = Each (λ p. r ≡ whole p)

  pub left_all : Left 0 0
  left_all p limits holds below listed = left_start attacks (over p) (under p) (argument_list p.rules)

  module _ (found i : ℕ) (same : Left found i) where
    pub left_end : length l ≤ i → Answers found
    left_end out p limits holds below listed =
        let none = drop_of_length-le (argument_list p.rules) {i = i} (omega (arith, ap length listed)) in
        ap (kind_left attacks (over p) (under p) found) (sym none) ∙ same p limits holds below listed

    -- a turn at the argument z with the mask m
    module _ (inside : i < length l) (m : ℕ) (is : m ≡ mask_of (get_or l i 0)) where
      abbrev pub z : ℕ
      z = get_or l i 0

      pub turn_past : y < m → Answers found
      turn_past h p limits holds below listed =
          sym (left_none attacks (over p) (under p) found (rest p i)
          (entry_past p.rules l i listed inside s y (omega arith)))
          ∙ same p limits holds below listed

      -- the list begins with z
      pub first : Each (λ p. kind_left attacks (over p) (under p) found (z ∷ rest p (i + 1)) ≡ whole p)
      first p limits holds below listed =
          ap (kind_left attacks (over p) (under p) found)
          (sym (entry_first p.rules l i listed inside))
          ∙ same p limits holds below listed

      pub turn_skip : attacks z ≡ false → Left found (i + 1)
      turn_skip a p limits holds below listed =
          sym (left_skip attacks (over p) (under p) found z (rest p (i + 1)) a) ∙ first p limits holds below listed

      -- it is attacked, and o says whether x is preferred over it
      module _ (a : attacks z ≡ true) (o : Bool)
          (eo : (p : Program) → Limits p → Holds p table → Mask p x → Mask p m → o ≡ preferred_test p x m) where
        pub its_mask : Each (λ p. Mask p m)
        its_mask p limits holds below listed =
            rw is (listed_mask_lem p limits z (entry_listed p.rules l i listed inside))

        pub is_over : {v : Bool} → o ≡ v → Each (λ p. over p z ≡ v)
        is_over e p limits holds below listed =
            ap (preferred_test p x) (sym is)
            ∙ sym (eo p limits holds below (its_mask p limits holds below listed)) ∙ e

        pub turn_proper : o ≡ true → Answers 1
        turn_proper e p limits holds below listed =
            sym (left_proper attacks (over p) (under p) found z (rest p (i + 1)) a (is_over e p limits holds below listed))
            ∙ first p limits holds below listed

        -- x is not, and v says whether z is preferred over x
        module _ (e : o ≡ false) (v : Bool)
            (ev : (p : Program) → Limits p → Holds p table → Mask p m → Mask p x → v ≡ preferred_test p m x) where
          pub is_under : {w : Bool} → v ≡ w → Each (λ p. under p z ≡ w)
          is_under q p limits holds below listed =
              ap (λ (n : ℕ). preferred_test p n x) (sym is)
              ∙ sym (ev p limits holds (its_mask p limits holds below listed) below) ∙ q

          pub turn_under : v ≡ true → Left found (i + 1)
          turn_under q p limits holds below listed =
              sym (left_under attacks (over p) (under p) found z (rest p (i + 1)) a
              (is_over e p limits holds below listed) (is_under q p limits holds below listed))
              ∙ first p limits holds below listed

          pub turn_neither : v ≡ false → Left 2 (i + 1)
          turn_neither q p limits holds below listed =
              sym (left_neither attacks (over p) (under p) found z (rest p (i + 1)) a
              (is_over e p limits holds below listed) (is_under q p limits holds below listed))
              ∙ first p limits holds below listed

abbrev pub invariant-loop-z : goal.invariant-loop-z
invariant-loop-z l = Left l.table l.arguments (set_of l.excluded) l.x l.y (number_of_kind l.found) l.z-index
