-- Attack and defeat between the arguments of a program, at any preference between masks: as published, and as tests that
-- evaluate. An argument is its entry in the argument list, M × 128 + h.
use Rattle.std.specs.Prelude.{Bool, not, List, ◌∷◌, ℕ}
use Rattle.lists.specs.Lists.{any}
use Rattle.literals.specs.Sets.{has, within}
use Rattle.program.specs.Program.{Rule, Program, fact, Π_with, Π}
use Rattle.derivation.specs.Derivation.{Contradictory}
use Rattle.derivation.specs.Closure.{contradictory, excludes}
use Rattle.argument.specs.Argument.{Argument, SubArgument, mask_of, literal_of}
use Rattle.argument.specs.List.{argument_list}
use Rattle.defeat.specs.Frame.{Frame}
use Rattle.defeat.specs.Tests.{Tests}

-- "Π with all masks": bit b is in the mask of some of the arguments
abbrev pub in_some : List ℕ → ℕ → Bool
in_some l b = any (λ x. has (mask_of x) b) l

abbrev pub Π_all : List ℕ → List Rule → List Rule
Π_all l rules = Π_with (in_some l) rules

-- "Two literals exclude each other if Π with both added as facts is contradictory."
abbrev pub Exclude : List Rule → ℕ → ℕ → Type 0
Exclude rules a b = Contradictory (fact a ∷ fact b ∷ Π rules)

module _ (p : Program) where
  abbrev pub frame_of : (ℕ → ℕ → Type 0) → Frame ℕ
  frame_of Preferred = record {
    -- "An argument is a mask M and a literal h such that .."
    Argument = λ x. Argument p.rules (mask_of x) (literal_of x);
    -- "A sub-argument of (M, h) is any argument whose mask is a subset of M, M itself included."
    SubArgument = SubArgument p.rules;
    -- "if the literals of X and Z exclude each other"
    Excludes = λ x z. Exclude p.rules (literal_of x) (literal_of z);
    -- "X is preferred over Z if .."
    Preferred = λ x z. Preferred (mask_of x) (mask_of z);
    -- "Π with all masks at even positions .. isn't contradictory, likewise for odd positions"
    Concordant = λ l. ¬ Contradictory (Π_all l p.rules);
  }

  unfoldable pub tests_of : (ℕ → ℕ → Bool) → Tests ℕ
  tests_of preferred = record {
    arguments = argument_list p.rules;
    sub = λ z y. within (mask_of z) (mask_of y);
    excludes = λ x z. excludes p.rules (literal_of x) (literal_of z);
    preferred = λ x z. preferred (mask_of x) (mask_of z);
    concordant = λ l. not (contradictory (Π_all l p.rules));
  }
