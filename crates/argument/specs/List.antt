-- The argument list, computed.
use Rattle.std.specs.Prelude.{Bool, true, not, ◌&&◌, List, [], ◌++◌, ℕ, zero, suc, ◌+◌, ◌*◌, ◌^◌}
use Rattle.lists.specs.Lists.{keep}
use Rattle.literals.specs.Sets.{has, minus, clash_below}
use Rattle.program.specs.Program.{Rule, Π_mask, chosen_from, defeasibles, defeasibles_from}
use Rattle.derivation.specs.Closure.{closure, derives, contradictory}

-- Π with m without the rule that has bit b derives h
abbrev pub derives_without : List Rule → ℕ → ℕ → ℕ → Bool
derives_without rules m b h = derives (Π_mask (minus m (2 ^ b)) rules) h

-- no rule of m that has one of the first n bits can be left out
unfoldable pub none_without : List Rule → ℕ → ℕ → ℕ → Bool
unfolding has closure chosen_from
none_without rules m h zero = true
none_without rules m h (suc b) = not (has m b && derives_without rules m b h) && none_without rules m h b

-- "Π with M derives h; Π with M is not contradictory; no proper subset of M, with Π, derives h"
unfoldable pub is_argument : List Rule → ℕ → ℕ → Bool
unfolding has closure chosen_from clash_below defeasibles_from none_without
is_argument rules m h =
    derives (Π_mask m rules) h && (not (contradictory (Π_mask m rules)) && none_without rules m h (defeasibles rules))

-- base + h, for those of the n literals h from k on that pass a test
unfoldable pub picked : (ℕ → Bool) → ℕ → ℕ → ℕ → List ℕ
picked test base k zero = []
picked test base k (suc n) = keep (test k) (base + k) (picked test base (suc k) n)

-- m × 128 + h, for the n masks m from k on and for each the literals h that pass
unfoldable pub list_by : (ℕ → ℕ → Bool) → ℕ → ℕ → List ℕ
unfolding picked
list_by test k zero = []
list_by test k (suc n) = picked (test k) (k * 128) 0 128 ++ list_by test (suc k) n

-- "The argument list holds each argument once, as M × 128 + h, ascending"
unfoldable pub argument_list : List Rule → List ℕ
unfolding list_by is_argument defeasibles_from
argument_list rules = list_by (is_argument rules) 0 (2 ^ defeasibles rules)
