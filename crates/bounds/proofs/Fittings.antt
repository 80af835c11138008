-- The limit and the claim, evaluated: the limit is reached, so one less would be wrong; each mask counts once, an empty one not
-- at all; and the answers of one literal by its budgets.
use mathlib.Core.Path.{◌≡◌, refl}
use mathlib.Core.List.{List, [], ◌∷◌, map}
use Prim.Native.Nat.{◌<◌}
use native.Mathlib.Omega.{arith}
use Rattle.literals.specs.Sets.{has, insert, clash_below}
use Rattle.program.specs.Program.{Rule, fact, strict, defeasible, defeasibles_from, chosen_from}
use Rattle.derivation.specs.Closure.{closure}
use Rattle.argument.specs.List.{argument_list}
use Rattle.preference.specs.Reached.{spread, rounds}
use Rattle.preference.specs.Preference.{beats_some}
use Rattle.defeat.specs.Tests.{attacked, proper, neither, blocking, kind}
use Rattle.defeat.specs.OfProgram.{tests_of}
use Rattle.tree.specs.Reply.{unused, joins, reply_kind}
use Rattle.tree.specs.Forest.{replies_to, remaining, replies, forest_of, undefeated_root}
use Rattle.answer.specs.declared.Answer.TheVariants.{Undecided, Unfinished}
use Rattle.answer.specs.Answer.{occurs, arguments_for, forest, forest_entries, warranted, answer_by, answer, tests}
use Rattle.answer.proofs.Fittings.{F}
use Rattle.calls.specs.Calls.{node_of}
use Rattle.bounds.specs.Masks.{once, masks_in, line_limit}
use Rattle.bounds.specs.Lines.{LineIn, first, below, TableLine, at_root, up}

-- a fact, and a strict rule that it makes apply: two arguments, without a mask
abbrev strictly : List Rule
strictly = fact 0 ∷ record { kind = strict; head = 2; body = 0 ∷ [] } ∷ []

-- three arguments besides the fact's, of one mask: one rule concludes 2, and strict ones go on from there
abbrev onwards : List Rule
onwards =
    fact 0 ∷ record { kind = defeasible; head = 2; body = 0 ∷ [] } ∷ record { kind = strict; head = 4; body = 2 ∷ [] }
    ∷ record { kind = strict; head = 6; body = 2 ∷ [] } ∷ []

pub record Evaluated : Type 0 where
  pub listed : map argument_list (strictly ∷ onwards ∷ (F []).rules ∷ []) ≡ (0 ∷ 2 ∷ []) ∷ (0 ∷ 130 ∷ 132 ∷ 134 ∷ []) ∷ (0 ∷ 130 ∷ 259 ∷ []) ∷ []
  pub masks : map (λ rules. masks_in (argument_list rules)) (strictly ∷ onwards ∷ (F []).rules ∷ []) ≡ [] ∷ (1 ∷ []) ∷ (1 ∷ 2 ∷ []) ∷ []
  pub limits : map line_limit ([] ∷ strictly ∷ onwards ∷ (F []).rules ∷ []) ≡ 1 ∷ 1 ∷ 1 ∷ 2 ∷ []
  -- a line of F, where neither rule beats the other: as long as the limit
  pub as_long : LineIn [] (forest (tests (F [])) 2) (259 ∷ 130 ∷ [])
  -- and the same line in its node table, from the second node up
  pub in_table : TableLine (argument_list (F []).rules) (map node_of (forest_entries (tests (F [])) 2)) 1 (259 ∷ 130 ∷ [])
  -- budgets 0 to N + 2
  pub budgets : map (answer (F []) 2) (0 ∷ 1 ∷ 2 ∷ 3 ∷ 4 ∷ 5 ∷ 6 ∷ [])
      ≡ Unfinished 0 ∷ Unfinished 1 ∷ Unfinished 2 ∷ Unfinished 3 ∷ Undecided 4 ∷ Undecided 4 ∷ Undecided 4 ∷ []

pub limits_evaluated : Evaluated
unfolding has insert clash_below defeasibles_from chosen_from closure argument_list once masks_in line_limit
    attacked proper neither blocking kind spread rounds beats_some tests_of unused joins reply_kind replies_to remaining replies
    forest_of undefeated_root occurs arguments_for forest warranted answer_by
limits_evaluated =
    let before : 0 < 1 = omega arith in
    record {
      listed = refl;
      masks = refl;
      limits = refl;
      as_long = below first;
      in_table = up {i = 1} before (at_root refl);
      budgets = refl;
    }
