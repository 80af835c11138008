-- The three demands: 1 from Refusals.antt, 2 from Answers.antt, and 3 here, of warrant as defined and of the calls.
use mathlib.Core.Path.{◌≡◌, refl}
use mathlib.Core.List.{List}
use mathlib.Core.Logic.{◌↔◌}
use Prim.Native.Nat.{ℕ}
use native.Mathlib.Omega.{arith}
use Rattle.calls.specs.Verdicts.{Accepted}
use Rattle.layout.specs.Reading.{program_in}
use Rattle.defeat.specs.OfProgram.{Exclude}
use Rattle.answer.specs.Forest.{ForestIn}
use Rattle.answer.specs.Answer.{forest, tests}
use Rattle.answer.proofs.Forests.{forest_published}
use Rattle.answer.proofs.Warrant.{warranted_apart}
use Rattle.calls.specs.Calls.{Call, asked, literal_asked, verdict_of, SaysYes}
use Rattle.calls.proofs.Refusals.{checked_heads, query_accepted}
use Rattle.warrant.specs.Claims.{Grants, Demand_3}
pub use Rattle.warrant.proofs.Refusals.{demand_1}
pub use Rattle.warrant.proofs.Answers.{call_answers, demand_2}

module _ (s : List ℕ) where
  -- the forest that is computed for an accepted call
  call_forest : (c : Call) → verdict_of s c ≡ Accepted
      → ForestIn (program_in s) (literal_asked c) (forest (tests (program_in s)) (literal_asked c))
  call_forest c e =
      let a = asked c in
      let fits = query_accepted s a.literal a.budget a.argument_room a.node_room e in
      (forest_published (program_in s) (checked_heads s fits.checked) (literal_asked c) _).1 refl

  pub grants : (c : Call) → SaysYes s c ↔ Grants s c
  grants c = (
    λ e.
        let a = (demand_1.call_accepted s c).1 (omega arith, omega arith) in
        record {
          accepted = a;
          within_budget = λ f g. ((call_answers s c f a g).says_yes_lem.0 e).0;
          warranted = ((call_answers s c _ a (call_forest c a)).says_yes_lem.0 e).1;
        },
    λ g.
        let f = call_forest c g.accepted in
        (call_answers s c _ g.accepted f).says_yes_lem.1 (g.within_budget _ f, g.warranted),
  )

  calls_apart : (c d : Call) → Exclude (program_in s).rules (literal_asked c) (literal_asked d) → SaysYes s c → SaysYes s d → ⊥
  calls_apart c d e u v =
      warranted_apart (literal_asked c) (literal_asked d) e ((grants c).0 u).warranted ((grants d).0 v).warranted

pub demand_3 : Demand_3
demand_3 = record {
  of_warrant = λ p Pref h k. warranted_apart h k;
  of_document = λ p h k. warranted_apart h k;
  calls_grant = grants;
  of_calls = calls_apart;
}
