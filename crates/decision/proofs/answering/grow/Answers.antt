-- `grow` meets its contract: what the forest grows from holds the program.
use mathlib.Core.Path.{refl, ap, ◌∙◌}
use mathlib.Core.List.{List}
use native.Mathlib.Omega.{arith}
use Rattle.program.specs.Program.{Rule, Π_mask}
use Rattle.derivation.specs.Closure.{closure}
use Rattle.derivation.proofs.Choices.{Π_mask_empty}
use Rattle.derivation.proofs.Tables.{limits_shaped}
use Rattle.decision.proofs.Decisions.{prepared, roots_ready}
use Rattle.decision.proofs.answering.grow.Goals as goal

pub close-derived-requires : goal.close-derived-requires
close-derived-requires c = let w = c.requires.asked.held in limits_shaped w.program _ w.holds w.limits

pub fill-requires : goal.fill-requires
fill-requires c = let w = c.requires.asked.held in limits_shaped w.program _ w.holds w.limits

pub forest-requires-clause-roots_ready : goal.forest-requires-clause-roots_ready
forest-requires-clause-roots_ready c =
    let w = c.requires.asked.held in
    roots_ready _ w c.requires.listing _ c.conclusions-conclusions.ensures
    (λ p holds. c.fill.ensures refl p holds (c.close-derived.ensures p holds ∙ ap (closure (Π_mask 0 p.rules)) c.empty.ensures ∙ ap (λ (l : List Rule). closure l 0) (Π_mask_empty p.rules)))
    _ _ _ _ c.requires.asked (omega arith)

pub returns : goal.returns
returns c = record {
  grown = λ w l.
      c.forest.ensures.built
      (prepared _ w l _ c.conclusions-conclusions.ensures
      (λ p holds. c.fill.ensures refl p holds (c.close-derived.ensures p holds ∙ ap (closure (Π_mask 0 p.rules)) c.empty.ensures ∙ ap (λ (l : List Rule). closure l 0) (Π_mask_empty p.rules))));
  kept = c.forest.ensures.kept;
}
