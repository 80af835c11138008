use mathlib.Core.Path.{sym, ◌∙◌}
use Rattle.defeat.specs.Inside.Kinds.{number_of_kind}
use Rattle.defeat.proofs.defeaters.weigh.Invariants.{left_all, left_end, turn_past, turn_skip, turn_proper, turn_under, turn_neither}
use Rattle.defeat.proofs.defeaters.weigh.Goals as goal
use Rattle.defeat.proofs.defeaters.weigh.Goals.{then-not-preferred, else-not-preferred}

pub loop-z-init : goal.loop-z-init
loop-z-init c = left_all c.args.table.now _ _ _ _

pub returns-then-y-mask : goal.returns-then-y-mask
returns-then-y-mask c = turn_past _ _ _ _ _ (number_of_kind c.loop-z.found) c.loop-z.z-index c.loop-z.invariant c.loop-z-test.true _ c.mask_of-mask.ensures c.if-y-mask.true

pub loop-z-preserved-then-not-attacked : goal.loop-z-preserved-then-not-attacked
loop-z-preserved-then-not-attacked c = turn_skip _ _ _ _ _ (number_of_kind c.loop-z.found) c.loop-z.z-index c.loop-z.invariant c.loop-z-test.true _ c.mask_of-mask.ensures
    (sym c.attacked.ensures ∙ c.if-not-attacked.true)

pub returns-then-preferred : goal.returns-then-preferred
returns-then-preferred c = let attacked = sym c.attacked.ensures ∙ c.if-not-attacked.false in
    turn_proper _ _ _ _ _ (number_of_kind c.loop-z.found) c.loop-z.z-index c.loop-z.invariant c.loop-z-test.true _ c.mask_of-mask.ensures
    attacked _ c.preferred.ensures c.if-preferred.true

pub loop-z-preserved : goal.loop-z-preserved
loop-z-preserved c = let attacked = sym c.attacked.ensures ∙ c.if-not-attacked.false in
    elim c.if-not-preferred.branch [
      | then-not-preferred w ↦ rw w.found-is (turn_neither _ _ _ _ _ (number_of_kind c.loop-z.found) c.loop-z.z-index c.loop-z.invariant c.loop-z-test.true _ c.mask_of-mask.ensures attacked _
          c.preferred.ensures c.if-preferred.false _ c.preferred-in-loop-z.ensures w.if-not-preferred.true)
      | else-not-preferred w ↦ rw w.found-is (turn_under _ _ _ _ _ (number_of_kind c.loop-z.found) c.loop-z.z-index c.loop-z.invariant c.loop-z-test.true _ c.mask_of-mask.ensures attacked _
          c.preferred.ensures c.if-preferred.false _ c.preferred-in-loop-z.ensures w.if-not-preferred.false)
    ]

pub returns : goal.returns
returns c = left_end _ _ _ _ _ (number_of_kind c.loop-z.found) c.loop-z.z-index c.loop-z.invariant c.loop-z-test.false
