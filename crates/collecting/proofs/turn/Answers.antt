use Rattle.collecting.proofs.Turns.{turned_row, turned_literal, turned_end}
use Rattle.collecting.proofs.turn.Goals as goal

pub loop-literal-init : goal.loop-literal-init
loop-literal-init c = rw c.into_iter-literal-iterator.ensures.into_iter_gives (λ d y m. m)

pub loop-literal-preserved : goal.loop-literal-preserved
loop-literal-preserved c = let a = c.args in
    λ d y m.
    c.loop-literal.invariant d y
    (turned_literal a.rows.now a.w _ c.in-Some.literal c.in-Some.ensures.steps.0 c.loop-literal.columns _ d c.loop-literal.masks _ y
    (turned_row a.rows.now a.w c.in-Some.literal c.turn_row-masks.result c.loop-literal.masks c.loop-literal.columns _ c.turn_row-masks.ensures.0 c.turn_row-masks.ensures.1)
    (rw c.in-Some.ensures.steps.1 at m))

pub returns : goal.returns
returns c = let a = c.args in
    c.loop-literal.invariant _ _ (turned_end a.rows.now a.w _ c.loop-literal.columns c.loop-literal.masks c.in-None.ensures.steps.0)
