use mathlib.Core.Path.{sym, ◌∙◌}
use Rattle.excluded.proofs.Takings.{open_none, open_skip, open_more, open_all}
use native.Mathlib.Omega.{arith}
use Rattle.excluded.proofs.strict.bearing.Goals as goal
use Rattle.excluded.proofs.strict.bearing.Goals.{then-bears, else-bears}

pub loop-i-init : goal.loop-i-init
loop-i-init c = open_none _ _ _ c.empty-rules.ensures

pub loop-i-preserved : goal.loop-i-preserved
loop-i-preserved c = let inside = c.loop-i-test.true in
    elim c.if-bears.branch [
      | then-bears w ↦ rw w.rules-is (open_more _ _ c.loop-i.i _ _ (omega (arith, c.rule_count-i-end.ensures)) (sym c.bears.ensures ∙ w.if-bears.true) w.insert-rules.ensures c.loop-i.invariant)
      | else-bears w ↦ rw w.rules-is (open_skip _ _ c.loop-i.i _ (sym c.bears.ensures ∙ w.if-bears.false) c.loop-i.invariant)
    ]

pub returns : goal.returns
returns c = open_all _ _ c.loop-i.i _ (omega (arith, c.rule_count-i-end.ensures)) c.loop-i.invariant
