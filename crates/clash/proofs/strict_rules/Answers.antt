use mathlib.Core.Path.{ap, ◌∙◌}
use mathlib.Core.Logic.{inl, inr}
use native.Mathlib.Omega.{arith}
use Rattle.literals.specs.Inside.Words.{set_of}
use Rattle.clash.proofs.Turns.{sorting_start, sorting_next, sorting_end}
use Rattle.clash.proofs.strict_rules.Goals as goal
use Rattle.clash.proofs.strict_rules.Goals.{then-need-eq0, else-need-eq0}

pub loop-i-init : goal.loop-i-init
loop-i-init c = sorting_start _ _ c.rule_count-rules.ensures _ c.empty-s.ensures

pub loop-i-preserved : goal.loop-i-preserved
loop-i-preserved c =
    sorting_next _ _ c.rule_count-rules.ensures c.loop-i.i (set_of c.loop-i.s) _ c.loop-i-test.true c.need.ensures
    c.loop-i.invariant _
    (elim c.if-need-eq0.branch [
      | then-need-eq0 w ↦ inl (w.if-need-eq0.true, ap set_of w.s-is ∙ w.insert-s.ensures)
      | else-need-eq0 w ↦ inr (w.if-need-eq0.false, ap set_of w.s-is)
    ])

pub returns : goal.returns
returns c p h = sorting_end _ _ c.rule_count-rules.ensures c.loop-i.i _ (omega arith) c.loop-i.invariant p h
