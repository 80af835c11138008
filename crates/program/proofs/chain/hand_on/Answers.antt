use mathlib.Core.Path.{sym, ap, ◌∙◌}
use lib.ListN.{length, length-set}
use native.Mathlib.Omega.{arith}
use Rattle.program.proofs.Chaining.{handed_none, handed_nothing, handed_skip, handed_more, handed_all}
use Rattle.program.proofs.chain.hand_on.Goals as goal
use Rattle.program.proofs.chain.hand_on.Goals.{then-has, else-has}

pub returns-then-handed-eq0 : goal.returns-then-handed-eq0
returns-then-handed-eq0 c = handed_nothing (sym c.beaten-handed.ensures ∙ c.if-handed-eq0.true)

pub loop-i-init : goal.loop-i-init
loop-i-init c = handed_none _ _

pub loop-i-preserved : goal.loop-i-preserved
loop-i-preserved c = let l = c.loop-i in let inside = c.loop-i-test.true in
    elim c.if-has.branch [
      | then-has w ↦ rw w.table-is (handed_more (omega arith) l.invariant _ _ (sym (length-set l.table _ _) ∙ ap length (sym w.store_beaten.ensures) ∙ w.store_beaten.array_long) c.beaten-own.ensures
          (sym c.has.ensures ∙ w.if-has.true) c.beaten-handed.ensures w.store_beaten.ensures)
      | else-has w ↦ rw w.table-is (handed_skip (omega arith) l.invariant _ c.beaten-own.ensures (sym c.has.ensures ∙ w.if-has.false))
    ]

pub returns : goal.returns
returns c = let l = c.loop-i in handed_all (omega arith) l.invariant
