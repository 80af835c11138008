-- The rules from one on, and what one more says.
use mathlib.Core.Path.{sym, ◌∙◌}
use Prim.Native.Nat.{◌<◌}
use lib.ListN.{length}
use native.Mathlib.Omega.{arith}
use Rattle.decision.proofs.Occurrences.{occurs_start, occurs_here, occurs_later, occurs_nowhere}
use Rattle.decision.proofs.occurrence.occurs.Goals as goal

pub loop-i-init : goal.loop-i-init
loop-i-init c p h = occurs_start p _

pub returns-then-stands : goal.returns-then-stands
returns-then-stands c p h = let l : c.loop-i.i < length p.rules = omega (arith, h.rules_are) in
    occurs_here p _ c.loop-i.i l (sym (c.stands.ensures _ _ (h.row c.loop-i.i l)) ∙ c.if-stands.true) (c.loop-i.invariant p h)

pub loop-i-preserved : goal.loop-i-preserved
loop-i-preserved c p h = let l : c.loop-i.i < length p.rules = omega (arith, h.rules_are) in
    occurs_later p _ c.loop-i.i l (sym (c.stands.ensures _ _ (h.row c.loop-i.i l)) ∙ c.if-stands.false) (c.loop-i.invariant p h)

pub returns : goal.returns
returns c p h = occurs_nowhere p _ c.loop-i.i (omega (arith, h.rules_are)) (c.loop-i.invariant p h)
