-- `leave_out` meets its contract: not there, left out, kept.
use mathlib.Core.Path.{ap}
use mathlib.Core.Bool.{not}
use Rattle.clash.proofs.Turns.{out_absent, out_left, out_kept}
use Rattle.clash.proofs.leave_out.Goals as goal

pub returns-then-not-has : goal.returns-then-not-has
returns-then-not-has c p h = out_absent p.rules _ _ _ c.has.ensures (ap not c.if-not-has.true)

pub returns-then-contradictory_among : goal.returns-then-contradictory_among
returns-then-contradictory_among c p h = out_left p.rules _ _ _ c.has.ensures (ap not c.if-not-has.false) _ _ _ c.empty.ensures c.insert.ensures c.minus-rest.ensures _ (c.contradictory_among.ensures p h) c.if-contradictory_among.true

pub returns : goal.returns
returns c p h = out_kept p.rules _ _ _ c.has.ensures (ap not c.if-not-has.false) _ _ _ c.empty.ensures c.insert.ensures c.minus-rest.ensures _ (c.contradictory_among.ensures p h) c.if-contradictory_among.false
