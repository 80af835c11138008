-- `derivation::fire` meets its contract: off, its head there, its body there, its body not there.
use mathlib.Core.Path.{sym, ◌∙◌}
use Rattle.derivation.proofs.Turns.{fired_off, fired_there, fired_new, fired_waits}
use Rattle.derivation.proofs.fire.Goals as goal

pub returns-then-not-is_on : goal.returns-then-not-is_on
returns-then-not-is_on c = fired_off _ _ c.args.i _ _ (sym c.is_on.ensures ∙ c.if-not-is_on.true)

pub returns-then-has : goal.returns-then-has
returns-then-has c = fired_there _ _ c.args.i _ _ (sym c.is_on.ensures ∙ c.if-not-is_on.false) _
    c.head-head.ensures (sym c.has.ensures ∙ c.if-has.true)

pub returns-then-within : goal.returns-then-within
returns-then-within c = fired_new _ _ c.args.i _ _ (sym c.is_on.ensures ∙ c.if-not-is_on.false) _
    c.head-head.ensures (sym c.has.ensures ∙ c.if-has.false) _
    c.body.ensures (sym c.within.ensures ∙ c.if-within.true) _
    c.insert.ensures

pub returns : goal.returns
returns c = fired_waits _ _ c.args.i _ _ (sym c.is_on.ensures ∙ c.if-not-is_on.false) _
    c.head-head.ensures (sym c.has.ensures ∙ c.if-has.false) _
    c.body.ensures (sym c.within.ensures ∙ c.if-within.false)
