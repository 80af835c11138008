-- `stands` meets its contract: by the head, then by the two literals of the atom in the body.
use Rattle.decision.proofs.Occurrences.{head_stands, plain_stands, negated_stands}
use Rattle.decision.proofs.occurrence.stands.Goals as goal

pub returns-then-head-literal : goal.returns-then-head-literal
returns-then-head-literal c r b row = head_stands _ r b _ _ row _ c.head.ensures c.if-head-literal.true

pub returns-then-has : goal.returns-then-has
returns-then-has c r b row = plain_stands _ r b _ _ row _ _ c.head.ensures c.body-body.ensures _ c.has.ensures c.if-has.true

pub returns : goal.returns
returns c r b row = negated_stands _ r b _ _ row _ _ c.head.ensures c.body-body.ensures _ _ c.if-head-literal.false c.has.ensures c.if-has.false c.has-2.ensures
