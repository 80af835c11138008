-- `Cursor::number` meets its contract: the two bytes, joined.
use mathlib.Core.Path.{sym, ◌∙◌}
use Rattle.layout.proofs.Cursors.{pair_ended, pair_is, number_past, number_read}
use Rattle.layout.proofs.cursor.Cursor.number.Goals as goal

pub returns-in_err-next : goal.returns-in_err-next
returns-in_err-next c = c.from_residual.ensures ∙ number_past _ _ (pair_ended _ _ (sym c.pair.ensures ∙ c.in_err-next.was))

pub number_at-requires : goal.number_at-requires
number_at-requires c = let p = pair_is _ _ _ _ _ (sym c.pair.ensures ∙ c.in_ok-next.was) in p.room

pub returns : goal.returns
returns c = let p = pair_is _ _ _ _ _ (sym c.pair.ensures ∙ c.in_ok-next.was) in number_read _ _ _ _ p.room c.number_at.ensures p.next
