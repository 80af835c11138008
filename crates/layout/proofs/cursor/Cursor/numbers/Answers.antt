-- `Cursor::numbers` meets its contract: one number after the other.
use mathlib.Core.Path.{sym, ◌∙◌}
use native.Mathlib.Omega.{arith}
use Rattle.layout.proofs.Cursors.{number_ended, number_is, numbers_past, numbers_read}
use Rattle.layout.proofs.cursor.Cursor.numbers.Goals as goal

pub returns-in_err-first : goal.returns-in_err-first
returns-in_err-first c = c.from_residual.ensures ∙ numbers_past _ _ (omega (arith, number_ended _ _ (sym c.number.ensures ∙ c.in_err-first.was)))

pub returns-in_err-second : goal.returns-in_err-second
returns-in_err-second c = let a = number_is _ _ _ _ (sym c.number.ensures ∙ c.in_ok-first.was) in
    c.from_residual-in_err-second.ensures ∙ numbers_past _ _ (omega (arith, a.next, number_ended _ _ (sym c.number-2.ensures ∙ c.in_err-second.was)))

pub returns : goal.returns
returns c = numbers_read _ _ _ _ _ _ (number_is _ _ _ _ (sym c.number.ensures ∙ c.in_ok-first.was)) (number_is _ _ _ _ (sym c.number-2.ensures ∙ c.in_ok-second.was))
