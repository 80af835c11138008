-- `Cursor::pair` meets its contract: a pair is two bytes.
use mathlib.Core.Path.{sym, ◌∙◌}
use Rattle.layout.proofs.Cursors.{byte_ended, byte_is, pair_past, pair_read}
use native.Mathlib.Omega.{arith}
use Rattle.layout.proofs.cursor.Cursor.pair.Goals as goal

pub returns-in_err-first : goal.returns-in_err-first
returns-in_err-first c = c.from_residual.ensures ∙ pair_past _ _ (omega (arith, byte_ended _ _ (sym c.byte.ensures ∙ c.in_err-first.was)))

pub returns-in_err-second : goal.returns-in_err-second
returns-in_err-second c = let a = byte_is _ _ _ _ (sym c.byte.ensures ∙ c.in_ok-first.was) in
    c.from_residual-in_err-second.ensures ∙ pair_past _ _ (omega (arith, byte_ended _ _ (sym c.byte-2.ensures ∙ c.in_err-second.was)))

pub returns : goal.returns
returns c = pair_read _ _ _ _ _ _ (byte_is _ _ _ _ (sym c.byte.ensures ∙ c.in_ok-first.was)) (byte_is _ _ _ _ (sym c.byte-2.ensures ∙ c.in_ok-second.was))
