-- `Cursor::byte` meets its contract: one law for each answer.
use mathlib.Core.Path.{◌≡◌, sym, ◌∙◌}
use lib.ListN.{get_or}
use borrow.Author.Tests.{ltb-true, ltb-false}
use Rattle.std.proofs.lemmas.Grind.{get_or_default_zero}
use Rattle.layout.proofs.Cursors.{byte_past, byte_read}
use Rattle.layout.proofs.cursor.Cursor.byte.Goals as goal

pub returns-in_err-value : goal.returns-in_err-value
returns-in_err-value c = rw c.from_residual.ensures (byte_past _ _ (ltb-false _ _ (sym c.in_err-value.ensures.lookup.0)))

pub returns : goal.returns
returns c = let h = ltb-true _ _ (sym c.in_ok-value.ensures.lookup.0) in
    let v : c.in_ok-value.field-0.now ≡ get_or c.args.part.now c.args.self.at 0 = c.in_ok-value.ensures.lookup.1 ∙ get_or_default_zero _ _ _ h in
    rw v (byte_read _ _ h)
