-- `Cursor::follow` meets its contract: what follows, and what does not.
use mathlib.Core.Path.{sym, ◌∙◌}
use Rattle.layout.proofs.Cursors.{numbers_ended, numbers_is, follow_broken, follow_read}
use native.Mathlib.Omega.{arith}
use Rattle.layout.proofs.cursor.Cursor.follow.Goals as goal

pub returns-in_err-offset : goal.returns-in_err-offset
returns-in_err-offset c = c.from_residual.ensures ∙ follow_broken _ _ _ (λ f. let r = f.room in omega (arith, numbers_ended _ _ (sym c.numbers.ensures ∙ c.in_err-offset.was)))

pub returns-then-from-ends : goal.returns-then-from-ends
returns-then-from-ends c = let e = numbers_is _ _ _ _ _ (sym c.numbers.ensures ∙ c.in_ok-offset.was) in
    follow_broken _ _ _ (λ f. c.if-from-ends.true (c.from-from.ensures ∙ e.first_is ∙ f.begins))

pub returns-then-image-to : goal.returns-then-image-to
returns-then-image-to c = let e = numbers_is _ _ _ _ _ (sym c.numbers.ensures ∙ c.in_ok-offset.was) in
    follow_broken _ _ _ (λ f. let i = f.inside in omega (arith, e.second_is))

pub returns : goal.returns
returns c = let e = numbers_is _ _ _ _ _ (sym c.numbers.ensures ∙ c.in_ok-offset.was) in
    follow_read _ _ _ _ _
    (record { room = e.room; begins = sym (c.from-from.ensures ∙ e.first_is) ∙ c.if-from-ends.false; inside = omega (arith, e.second_is) })
    (omega (arith, e.second_is)) e.next
