-- By what the check says, and then by the two tables.
use mathlib.Core.Path.{sym, ap, ◌∙◌}
use Rattle.std.proofs.lemmas.Result.{err_from_is_err_and}
use Rattle.calls.specs.Verdicts.{told}
use Rattle.filer.proofs.Rules.{accepted_long}
use Rattle.filer.proofs.Files.{admit_checked, admit_short, admit_few, admit_all}
use native.Mathlib.Omega.{arith}
use Rattle.filer.proofs.admit.Goals as goal

pub returns-in_err-check : goal.returns-in_err-check
returns-in_err-check c = let p = err_from_is_err_and c.from_residual.result c.from_residual.ensures.1 in rw (p.1, p.2)
    (admit_checked _ _ _ _ _ (sym c.check.ensures ∙ ap told c.in_err-check.was))

pub returns-then-room-image : goal.returns-then-room-image
returns-then-room-image c = rw c.at.ensures (admit_short _ _ _ (sym c.check.ensures ∙ ap told c.in_ok-check.was) c.if-room-image.true)

pub number_at-requires : goal.number_at-requires
number_at-requires c = omega (arith, accepted_long _ (sym c.check.ensures ∙ ap told c.in_ok-check.was))

pub returns-then-entries-number_at : goal.returns-then-entries-number_at
returns-then-entries-number_at c = rw c.at-then-entries-number_at.ensures (admit_few _ _ _ (sym c.check.ensures ∙ ap told c.in_ok-check.was) c.if-room-image.false (omega (arith, c.number_at.ensures, c.if-entries-number_at.true)))

pub returns : goal.returns
returns c = admit_all _ _ _ (sym c.check.ensures ∙ ap told c.in_ok-check.was) c.if-room-image.false (omega (arith, c.number_at.ensures, c.if-entries-number_at.false))
