-- By what the common part says.
use mathlib.Core.Path.{sym, ap, ◌∙◌}
use lib.Seq.{length-take-le}
use Rattle.std.proofs.lemmas.Result.{err_from_is_err_and}
use Rattle.calls.specs.Verdicts.{told}
use Rattle.filing.proofs.Refusals.{file_accepted}
use Rattle.filer.proofs.Rules.{accepted_long, accepted_short}
use Rattle.filer.proofs.Files.{file_turned, filed_front, filed_numbering, file_done, rules_in}
use native.Mathlib.Omega.{arith}
use Rattle.filer.proofs.file.Goals as goal

pub returns-in_err-admit : goal.returns-in_err-admit
returns-in_err-admit c = let p = err_from_is_err_and c.from_residual.result c.from_residual.ensures.1 in rw (p.1, p.2)
    (file_turned _ _ _ _ _ (sym c.admit.ensures ∙ ap told c.in_err-admit.was))

pub number_at-rules-requires : goal.number_at-rules-requires
number_at-rules-requires c = omega (arith, accepted_long _ (file_accepted _ _ _ (sym c.admit.ensures ∙ ap told c.in_ok-admit.was)).0)

pub slice_bounds-order-end : goal.slice_bounds-order-end
slice_bounds-order-end c = (rules_in _ _ _ (sym c.admit.ensures ∙ ap told c.in_ok-admit.was) _ c.number_at-rules.ensures).0

pub slice_bounds-order-end-2 : goal.slice_bounds-order-end-2
slice_bounds-order-end-2 c = sym (length-take-le _ _ (rules_in _ _ _ (sym c.admit.ensures ∙ ap told c.in_ok-admit.was) _ c.number_at-rules.ensures).0)

pub fill-requires : goal.fill-requires
fill-requires c = let e = sym c.admit.ensures ∙ ap told c.in_ok-admit.was in
    ((file_accepted _ _ _ e).0, length-take-le _ _ (rules_in _ _ _ e _ c.number_at-rules.ensures).0 ∙ c.number_at-rules.ensures)

pub write-requires : goal.write-requires
write-requires c = let e = sym c.admit.ensures ∙ ap told c.in_ok-admit.was in
    let a = file_accepted _ _ _ e in
    (a.0, filed_numbering c.args.image.now c.args.out.now c.args.numbers.now e _ c.fill.ensures, a.1)

pub overflow_cast-result : goal.overflow_cast-result
overflow_cast-result c = let a = (file_accepted _ _ _ (sym c.admit.ensures ∙ ap told c.in_ok-admit.was)).0 in
    omega (arith, accepted_short _ a)

pub returns : goal.returns
returns c = let e = sym c.admit.ensures ∙ ap told c.in_ok-admit.was in
    let d = file_done c.args.image.now c.args.out.now c.args.numbers.now e _ _ c.fill.ensures c.write.ensures in
    (d.0, d.1, filed_front c.args.image.now c.args.out.now c.args.numbers.now e _ _ c.number_at-rules.ensures c.fill.ensures)
