-- By what the common part says, then by the two tests.
use mathlib.Core.Path.{sym, ap, ◌∙◌}
use lib.ListN.{get_or-replicate}
use lib.Seq.{length-take-le}
use Rattle.std.proofs.lemmas.Result.{err_from_is_err_and}
use Rattle.calls.specs.Verdicts.{told}
use Rattle.filing.proofs.Refusals.{file_accepted}
use Rattle.filer.proofs.Rules.{accepted_short}
use Rattle.filer.proofs.Rules.{accepted_long}
use Rattle.filer.proofs.Files.{unfile_turned, unfile_first, unfile_numbers, unfile_form, unfile_both, order_numbering, unfile_done, rules_in}
use native.Mathlib.Omega.{arith}
use borrow.Author.Rules.{rules}
use Rattle.filer.proofs.unfile.Goals as goal

pub returns-in_err-admit : goal.returns-in_err-admit
returns-in_err-admit c = let p = err_from_is_err_and c.from_residual.result c.from_residual.ensures.1 in rw (p.1, p.2)
    (unfile_turned c.args.image.now c.args.numbers.now c.args.out.now _ _ (unfile_first c.args.image.now c.args.numbers.now c.args.out.now _ _ (sym c.admit.ensures ∙ ap told c.in_err-admit.was)))

pub number_at-rules-requires : goal.number_at-rules-requires
number_at-rules-requires c = omega (arith, accepted_long _ (file_accepted _ _ _ (sym c.admit.ensures ∙ ap told c.in_ok-admit.was)).0)

pub invert-requires : goal.invert-requires
invert-requires c = let r = rules_in _ _ _ (sym c.admit.ensures ∙ ap told c.in_ok-admit.was) _ c.number_at-rules.ensures in
    let long = length-take-le c.number_at-rules.result c.args.numbers.now r.0 in
    (omega arith, omega arith, λ k h. get_or-replicate 96 k 255 0 (omega arith))

pub slice_bounds-invert-end : goal.slice_bounds-invert-end
slice_bounds-invert-end c = sym (length-take-le _ _ (rules_in _ _ _ (sym c.admit.ensures ∙ ap told c.in_ok-admit.was) _ c.number_at-rules.ensures).0)

pub slice_bounds-places-end : goal.slice_bounds-places-end
slice_bounds-places-end c = let few = (rules_in _ _ _ (sym c.admit.ensures ∙ ap told c.in_ok-admit.was) _ c.number_at-rules.ensures).1 in search rules

pub slice_bounds-write-end : goal.slice_bounds-write-end
slice_bounds-write-end c = let few = (rules_in _ _ _ (sym c.admit.ensures ∙ ap told c.in_ok-admit.was) _ c.number_at-rules.ensures).1 in sym (length-take-le _ _ (search rules))

pub returns-then-not-invert : goal.returns-then-not-invert
returns-then-not-invert c = let e = sym c.admit.ensures ∙ ap told c.in_ok-admit.was in
    rw c.at.ensures (unfile_turned _ _ _ _ _ (unfile_numbers c.args.image.now c.args.numbers.now c.args.out.now e _ c.number_at-rules.ensures (sym c.if-not-invert.true ∙ c.invert.ensures.0)))

pub ascends-requires : goal.ascends-requires
ascends-requires c = ((file_accepted _ _ _ (sym c.admit.ensures ∙ ap told c.in_ok-admit.was)).0, c.number_at-rules.ensures)

pub returns-then-not-ascends : goal.returns-then-not-ascends
returns-then-not-ascends c = let e = sym c.admit.ensures ∙ ap told c.in_ok-admit.was in
    rw c.at-then-not-ascends.ensures (unfile_turned _ _ _ _ _ (unfile_form c.args.image.now c.args.numbers.now c.args.out.now e _ c.number_at-rules.ensures (sym c.if-not-ascends.true ∙ c.ascends.ensures)))

pub write-requires : goal.write-requires
write-requires c = let e = sym c.admit.ensures ∙ ap told c.in_ok-admit.was in
    let a = file_accepted _ _ _ e in
    let few = (rules_in _ _ _ e _ c.number_at-rules.ensures).1 in
    let fine = c.if-not-invert.false in
    let v = unfile_both c.args.image.now c.args.numbers.now c.args.out.now e _ c.number_at-rules.ensures (sym fine ∙ c.invert.ensures.0) (sym c.if-not-ascends.false ∙ c.ascends.ensures) in
    (a.0, order_numbering c.args.image.now c.args.numbers.now c.args.out.now v _ c.number_at-rules.ensures _ (search rules) (c.invert.ensures.1 fine), a.1)

pub overflow_cast-result : goal.overflow_cast-result
overflow_cast-result c = let e = sym c.admit.ensures ∙ ap told c.in_ok-admit.was in
    omega (arith, accepted_short _ (file_accepted _ _ _ e).0)

pub returns : goal.returns
returns c = let e = sym c.admit.ensures ∙ ap told c.in_ok-admit.was in
    let few = (rules_in _ _ _ e _ c.number_at-rules.ensures).1 in
    let fine = c.if-not-invert.false in
    let v = unfile_both c.args.image.now c.args.numbers.now c.args.out.now e _ c.number_at-rules.ensures (sym fine ∙ c.invert.ensures.0) (sym c.if-not-ascends.false ∙ c.ascends.ensures) in
    unfile_done c.args.image.now c.args.numbers.now c.args.out.now v _ c.number_at-rules.ensures _ (search rules) (c.invert.ensures.1 fine) _ c.write.ensures
