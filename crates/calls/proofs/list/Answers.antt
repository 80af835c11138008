-- `list` meets its contract, by what the check and the list answer.
use mathlib.Core.Path.{◌≡◌, sym, ap, ◌∙◌}
use mathlib.Core.List.{List}
use Prim.Native.Nat.{ℕ}
use Rattle.calls.specs.Verdicts.{told}
use Rattle.program.specs.Limits.{Limits}
use Rattle.program.specs.Inside.Table.{Shaped, Holds}
use Rattle.rows.specs.Switched.{NeedsOne}
use Rattle.derivation.proofs.Tables.{limits_shaped}
use Rattle.closing.proofs.Masks.{limits_needs}
use Rattle.calls.specs.Verdicts.{Accepted}
use Rattle.std.proofs.lemmas.Result.{err_from_is_err_and}
use Rattle.layout.specs.Reading.{program_in}
use Rattle.image.proofs.Accepted.{accepted_limits}
use Rattle.calls.specs.Calls.{check_image}
use Rattle.calls.proofs.Refusals.{check_accepted}
use Rattle.calls.proofs.Listings.{list_refused, list_done}
use Rattle.calls.proofs.list.Goals as goal

within-limits : (s : List ℕ) → check_image s ≡ Accepted → Limits (program_in s)
within-limits s e = accepted_limits s (check_accepted s e).0

needed : (s t : List ℕ) → check_image s ≡ Accepted → (check_image s ≡ Accepted → Holds (program_in s) t) → Shaped t × NeedsOne t
needed s t e h = (limits_shaped (program_in s) t (h e) (within-limits s e), limits_needs (program_in s) t (h e) (within-limits s e))

pub returns-in_err-load : goal.returns-in_err-load
returns-in_err-load c = let p = err_from_is_err_and c.from_residual.result c.from_residual.ensures.1 in rw (p.1, p.2)
    (list_refused _ _ _ _ (sym c.load.ensures.0 ∙ ap told c.in_err-load.was))

pub list-requires : goal.list-requires
list-requires c = needed c.args.image.now _ (sym c.load.ensures.0 ∙ ap told c.in_ok-load.was) c.load.ensures.1

pub returns : goal.returns
returns c = let s = c.args.image.now in
    let e = sym c.load.ensures.0 ∙ ap told c.in_ok-load.was in
    let within = within-limits s e in
    let r = list_done s c.args.arguments.now e _ (c.list.ensures.result (program_in s) within (c.load.ensures.1 e)) in
    rw (c.ok_or.ensures.value, c.at.ensures) (r.0, c.list.ensures.written (program_in s) within (c.load.ensures.1 e) ∙ r.1)
