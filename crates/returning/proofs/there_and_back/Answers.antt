-- By what each call says.
use mathlib.Core.Path.{◌≡◌, refl, sym, ap, ◌∙◌}
use mathlib.Core.Bool.{true, false, false≢true}
use Prim.Native.Nat.{ℕ, ◌≤◌}
use native.Mathlib.Omega.{arith}
use lib.ListN.{length, take}
use borrow.Author.Rules.{rules}
use lib.Seq.{length-take-le}
use Rattle.std.specs.Prelude.{Result, Ok, Err}
use Rattle.std.specs.Result.{is_ok, is_err}
use Rattle.layout.specs.declared.Refusal.{Refusal}
use Rattle.layout.specs.Causes.{number_of}
use Rattle.calls.specs.Outcomes.{outcome_of}
use Rattle.calls.specs.Outcomes as outcomes
use Rattle.calls.specs.Verdicts.{Accepted}
use Rattle.filing.specs.Calls.{file_verdict}
use Rattle.returning.proofs.Returning.{turned_away, filed, room, done}
use Rattle.returning.proofs.there_and_back.Goals as goal
use Rattle.returning.proofs.there_and_back.Goals.{Else-is_err}

-- what a test of a result says of it
refusal_in : (r : Result ℕ Refusal) → is_err r ≡ true → (n : ℕ) × ((p : ℕ) × (outcome_of r ≡ outcomes.Refused n p))
refusal_in (Ok n) e = absurd (false≢true e)
refusal_in (Err r) e = (number_of r.cause, (r.place, refl))

count_in : (r : Result ℕ Refusal) → is_err r ≡ false → (n : ℕ) × (outcome_of r ≡ outcomes.Given n)
count_in (Ok n) e = (n, refl)
count_in (Err r) e = absurd (false≢true (sym e))

pub returns-then-is_err : goal.returns-then-is_err
returns-then-is_err c = let e = refusal_in c.file.result (sym c.is_err.ensures.value ∙ c.if-is_err.true) in
    (turned_away c.args.image.now c.args.form.now c.args.numbers.now c.args.back.now _ _ (sym c.file.ensures.0 ∙ e.1.1), refl, c.file.ensures.1, c.file.ensures.2)

-- the image is filed
module _ (c : Else-is_err) where
  accepted : file_verdict c.args.image.now (length c.args.form.now) (length c.args.numbers.now) ≡ Accepted
  accepted =
      let e = count_in c.file.result (sym c.is_err.ensures.value ∙ c.if-is_err.false) in
      filed c.args.image.now c.args.form.now c.args.numbers.now c.args.back.now _ (sym c.file.ensures.0 ∙ e.1)

  enough : length c.args.image.now ≤ length c.file.new.out
  enough = let h = room c.args.image.now c.args.form.now c.args.numbers.now c.args.back.now accepted in omega (arith, c.file.auto.out)

pub slice_bounds-unfile-end : goal.slice_bounds-unfile-end
slice_bounds-unfile-end c = enough (goal.at.slice_bounds-unfile-end c).Else-is_err

pub slice_bounds-unfile-end-2 : goal.slice_bounds-unfile-end-2
slice_bounds-unfile-end-2 c = sym (length-take-le _ _ (enough (goal.at.slice_bounds-unfile-end-2 c).Else-is_err))

pub returns : goal.returns
returns c = let v = accepted (goal.at.returns c).Else-is_err in
    let d = done c.args.image.now c.args.form.now c.args.numbers.now c.args.back.now v (λ i. let h = c.type_inv.image i in search rules) _ _ _ c.file.ensures.1 c.file.ensures.2 refl c.unfile.result (sym c.unfile.ensures.0) in
    rw c.is_ok.ensures.value (d.0, c.unfile.ensures.1 ∙ d.1, c.file.ensures.1, c.file.ensures.2)
