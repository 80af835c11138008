-- `load` meets its contract: read, then cause 14 by what the strict rules derive.
use mathlib.Core.Path.{◌≡◌, refl, sym, ap, ap₂, ◌∙◌}
use mathlib.Core.Bool.{Bool, true, false}
use mathlib.Core.List.{List}
use Prim.Native.Nat.{ℕ}
use Rattle.calls.specs.Verdicts.{told}
use Rattle.literals.specs.Sets.{clash}
use Rattle.program.specs.Program.{Rule, Program, Π, Π_mask}
use Rattle.program.specs.Inside.Table.{Holds, Shaped}
use Rattle.derivation.specs.Closure.{closure, contradictory}
use Rattle.derivation.proofs.Choices.{Π_mask_empty}
use Rattle.derivation.proofs.Tables.{limits_shaped}
use Rattle.calls.specs.Verdicts.{Verdict, Accepted, Refused}
use Rattle.std.proofs.lemmas.Result.{err_from_is_err_and}
use Rattle.layout.specs.Causes.{verdict}
use Rattle.layout.specs.Causes as images
use Rattle.calls.specs.Verdicts.{refuse, and_then}
use Rattle.layout.specs.Reading.{program_in}
use Rattle.image.proofs.Accepted.{accepted_limits}
use Rattle.calls.specs.Calls.{check_image}
use native.Mathlib.Omega.{arith}
use Rattle.calls.proofs.load.Goals as goal

module _ (s : List ℕ) where
  -- causes 1 to 13, then 14 by its test
  check_by : (v : Verdict) (b : Bool) → told (verdict s) ≡ v → contradictory (Π (program_in s).rules) ≡ b → check_image s ≡ and_then v (refuse b 14 0)
  unfolding check_image
  check_by v b e f = ap₂ (λ (w : Verdict) (t : Bool). and_then w (refuse t 14 0)) e f

  refused : (n k : ℕ) (t : List ℕ) → told (verdict s) ≡ Refused n k → (Refused n k ≡ check_image s) × (check_image s ≡ Accepted → Holds (program_in s) t)
  refused n k t e =
      let is = check_by (Refused n k) (contradictory (Π (program_in s).rules)) e refl in
      (sym is, λ a. absurd (let z : ◌≡◌ {A = ℕ} 0 1 = cc in omega arith))

  shaped : (t : List ℕ) → verdict s ≡ images.accepted → Holds (program_in s) t → Shaped t
  shaped t e h = limits_shaped (program_in s) t h (accepted_limits s e)

  -- what nothing given derives by the strict rules
  tested : (t : List ℕ) (c given : ℕ) (r b : Bool) → ((p : Program) → Holds p t → c ≡ closure (Π_mask 0 p.rules) given) → given ≡ 0 → Holds (program_in s) t → r ≡ clash c → r ≡ b → contradictory (Π (program_in s).rules) ≡ b
  tested t c given r b close none h e q =
      ap clash (ap (λ (l : List Rule). closure l 0) (sym (Π_mask_empty (program_in s).rules)) ∙ ap (closure (Π_mask 0 (program_in s).rules)) (sym none) ∙ sym (close (program_in s) h)) ∙ sym e ∙ q

  clashing : (t : List ℕ) → verdict s ≡ images.accepted → contradictory (Π (program_in s).rules) ≡ true → (Refused 14 0 ≡ check_image s) × (check_image s ≡ Accepted → Holds (program_in s) t)
  clashing t e f =
      let is = check_by Accepted true (ap told e) f in
      (sym is, λ a. absurd (let z : ◌≡◌ {A = ℕ} 0 1 = cc in omega arith))

  accepted : (t : List ℕ) → verdict s ≡ images.accepted → contradictory (Π (program_in s).rules) ≡ false → Holds (program_in s) t → (Accepted ≡ check_image s) × (check_image s ≡ Accepted → Holds (program_in s) t)
  accepted t e f h = (sym (check_by Accepted false (ap told e) f), λ a. h)

pub returns-in_err-read : goal.returns-in_err-read
returns-in_err-read c = let p = err_from_is_err_and c.from_residual.result c.from_residual.ensures.1 in rw (p.1, p.2)
    (refused c.args.image.now _ _ _ (ap told (sym c.read.ensures.0 ∙ c.in_err-read.was)))

pub close-requires : goal.close-requires
close-requires c = let s = c.args.image.now in
    let e = sym c.read.ensures.0 ∙ c.in_ok-read.was in
    shaped s _ e (c.read.ensures.1 e)

pub returns-then-contradictory : goal.returns-then-contradictory
returns-then-contradictory c = let s = c.args.image.now in
    let e = sym c.read.ensures.0 ∙ c.in_ok-read.was in
    let h = c.read.ensures.1 e in
    rw c.at.ensures (clashing s _ e (tested s _ _ _ _ _ c.close.ensures c.empty.ensures h c.contradictory.ensures c.if-contradictory.true))

pub returns : goal.returns
returns c = let s = c.args.image.now in
    let e = sym c.read.ensures.0 ∙ c.in_ok-read.was in
    let h = c.read.ensures.1 e in
    accepted s _ e (tested s _ _ _ _ _ c.close.ensures c.empty.ensures h c.contradictory.ensures c.if-contradictory.false) h
