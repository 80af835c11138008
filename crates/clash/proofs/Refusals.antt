-- Which cause turns the call away, and how that stands to the check's.
use mathlib.Core.Path.{◌≡◌, refl, sym, ap, subst, subst₂}
use mathlib.Core.Bool.{Bool, true, false, not}
use mathlib.Core.List.{List}
use mathlib.Core.Logic.{◌↔◌, inl, inr}
use Prim.Native.Nat.{ℕ, ◌≤◌, ◌<◌}
use native.Mathlib.Omega.{arith}
use lib.Dec.{ltb, ltb→lt, lt→ltb}
use borrow.Author.Tests.{ltb-true, ltb-false, not-true, not-false}
use Rattle.lists.proofs.Lists.{T_true}
use Rattle.literals.proofs.Tests.{true_T}
use Rattle.program.specs.Program.{Π}
use Rattle.calls.specs.Verdicts.{told, Verdict, Accepted, Refused}
use Rattle.layout.specs.Layout.{rules_of}
use Rattle.layout.specs.Causes.{verdict}
use Rattle.calls.specs.Verdicts.{refuse, and_then}
use Rattle.layout.specs.Reading.{program_in}
use Rattle.calls.proofs.Verdicts.{then_left, then_right, refuse_not, told_accepted}
use Rattle.derivation.specs.Closure.{contradictory}
use Rattle.calls.specs.Calls.{check_image}
use Rattle.calls.specs.Causes.{ImageCause, Judged}
use Rattle.calls.specs.Causes as causes
use Rattle.calls.proofs.Verdicts.{Causes, Either, Only, Spans, judged_one, judged_then, judged_same, only_spans, either_spans, late_cut}
use Rattle.calls.proofs.Verdicts.{Sited, judged_once}
use Rattle.calls.proofs.Refusals.{check_passes, check_accepted, check_judged, image_sited, image_span, reading_judged, check_refused}
use Rattle.calls.proofs.Filling.{Small, small_refuse, small_then}
use Rattle.clash.specs.Calls.{clash_verdict, ClashCause, of_image, accepted, mark_table}

module _ (s : List ℕ) where
  abbrev pub clashes : Bool
  clashes = contradictory (Π (program_in s).rules)

  -- an image is accepted exactly if no cause applies to it
  accepted_none : check_image s ≡ Accepted → (n p : ℕ) → ¬ ImageCause s n p
  accepted_none e = go (subst (Judged (ImageCause s)) e (check_judged s))
    where
      go : Judged (ImageCause s) Accepted → (n p : ℕ) → ¬ ImageCause s n p
      go (causes.accepted f) = f

  none_accepted : ((n p : ℕ) → ¬ ImageCause s n p) → check_image s ≡ Accepted
  none_accepted f = go (check_judged s)
    where
      go : {v : Verdict} → Judged (ImageCause s) v → v ≡ Accepted
      go (causes.accepted g) = refl
      go (causes.refused {number} {place} c g) = absurd (f number place c)

  -- ---- the causes

  abbrev Reading : Causes
  Reading n p = (n < 14) × ImageCause s n p

  reading_span : Spans Reading 0 13
  reading_span n p (h, c) = ((image_span s n p c).0, omega arith)

  abbrev Sound : Causes
  Sound n p = (n ≡ 28) × (p ≡ 0) × ((m q : ℕ) → ¬ ImageCause s m q)

  sound_judged : told (verdict s) ≡ Accepted → Judged Sound (refuse (not clashes) 28 0)
  sound_judged e =
      judged_same
      (λ n p (a, b, t). (a, b, accepted_none (check_passes s (told_accepted (verdict s) e) (not-true clashes (T_true (not clashes) t)))))
      (λ n p (a, b, f). (a, b, true_T (not clashes) (ap not (check_accepted s (none_accepted f)).1)))
      (judged_one (not clashes) 28 0)

  sound_span : Spans Sound 13 28
  sound_span n p (a, b, f) = (omega arith, omega arith)

  module _ (room : ℕ) where
    abbrev short : Bool
    short = ltb room (rules_of s)

    short_span : Spans (Only short 29 0) 28 29
    short_span = only_spans short 29 0 28 29 (omega arith) (omega arith)

    cause_of_lem : (n p : ℕ) → Either Reading (Either Sound (Only short 29 0)) n p → ClashCause s room n p
    cause_of_lem n p (inl (h, c)) = of_image h c
    cause_of_lem n p (inr (inl (a, b, f))) = subst₂ (ClashCause s room) (sym a) (sym b) (accepted f)
    cause_of_lem n p (inr (inr (a, b, t))) = subst₂ (ClashCause s room) (sym a) (sym b) (mark_table (ltb→lt room (rules_of s) t))

    of_cause : (n p : ℕ) → ClashCause s room n p → Either Reading (Either Sound (Only short 29 0)) n p
    of_cause n p (of_image h c) = inl (h, c)
    of_cause n p (accepted f) = inr (inl (refl, refl, f))
    of_cause n p (mark_table h) = inr (inr (refl, refl, lt→ltb room (rules_of s) h))

    pub clash_judged : Judged (ClashCause s room) (clash_verdict s room)
    unfolding clash_verdict
    clash_judged =
        judged_same cause_of_lem of_cause
        (judged_then
        (late_cut 0 13 29 (inr (omega arith), inr (omega arith)) reading_span
        (either_spans 13 28 29 (omega arith) (omega arith) sound_span short_span))
        (reading_judged s) (λ e.
        judged_then (late_cut 13 28 29 (inr (omega arith), inr (omega arith)) sound_span short_span) (sound_judged e) (λ _.
        judged_one short 29 0)))

    clash_sited : Sited (ClashCause s room)
    clash_sited n p (of_image h c) = image_sited s n p c
    clash_sited n p (accepted f) = inr refl
    clash_sited n p (mark_table h) = inr refl

    -- and no other verdict is judged so
    pub clash_only : (v : Verdict) → Judged (ClashCause s room) v → v ≡ clash_verdict s room
    clash_only v j = judged_once clash_sited j clash_judged

    -- ---- by what reading, the test and the room say

    pub verdict_by : (v : Verdict) (c l : Bool) → told (verdict s) ≡ v → clashes ≡ c → short ≡ l
        → clash_verdict s room ≡ and_then v (and_then (refuse (not c) 28 0) (refuse l 29 0))
    unfolding clash_verdict
    verdict_by v c l e f g = rw (e, f, g)

    pub clash_accepted : clash_verdict s room ≡ Accepted → (told (verdict s) ≡ Accepted) × (clashes ≡ true) × (rules_of s ≤ room)
    unfolding clash_verdict
    clash_accepted e =
        let r = then_right (told (verdict s)) (and_then (refuse (not clashes) 28 0) (refuse short 29 0)) e in (
          then_left (told (verdict s)) (and_then (refuse (not clashes) 28 0) (refuse short 29 0)) e,
          not-false clashes (refuse_not (not clashes) 28 0 (then_left (refuse (not clashes) 28 0) (refuse short 29 0) r)),
          ltb-false room (rules_of s) (refuse_not short 29 0 (then_right (refuse (not clashes) 28 0) (refuse short 29 0) r)),
        )

  -- ---- beside the check

  check_by : (v : Verdict) (c : Bool) → told (verdict s) ≡ v → clashes ≡ c → check_image s ≡ and_then v (refuse c 14 0)
  unfolding check_image
  check_by v c e f = rw (e, f)

  small_read : Small (told (verdict s))
  small_read number place e =
      let r = check_refused s number place (check_by (Refused number place) clashes e refl) in
      (r.0, omega (arith, r.2))

  pub clash_small : (room : ℕ) → Small (clash_verdict s room)
  unfolding clash_verdict
  clash_small room =
      small_then (told (verdict s)) (and_then (refuse (not clashes) 28 0) (refuse (short room) 29 0)) small_read
      (small_then (refuse (not clashes) 28 0) (refuse (short room) 29 0) (small_refuse (not clashes) 28 (omega arith))
      (small_refuse (short room) 29 (omega arith)))

  read_below : (n p : ℕ) → told (verdict s) ≡ Refused n p → n < 14
  read_below n p e = go (subst (Judged Reading) e (reading_judged s))
    where
      go : Judged Reading (Refused n p) → n < 14
      go (causes.refused (h, c) f) = h

-- the call's verdict x and the check's y, where there are n rules and m bytes
pub record Beside (n m : ℕ) (x y : Verdict) : Type 0 where
  pub when : (x ≡ Accepted) ↔ ((y ≡ Refused 14 0) × (n ≤ m))
  pub when_28 : (x ≡ Refused 28 0) ↔ (y ≡ Accepted)
  pub when_29 : (x ≡ Refused 29 0) ↔ ((y ≡ Refused 14 0) × (m < n))
  pub others : (number place : ℕ) → ¬ (number ≡ 14) → y ≡ Refused number place → x ≡ Refused number place

apart : {n p : ℕ} → ¬ (Refused n p ≡ Accepted)
apart e = let z : ◌≡◌ {A = ℕ} 0 1 = cc in omega arith

number_of : {n p m q : ℕ} → Refused n p ≡ Refused m q → n ≡ m
number_of {n} {p} {m} e = let z : n ≡ m = cc in z

beside_read : (n m k p : ℕ) → k < 14 → Beside n m (Refused k p) (Refused k p)
beside_read n m k p l = record {
  when = (λ a. absurd (apart a), λ b. absurd (high 14 (omega arith) (number_of b.0)));
  when_28 = (λ a. absurd (high 28 (omega arith) (number_of a)), λ b. absurd (apart b));
  when_29 = (λ a. absurd (high 29 (omega arith) (number_of a)), λ b. absurd (high 14 (omega arith) (number_of b.0)));
  others = λ number place f e. e;
}
  where
    high : (j : ℕ) → 14 ≤ j → ¬ (k ≡ j)
    high j h e = omega arith

beside_28 : (n m : ℕ) → Beside n m (Refused 28 0) Accepted
beside_28 n m = record {
  when = (λ a. absurd (apart a), λ b. absurd (apart (sym b.0)));
  when_28 = (λ a. refl, λ b. refl);
  when_29 = (λ a. absurd (let z = number_of a in omega arith), λ b. absurd (apart (sym b.0)));
  others = λ number place f e. absurd (apart (sym e));
}

beside_29 : (n m : ℕ) → m < n → Beside n m (Refused 29 0) (Refused 14 0)
beside_29 n m l = record {
  when = (λ a. absurd (apart a), λ b. absurd (omega (arith, b.1)));
  when_28 = (λ a. absurd (let z = number_of a in omega arith), λ b. absurd (apart b));
  when_29 = (λ a. (refl, l), λ b. refl);
  others = λ number place f e. absurd (f (sym (number_of e)));
}

beside_marked : (n m : ℕ) → n ≤ m → Beside n m Accepted (Refused 14 0)
beside_marked n m l = record {
  when = (λ a. (refl, l), λ b. refl);
  when_28 = (λ a. absurd (apart (sym a)), λ b. absurd (apart b));
  when_29 = (λ a. absurd (apart (sym a)), λ b. absurd (omega (arith, b.1)));
  others = λ number place f e. absurd (f (sym (number_of e)));
}

pub clash_beside : (s : List ℕ) (room : ℕ) → Beside (rules_of s) room (clash_verdict s room) (check_image s)
clash_beside s room = go (told (verdict s)) (clashes s) (short s room) refl refl refl
  where
    both : {v : Verdict} {c l : Bool} → told (verdict s) ≡ v → clashes s ≡ c → short s room ≡ l
        → Beside (rules_of s) room (and_then v (and_then (refuse (not c) 28 0) (refuse l 29 0))) (and_then v (refuse c 14 0))
        → Beside (rules_of s) room (clash_verdict s room) (check_image s)
    both {v} {c} {l} e f g =
        subst₂ (Beside (rules_of s) room) (sym (verdict_by s room v c l e f g)) (sym (check_by s v c e f))

    go : (v : Verdict) (c l : Bool) → told (verdict s) ≡ v → clashes s ≡ c → short s room ≡ l
        → Beside (rules_of s) room (clash_verdict s room) (check_image s)
    go (Refused n p) c l e f g = both e f g (beside_read (rules_of s) room n p (read_below s n p e))
    go Accepted false l e f g = both e f g (beside_28 (rules_of s) room)
    go Accepted true true e f g = both e f g (beside_29 (rules_of s) room (ltb-true room (rules_of s) g))
    go Accepted true false e f g = both e f g (beside_marked (rules_of s) room (ltb-false room (rules_of s) g))
