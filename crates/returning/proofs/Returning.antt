-- The three ways out: the writer refuses, the way back refuses, and neither does.
use mathlib.Core.Path.{◌≡◌, refl, sym, ap, ap₂, ◌∙◌}
use mathlib.Core.Bool.{Bool, true, false, ◌&&◌}
use mathlib.Core.List.{List}
use Prim.Native.Nat.{ℕ, ◌≤◌, ◌<◌}
use native.Mathlib.Decide.{dec_le}
use native.Mathlib.Omega.{arith}
use lib.Dec.{eqb, leb}
use lib.ListN.{length, take}
use lib.Seq.{length-take-le}
use borrow.Author.Tests.{ne_eqb, le-leb, lt-leb}
use Rattle.calls.specs.Verdicts.{Verdict, Accepted, Refused}
use Rattle.layout.specs.Layout.{rules_of}
use Rattle.calls.specs.Verdicts.{cause_of}
use Rattle.writing.specs.Image.{Bytes}
use Rattle.calls.specs.Outcomes as outcomes
use Rattle.std.specs.Prelude.{Result, Ok, Err}
use Rattle.std.specs.Result.{is_ok}
use Rattle.lists.specs.Lists.{choose}
use Rattle.layout.specs.declared.Refusal.{Refusal}
use Rattle.layout.specs.Causes.{number_of}
use Rattle.calls.specs.Outcomes.{by_verdict, outcome_of}
use Rattle.calls.specs.Calls.{check_image, front}
use Rattle.filing.specs.Calls.{filed_image, file_verdict, filed_by, file_table, file_numbers, typed_image, unfile_verdict, unfiled_by, unfile_table}
use Rattle.filing.specs.Claims.{form_left, RoundTrip}
use Rattle.filing.proofs.Claims.{filing}
use Rattle.filing.proofs.Refusals.{file_accepted, file_small, unfile_accepted}
use Rattle.returning.specs.Returning.{comes_back}

-- ---- a verdict from the result

by_refusal : (v : Verdict) (count n p : ℕ) → by_verdict v count ≡ outcomes.Refused n p → v ≡ Refused n p
by_refusal Accepted count n p e = absurd (let z : ◌≡◌ {A = ℕ} 0 1 = cc in omega arith)
by_refusal (Refused m q) count n p e =
    let x : m ≡ n = cc in
    let y : q ≡ p = cc in
    ap₂ Refused x y

by_length : (v : Verdict) (count n : ℕ) → by_verdict v count ≡ outcomes.Given n → v ≡ Accepted
by_length Accepted count n e = refl
by_length (Refused m q) count n e = absurd (let z : ◌≡◌ {A = ℕ} 0 1 = cc in omega arith)

-- ---- the writer

module _ (s form numbers back : List ℕ) where
  abbrev verdict : Verdict
  verdict = file_verdict s (length form) (length numbers)

  abbrev result : Bool
  result = comes_back s (length form) (length numbers) (length back)

  pub turned_away : (n p : ℕ) → filed_by s (length form) (length numbers) ≡ outcomes.Refused n p → false ≡ result
  unfolding filed_by comes_back
  turned_away n p e =
      let v = by_refusal verdict (length (filed_image s)) n p e in
      let h = (file_small s (length form) (length numbers) n p v).0 in
      sym (ap (λ (b : Bool). b && leb (length s) (length back)) (ap (λ (w : Verdict). eqb (cause_of w) 0) v ∙ ne_eqb n 0 (λ z. omega arith)))

  pub filed : (n : ℕ) → filed_by s (length form) (length numbers) ≡ outcomes.Given n → verdict ≡ Accepted
  unfolding filed_by
  filed n e = by_length verdict (length (filed_image s)) n e

  pub room : verdict ≡ Accepted → length s ≤ length form
  room v = (file_accepted s (length form) (length numbers) v).1

  -- ---- the way back

  module _ (v : verdict ≡ Accepted) (bytes : Bytes s) (after given part : List ℕ) (e : after ≡ file_table s form (length numbers))
      (f : given ≡ file_numbers s (length form) numbers) (g : part ≡ take (length s) after) where
    accepted : (check_image s ≡ Accepted) × (length s ≤ length form) × (rules_of s ≤ length numbers)
    accepted = file_accepted s (length form) (length numbers) v

    part_is : part ≡ form_left s form numbers
    part_is = g ∙ ap (take (length s)) e

    part_long : length part ≡ length s
    part_long =
        ap (λ (l : List ℕ). length l) g
        ∙ length-take-le (length s) after
        (let l = ap (λ (x : List ℕ). length x) e ∙ (filing.of_file s form numbers).form.as_long in let h = accepted.1 in omega arith)

    given_long : length given ≡ length numbers
    given_long = ap (λ (l : List ℕ). length l) f ∙ (filing.of_file s form numbers).old.as_long

    trip : length s ≤ length back → RoundTrip s form numbers given back
    trip h =
        filing.there_and_back s form numbers given back accepted.0 bytes accepted.1 accepted.2 h
        (let k = accepted.2 in omega (arith, given_long)) (ap (take (rules_of s)) f)

    by_room : (b : Bool) → leb (length s) (length back) ≡ b → result ≡ b
    unfolding comes_back
    by_room b h = ap₂ (λ (w : Verdict) (c : Bool). eqb (cause_of w) 0 && c) v h

    pub stays_there : (n p : ℕ) → unfiled_by part given (length back) ≡ outcomes.Refused n p
        → (false ≡ result) × (unfile_table part given back ≡ back)
    unfolding unfiled_by
    stays_there n p h = (
      sym (by_room false (lt-leb (length s) (length back) short)),
      (filing.of_unfile part given back).form.left n p (by_refusal (unfile_verdict part given (length back)) (length (typed_image part given)) n p h),
    )
      where
        not_both : (m : ℕ) → outcomes.Refused n p ≡ outcomes.Given m → ⊥
        not_both m q = let z : ◌≡◌ {A = ℕ} 0 1 = cc in omega arith

        short : length back < length s
        short = go (dec_le (length s) (length back))
          where
            go : Dec (length s ≤ length back) → length back < length s
            go (yes k) =
                absurd (not_both (length s) (sym h ∙ ap (λ (l : List ℕ). unfiled_by l given (length back)) part_is ∙ (trip k).and_back.0))
            go (no k) = omega arith

    pub comes_back_lem : (n : ℕ) → unfiled_by part given (length back) ≡ outcomes.Given n
        → (true ≡ result) × (unfile_table part given back ≡ front s back)
    unfolding unfiled_by
    comes_back_lem n h =
        let u = by_length (unfile_verdict part given (length back)) (length (typed_image part given)) n h in
        let k : length s ≤ length back = let r = (unfile_accepted part given (length back) u).1 in omega (arith, part_long) in (
          sym (by_room true (le-leb (length s) (length back) k)),
          ap (λ (l : List ℕ). unfile_table l given back) part_is ∙ (trip k).exact,
        )

    -- either way
    pub done : (r : Result ℕ Refusal) → unfiled_by part given (length back) ≡ outcome_of r
        → (is_ok r ≡ result) × (unfile_table part given back ≡ choose (is_ok r) (front s back) back)
    done (Ok n) h = comes_back_lem n h
    done (Err r) h = stays_there (number_of r.cause) r.place h
