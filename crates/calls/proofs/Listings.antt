-- The list call, by what the check and the argument list's own part answer.
use mathlib.Core.Path.{◌≡◌, refl, sym, ap, ap₂, ◌∙◌}
use mathlib.Core.Bool.{Bool, true, false}
use mathlib.Core.List.{List}
use Prim.Native.Nat.{ℕ}
use native.Mathlib.Omega.{arith}
use lib.ListN.{length}
use lib.Dec.{leb, ltb}
use borrow.Author.Tests.{leb-true, leb-false, lt-ltb, le-ltb}
use Rattle.lists.specs.Lists.{choose}
use Rattle.std.specs.Prelude.{Option, Some, None}
use Rattle.std.specs.Option.{ok_or}
use Rattle.layout.specs.declared.Cause.TheVariants.{ArgumentTable}
use Rattle.listing.specs.Inside.Listing.{listed as listedIn, with_list}
use Rattle.calls.specs.Verdicts.{Verdict}
use Rattle.calls.specs.Verdicts as verdicts
use Rattle.calls.specs.Verdicts.{refuse, and_then}
use Rattle.calls.specs.Outcomes as outcomes
use Rattle.calls.specs.Outcomes.{by_verdict, outcome_of}
use Rattle.calls.specs.Calls.{check_image, list_in, list_verdict, listed, front, unless_refused, list_table}

module _ (s table : List ℕ) where
  list_by_lem : (v : Verdict) (b : Bool) → check_image s ≡ v → ltb (length table) (length (list_in s)) ≡ b → list_verdict s (length table) ≡ and_then v (refuse b 23 0)
  unfolding list_verdict
  list_by_lem v b e f = ap₂ (λ (w : Verdict) (t : Bool). and_then w (refuse t 23 0)) e f

  outcome : (v : Verdict) → list_verdict s (length table) ≡ v → (listed s (length table) ≡ by_verdict v (length (list_in s))) × (list_table s table ≡ unless_refused v (front (list_in s) table) table)
  unfolding listed list_table
  outcome v e = (ap (λ (w : Verdict). by_verdict w (length (list_in s))) e, ap (λ (w : Verdict). unless_refused w (front (list_in s) table) table) e)

  pub list_refused : (n k : ℕ) → check_image s ≡ verdicts.Refused n k → (outcomes.Refused n k ≡ listed s (length table)) × (table ≡ list_table s table)
  list_refused n k e = let o = outcome _ (list_by_lem (verdicts.Refused n k) _ e refl) in (sym o.0, sym o.1)

  module _ (accepted : check_image s ≡ verdicts.Accepted) where
    -- the part's answer, by whether the list fits
    fits : (b : Bool) → leb (length (list_in s)) (length table) ≡ b → (listedIn (list_in s) table ≡ choose b (Some (length (list_in s))) None) × (with_list (list_in s) table ≡ choose b (front (list_in s) table) table)
    fits b e = (
      ap (λ (t : Bool). choose t (Some (length (list_in s))) None) e,
      ap (λ (t : Bool). choose t (front (list_in s) table) table) e,
    )

    pub list_over : listedIn (list_in s) table ≡ None → (outcomes.Refused 23 0 ≡ listed s (length table)) × (with_list (list_in s) table ≡ list_table s table)
    list_over e = go (leb (length (list_in s)) (length table)) refl
      where
        go : (b : Bool) → leb (length (list_in s)) (length table) ≡ b → (outcomes.Refused 23 0 ≡ listed s (length table)) × (with_list (list_in s) table ≡ list_table s table)
        go true q = let f = (fits true q).0 in absurd (let z : ◌≡◌ {A = ℕ} 0 1 = cc in omega arith)
        go false q =
            let o = outcome _ (list_by_lem verdicts.Accepted true accepted (lt-ltb (length table) (length (list_in s)) (leb-false _ _ q))) in
            (sym o.0, (fits false q).1 ∙ sym o.1)

    pub list_count : (n : ℕ) → listedIn (list_in s) table ≡ Some n → (outcomes.Given n ≡ listed s (length table)) × (with_list (list_in s) table ≡ list_table s table)
    list_count n e = go (leb (length (list_in s)) (length table)) refl
      where
        go : (b : Bool) → leb (length (list_in s)) (length table) ≡ b → (outcomes.Given n ≡ listed s (length table)) × (with_list (list_in s) table ≡ list_table s table)
        go true q =
            let o = outcome _ (list_by_lem verdicts.Accepted false accepted (le-ltb (length table) (length (list_in s)) (leb-true _ _ q))) in
            let f = (fits true q).0 in
            let m : n ≡ length (list_in s) = cc in
            (ap outcomes.Given m ∙ sym o.0, (fits true q).1 ∙ sym o.1)
        go false q = let f = (fits false q).0 in absurd (let z : ◌≡◌ {A = ℕ} 0 1 = cc in omega arith)

    -- the part's answer made a result
    pub list_done : (o : Option ℕ) → o ≡ listedIn (list_in s) table → (outcome_of (ok_or o (record { cause = ArgumentTable; place = 0 })) ≡ listed s (length table)) × (with_list (list_in s) table ≡ list_table s table)
    list_done (Some n) e = list_count n (sym e)
    list_done None e = list_over (sym e)
