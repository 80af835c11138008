-- What is claimed of a call that fills lent byte tables, from its verdict.
use mathlib.Core.Path.{◌≡◌, refl, ap}
use mathlib.Core.Bool.{Bool, true, false}
use mathlib.Core.List.{List}
use Prim.Native.Nat.{ℕ, ◌≤◌, ◌<◌}
use native.Mathlib.Omega.{arith}
use lib.ListN.{length, drop}
use lib.Seq.{take_at, drop_at}
use Rattle.calls.specs.Verdicts.{Verdict, Accepted, Refused}
use Rattle.calls.specs.Verdicts.{refuse, and_then}
use Rattle.nodes.proofs.Rows.{front_length}
use Rattle.calls.specs.Outcomes.{by_verdict}
use Rattle.calls.specs.Calls.{check_image, front, unless_refused, count_number}
use Rattle.calls.specs.Causes.{Judged}
use Rattle.calls.specs.Filling.{Returns, Fills}
use Rattle.calls.proofs.Refusals.{check_refused}

-- ---- numbers and places that a result can carry

abbrev pub Small : Verdict → Type 0
Small v = (number place : ℕ) → v ≡ Refused number place → (1 ≤ number) × (place < 0x1_0000_0000)

pub small_check : (s : List ℕ) → Small (check_image s)
small_check s number place e = let r = check_refused s number place e in (r.0, omega (arith, r.2))

pub small_refuse : (b : Bool) (n : ℕ) → 1 ≤ n → Small (refuse b n 0)
small_refuse true n h number place e =
    let x : n ≡ number = cc in
    let y : 0 ≡ place = cc in
    (omega arith, omega arith)
small_refuse false n h number place e = absurd (let z : ◌≡◌ {A = ℕ} 0 1 = cc in omega arith)

pub small_then : (a v : Verdict) → Small a → Small v → Small (and_then a v)
small_then Accepted v f g = g
small_then (Refused n p) v f g = f

-- ---- the result

pub returns : (Cause : (number place : ℕ) → Type 0) (v : Verdict) (count : ℕ) → Judged Cause v → (v ≡ Accepted → count < 0x1_0000_0000)
    → Small v → Returns Cause v count (by_verdict v count) (count_number (by_verdict v count))
returns Cause Accepted count judged few small = record {
  judged = judged;
  writes = λ e. (refl, omega arith);
  refused = λ number place e. absurd (let z : ◌≡◌ {A = ℕ} 0 1 = cc in omega arith);
  told = (λ e. omega (arith, few refl), λ h. refl);
}
returns Cause (Refused n p) count judged few small = record {
  judged = judged;
  writes = λ e. absurd (let z : ◌≡◌ {A = ℕ} 0 1 = cc in omega arith);
  refused = λ number place e.
      let x : n ≡ number = cc in
      let y : p ≡ place = cc in
      let r = (small n p refl).1 in
      (ap (λ (w : Verdict). by_verdict w count) e, (omega arith, omega arith));
  told = (λ e. absurd (let z : ◌≡◌ {A = ℕ} 0 1 = cc in omega arith), λ h. absurd (omega (arith, (small n p refl).0)));
}

-- ---- a table

pub fills : (v : Verdict) (content table : List ℕ) → (v ≡ Accepted → length content ≤ length table)
    → Fills v content table (unless_refused v (front content table) table)
fills Accepted content table room = record {
  front_written = λ e. take_at content (drop (length content) table) (length content) refl;
  past_kept = λ e. drop_at content (drop (length content) table) (length content) refl;
  left = λ number place e. absurd (let z : ◌≡◌ {A = ℕ} 0 1 = cc in omega arith);
  as_long = front_length content table (room refl);
}
fills (Refused n p) content table room = record {
  front_written = λ e. absurd (let z : ◌≡◌ {A = ℕ} 0 1 = cc in omega arith);
  past_kept = λ e. absurd (let z : ◌≡◌ {A = ℕ} 0 1 = cc in omega arith);
  left = λ number place e. refl;
  as_long = refl;
}
