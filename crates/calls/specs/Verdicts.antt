-- Verdicts by document 01's numbers: a call is accepted, or refused by the first cause that applies.
use Rattle.std.specs.Prelude.{Bool, true, false, ℕ, Result, Ok, Err}
use Rattle.layout.specs.declared.Refusal.{Refusal}
use Rattle.layout.specs.Causes.{number_of}

-- accepted, or the number and the place of the first cause that applies
pub data Verdict : Type 0 where
  Accepted : Verdict
  Refused : (number place : ℕ) → Verdict

-- the verdict that a result tells, whatever comes with an acceptance
abbrev pub told : {A : Type 0} → Result A Refusal → Verdict
told (Ok a) = Accepted
told (Err r) = Refused (number_of r.cause) r.place

-- the number of the cause that a verdict names, and the cause's place: of one that accepts, neither
abbrev pub cause_of : Verdict → ℕ
cause_of Accepted = 0
cause_of (Refused number place) = number

abbrev pub place_of : Verdict → ℕ
place_of Accepted = 0
place_of (Refused number place) = place

-- a cause with its number and its place, where it applies
abbrev pub refuse : Bool → ℕ → ℕ → Verdict
refuse true number place = Refused number place
refuse false number place = Accepted

-- "Checked in the order listed": the first of two that refuses
abbrev pub and_then : Verdict → Verdict → Verdict
and_then Accepted v = v
and_then (Refused n p) v = Refused n p
