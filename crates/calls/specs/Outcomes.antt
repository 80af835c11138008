-- What a call hands back, by document 01's numbers: what it is asked for, or the first cause that turns it away.
use Rattle.std.specs.Prelude.{◌≡◌, Bool, true, false, ℕ, Result, Ok, Err}
use Rattle.layout.specs.declared.Refusal.{Refusal}
use Rattle.layout.specs.Causes.{number_of}
use Rattle.calls.specs.Verdicts as verdicts
use Rattle.answer.specs.declared.Answer.{Answer}
use Rattle.answer.specs.Answer.{code_of, nodes_of}

-- what is asked for, or the number and the place of the cause
pub data Outcome (A : Type 0) : Type 0 where
  Given : A → Outcome A
  Refused : (number place : ℕ) → Outcome A

-- by a verdict
abbrev pub by_verdict : {A : Type 0} → verdicts.Verdict → A → Outcome A
by_verdict verdicts.Accepted a = Given a
by_verdict (verdicts.Refused number place) a = Refused number place

-- the outcome that a result tells
abbrev pub outcome_of : {A : Type 0} → Result A Refusal → Outcome A
outcome_of (Ok a) = Given a
outcome_of (Err r) = Refused (number_of r.cause) r.place

-- document 01's number of the cause that it names, and the cause's place: of one that gives what is asked for, neither
abbrev pub cause_in : {A : Type 0} → Outcome A → ℕ
cause_in (Given a) = 0
cause_in (Refused number place) = number

abbrev pub place_in : {A : Type 0} → Outcome A → ℕ
place_in (Given a) = 0
place_in (Refused number place) = place

-- the count or the length that is given, or the cause's place
abbrev pub value_in : Outcome ℕ → ℕ
value_in (Given n) = n
value_in (Refused number place) = place

-- the code and the nodes of the answer; a refusal is no answer and has neither
abbrev pub code_in : Outcome Answer → ℕ
code_in (Given a) = code_of a
code_in (Refused number place) = 0

abbrev pub nodes_in : Outcome Answer → ℕ
nodes_in (Given a) = nodes_of a
nodes_in (Refused number place) = 0
