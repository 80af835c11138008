-- What the call that marks a clash returns, and what it leaves in the lent byte table (document 02, C-20).
use Rattle.std.specs.Prelude.{not, List, ℕ, ◌<◌, length, ltb}
use Rattle.program.specs.Program.{Π}
use Rattle.calls.specs.Verdicts.{Verdict}
use Rattle.layout.specs.Layout.{rules_of}
use Rattle.layout.specs.Causes.{verdict}
use Rattle.calls.specs.Verdicts.{told, refuse, and_then}
use Rattle.layout.specs.Reading.{program_in}
use Rattle.derivation.specs.Closure.{contradictory}
use Rattle.calls.specs.Outcomes.{Outcome, by_verdict}
use Rattle.calls.specs.Calls.{front, unless_refused, count_number}
use Rattle.calls.specs.Causes.{ImageCause}
use Rattle.clash.specs.Clash.{clash_of, marks_from}

-- "28, the image is accepted; 29, the byte table is shorter than the rule count. Both come where 14 stood, 28 first"
unfoldable pub clash_verdict : List ℕ → (room : ℕ) → Verdict
clash_verdict s room =
    and_then (told (verdict s))
    (and_then (refuse (not (contradictory (Π (program_in s).rules))) 28 0) (refuse (ltb room (rules_of s)) 29 0))

-- "One byte for each rule"
unfoldable pub marks_of : List ℕ → List ℕ
marks_of s = marks_from (clash_of (program_in s).rules) 0 (rules_of s)

-- the rule count is how many bytes are written
unfoldable pub clashed_by : List ℕ → (room : ℕ) → Outcome ℕ
clashed_by s room = by_verdict (clash_verdict s room) (rules_of s)

-- "bytes past the rule count remain"; "every refusal leaves the byte table alone"
unfoldable pub clash_table : List ℕ → List ℕ → List ℕ
clash_table s table = unless_refused (clash_verdict s (length table)) (front (marks_of s) table) table

-- the call of the C library
abbrev pub clash_call : List ℕ → (room : ℕ) → ℕ
clash_call s room = count_number (clashed_by s room)

-- when each cause applies; by their numbers 28 and 29 are looked for after 1 to 13, where 14 stood
pub data ClashCause (image : List ℕ) (room : ℕ) : (number place : ℕ) → Type 0 where
  of_image : {number place : ℕ} → number < 14 → ImageCause image number place → ClashCause image room number place
  -- "the image is accepted"
  accepted : ((number place : ℕ) → ¬ ImageCause image number place) → ClashCause image room 28 0
  -- "the byte table is shorter than the rule count"
  mark_table : room < rules_of image → ClashCause image room 29 0
