-- What the writer of the filed form and the way back return, and what they leave in the lent byte tables (document 02, C-12 and
-- C-16).
use Rattle.std.specs.Prelude.{◌≡◌, Bool, not, ◌||◌, List, ℕ, ◌≤◌, ◌<◌, length, get_or, take, ltb, leb}
use Rattle.lists.specs.Lists.{any, repeats}
use Rattle.lists.specs.Sorting.{Sorted, sorted}
use Rattle.calls.specs.Verdicts.{Verdict}
use Rattle.layout.specs.Layout.{rules_of}
use Rattle.calls.specs.Verdicts.{refuse, and_then}
use Rattle.layout.specs.Reading.{program_in}
use Rattle.calls.specs.Outcomes.{Outcome, by_verdict}
use Rattle.calls.specs.Calls.{check_image, front, unless_refused, count_number}
use Rattle.calls.specs.Causes.{ImageCause}
use Rattle.writing.specs.Image.{image_of, pair_key}
use Rattle.filing.specs.Filed.{rule_key, filed_order, filed, typed}

-- ---- the writer

-- "an image's filed form"
unfoldable pub filed_image : List ℕ → List ℕ
filed_image s = image_of (filed (program_in s))

-- "the old number of each filed rule"
unfoldable pub old_numbers : List ℕ → List ℕ
old_numbers s = filed_order (program_in s).rules

-- 24: "output table too short for the image, checked after 14"; 25: "the number table holds fewer entries than there are
-- rules (after 24)"
unfoldable pub file_verdict : List ℕ → (room number_room : ℕ) → Verdict
file_verdict s room number_room =
    and_then (check_image s) (and_then (refuse (ltb room (length s)) 24 0) (refuse (ltb number_room (rules_of s)) 25 0))

-- "its length is returned"
unfoldable pub filed_by : List ℕ → (room number_room : ℕ) → Outcome ℕ
filed_by s room number_room = by_verdict (file_verdict s room number_room) (length (filed_image s))

-- "bytes past the result remain"; a refusal leaves "all tables .. as they were"
unfoldable pub file_table : List ℕ → List ℕ → (number_room : ℕ) → List ℕ
file_table s table number_room =
    unless_refused (file_verdict s (length table) number_room) (front (filed_image s) table) table

-- "Entries past the rule count remain."
unfoldable pub file_numbers : List ℕ → (room : ℕ) → List ℕ → List ℕ
file_numbers s room numbers =
    unless_refused (file_verdict s room (length numbers)) (front (old_numbers s) numbers) numbers

-- the call of the C library
abbrev pub file_call : List ℕ → (room number_room : ℕ) → ℕ
file_call s room number_room = count_number (filed_by s room number_room)

-- when each cause applies; by their numbers 24 and 25 are looked for after 14, in this order
pub data FileCause (image : List ℕ) (room number_room : ℕ) : (number place : ℕ) → Type 0 where
  of_image : {number place : ℕ} → ImageCause image number place → FileCause image room number_room number place
  -- "output table too short for the image"
  output : room < length image → FileCause image room number_room 24 0
  -- "the number table holds fewer entries than there are rules"
  number_table : number_room < rules_of image → FileCause image room number_room 25 0

-- ---- the way back

-- the numbers that are read: one for each rule
abbrev pub numbers_of : List ℕ → List ℕ → List ℕ
numbers_of s numbers = take (rules_of s) numbers

-- "the image with its rules in old order and its pairs sorted for it"
unfoldable pub typed_image : List ℕ → List ℕ → List ℕ
typed_image s numbers = image_of (typed (program_in s) (numbers_of s numbers))

-- "in filed form": "Rules ascend by kind byte, then head, then number of body literals, then body bytes; pairs are .. sorted."
pub record FiledForm (image : List ℕ) : Type 0 where
  pub rules_ascend : Sorted rule_key (program_in image).rules
  pub pairs_ascend : Sorted pair_key (program_in image).pairs

-- "a number out of range or used twice"
abbrev pub bad_numbers : (rules : ℕ) → List ℕ → Bool
bad_numbers n l = any (leb n) l || repeats l

-- "or the image isn't in filed form": the pairs of an accepted image ascend (13)
abbrev pub not_filed : List ℕ → Bool
not_filed s = not (sorted rule_key (program_in s).rules)

-- 26: "a number out of range or used twice, or the image isn't in filed form (for the new call: after 25)"
unfoldable pub unfile_verdict : List ℕ → List ℕ → (room : ℕ) → Verdict
unfile_verdict s numbers room =
    and_then (file_verdict s room (length numbers)) (refuse (bad_numbers (rules_of s) (numbers_of s numbers) || not_filed s) 26 0)

unfoldable pub unfiled_by : List ℕ → List ℕ → (room : ℕ) → Outcome ℕ
unfiled_by s numbers room = by_verdict (unfile_verdict s numbers room) (length (typed_image s numbers))

unfoldable pub unfile_table : List ℕ → List ℕ → List ℕ → List ℕ
unfile_table s numbers table =
    unless_refused (unfile_verdict s numbers (length table)) (front (typed_image s numbers) table) table

-- the call of the C library
abbrev pub unfile_call : List ℕ → List ℕ → (room : ℕ) → ℕ
unfile_call s numbers room = count_number (unfiled_by s numbers room)

-- by its number 26 is looked for after 25
pub data UnfileCause (image numbers : List ℕ) (room : ℕ) : (number place : ℕ) → Type 0 where
  of_file : {number place : ℕ} → FileCause image room (length numbers) number place → UnfileCause image numbers room number place
  -- "a number out of range", among those of the rules
  range : {i : ℕ} → i < rules_of image → rules_of image ≤ get_or numbers i 0 → UnfileCause image numbers room 26 0
  -- "or used twice"
  twice : {i j : ℕ} → i < j → j < rules_of image → get_or numbers i 0 ≡ get_or numbers j 0 → UnfileCause image numbers room 26 0
  -- "or the image isn't in filed form"
  form : ¬ FiledForm image → UnfileCause image numbers room 26 0
