-- What is claimed of filed images, of images in typed order, and of the calls that write them (document 02, C-12 and C-16);
-- proofs/Claims.antt proves it.
use Rattle.std.specs.Prelude.{◌≡◌, ◌↔◌, ℕ, ◌≤◌, ◌<◌, length, get_or, take}
use mathlib.Core.List.{List, Memᴰ}
use Rattle.lists.specs.Sorting.{Sorted}
use Rattle.program.specs.Program.{rule_at}
use Rattle.calls.specs.Verdicts.{Accepted}
use Rattle.layout.specs.Layout.{rules_of}
use Rattle.layout.specs.Reading.{program_in}
use Rattle.writing.specs.Image.{Bytes, pair_key}
use Rattle.answer.specs.Answer.{node_count, tests}
use Rattle.calls.specs.Outcomes as outcomes
use Rattle.calls.specs.Calls.{check_image, front, listed, list_call, queried, host_call, trees_call, Call, verdict_of, code_from, nodes_from}
use Rattle.calls.specs.Filling.{Returns, Fills}
use Rattle.filing.specs.Content.{SameContent}
use Rattle.filing.specs.Calls.{filed_image, old_numbers, file_verdict, filed_by, file_table, file_numbers, file_call, FileCause}
use Rattle.filing.specs.Calls.{numbers_of, typed_image, FiledForm, unfile_verdict, unfiled_by, unfile_table, unfile_call, UnfileCause}

-- an accepted image: checking it finds no cause
abbrev pub AcceptedImage : List ℕ → Type 0
AcceptedImage s = check_image s ≡ Accepted

-- one image is answered as another is: "give the same refusal or answer and N for every literal and budget, though entries may
-- stand elsewhere", with tables of the same lengths
pub record AnsweredAs (s t : List ℕ) : Type 0 where
  pub queries : (h budget argument_room node_room : ℕ)
      → queried t h budget argument_room node_room ≡ queried s h budget argument_room node_room
  pub trees : (h budget argument_room node_room : ℕ)
      → trees_call t h budget argument_room node_room ≡ trees_call s h budget argument_room node_room
  pub hosts : (h budget : ℕ) → host_call t h budget ≡ host_call s h budget
  -- the same of every call that gives a literal's answer
  pub calls : (c : Call) → (verdict_of t c ≡ verdict_of s c) × (code_from t c ≡ code_from s c) × (nodes_from t c ≡ nodes_from s c)
  -- N itself, where an answer does not show it too
  pub nodes : (h : ℕ) → node_count (tests (program_in t)) h ≡ node_count (tests (program_in s)) h
  -- and lists
  pub lists : (room : ℕ) → (listed t room ≡ listed s room) × (list_call t room ≡ list_call s room)

-- the filed form of an accepted image
pub record Files (s : List ℕ) : Type 0 where
  -- "The reader accepts the result."
  pub accepted : AcceptedImage (filed_image s)
  pub bytes : Bytes (filed_image s)
  pub as_long : length (filed_image s) ≡ length s
  -- "Rules ascend by kind byte, then head, then number of body literals, then body bytes; pairs are renumbered and sorted."
  pub in_form : FiledForm (filed_image s)
  pub same_content : SameContent (program_in s) (program_in (filed_image s))
  pub twice : filed_image (filed_image s) ≡ filed_image s
  -- "Queries on the filed form .. give the same refusal or answer and N"
  pub answered : AnsweredAs s (filed_image s)
  -- "the old number of each filed rule"
  pub one_for_each : length (old_numbers s) ≡ rules_of s
  pub old_number : (i : ℕ) → i < rules_of s
      → (get_or (old_numbers s) i 0 < rules_of s)
      × (rule_at (program_in (filed_image s)).rules i ≡ rule_at (program_in s).rules (get_or (old_numbers s) i 0))

-- the image that a filed image and numbers give, where no cause applies
pub record Returned (s numbers : List ℕ) : Type 0 where
  -- the reader accepts it
  pub accepted : AcceptedImage (typed_image s numbers)
  pub bytes : Bytes (typed_image s numbers)
  pub as_long : length (typed_image s numbers) ≡ length s
  -- "with its rules in old order"
  pub old_order : (i : ℕ) → i < rules_of s
      → rule_at (program_in (typed_image s numbers)).rules (get_or numbers i 0) ≡ rule_at (program_in s).rules i
  -- "and its pairs sorted for it"
  pub pairs_moved : (i j : ℕ) → i < rules_of s → j < rules_of s
      → Memᴰ (i, j) (program_in s).pairs ↔ Memᴰ (get_or numbers i 0, get_or numbers j 0) (program_in (typed_image s numbers)).pairs
  pub pairs_ascend : Sorted pair_key (program_in (typed_image s numbers)).pairs
  pub answered : AnsweredAs s (typed_image s numbers)
  -- filing it gives back the image and the numbers
  pub filed_again : Bytes s → filed_image (typed_image s numbers) ≡ s
  pub numbers_again : old_numbers (typed_image s numbers) ≡ numbers_of s numbers

-- the writer, on every image and with every two tables
pub record Writes (image table numbers : List ℕ) : Type 0 where
  pub result : Returns (FileCause image (length table) (length numbers)) (file_verdict image (length table) (length numbers))
      (length (filed_image image)) (filed_by image (length table) (length numbers)) (file_call image (length table) (length numbers))
  pub form : Fills (file_verdict image (length table) (length numbers))
      (filed_image image) table (file_table image table (length numbers))
  pub old : Fills (file_verdict image (length table) (length numbers))
      (old_numbers image) numbers (file_numbers image (length table) numbers)
  pub room_enough : AcceptedImage image → length image ≤ length table → rules_of image ≤ length numbers
      → file_verdict image (length table) (length numbers) ≡ Accepted

-- the way back, on every image, with all numbers and every table
pub record WritesBack (image numbers table : List ℕ) : Type 0 where
  pub result : Returns (UnfileCause image numbers (length table)) (unfile_verdict image numbers (length table))
      (length (typed_image image numbers)) (unfiled_by image numbers (length table)) (unfile_call image numbers (length table))
  pub form : Fills (unfile_verdict image numbers (length table))
      (typed_image image numbers) table (unfile_table image numbers table)
  pub of_result : unfile_verdict image numbers (length table) ≡ Accepted → Returned image numbers

-- what the writer leaves at the front of its two tables
abbrev pub form_left : (image table numbers : List ℕ) → List ℕ
form_left image table numbers = take (length image) (file_table image table (length numbers))

abbrev pub numbers_left : (image table numbers : List ℕ) → List ℕ
numbers_left image table numbers = take (rules_of image) (file_numbers image (length table) numbers)

-- "For every accepted image, filing and then this call give back its exact bytes.": the call gets the filed form, and a table that
-- begins with the numbers
pub record RoundTrip (image table numbers given back : List ℕ) : Type 0 where
  pub there : (filed_by image (length table) (length numbers) ≡ outcomes.Given (length image))
      × (file_call image (length table) (length numbers) ≡ length image)
  pub and_back : (unfiled_by (form_left image table numbers) given (length back) ≡ outcomes.Given (length image))
      × (unfile_call (form_left image table numbers) given (length back) ≡ length image)
  pub exact : unfile_table (form_left image table numbers) given back ≡ front image back

pub record Filing : Type 0 where
  pub of_each : (s : List ℕ) → AcceptedImage s → Files s
  -- "Two accepted images give equal bytes exactly when they hold the same atom count, the same rules and the same listed
  -- pairs between those rules."
  pub of_two : (s t : List ℕ) → AcceptedImage s → AcceptedImage t
      → (filed_image s ≡ filed_image t) ↔ SameContent (program_in s) (program_in t)
  -- an image is in filed form exactly if filing changes nothing
  pub in_form : (s : List ℕ) → AcceptedImage s → Bytes s → FiledForm s ↔ (filed_image s ≡ s)
  pub of_file : (image table numbers : List ℕ) → Writes image table numbers
  pub of_unfile : (image numbers table : List ℕ) → WritesBack image numbers table
  pub there_and_back : (image table numbers given back : List ℕ) → AcceptedImage image → Bytes image
      → length image ≤ length table → rules_of image ≤ length numbers → length image ≤ length back
      → rules_of image ≤ length given → take (rules_of image) given ≡ numbers_left image table numbers
      → RoundTrip image table numbers given back
