-- What is claimed of the call that marks a clash (document 02, C-20); proofs/Claims.antt proves it for every image and every
-- table.
use Rattle.std.specs.Prelude.{◌≡◌, List, ◌↔◌, ℕ, ◌≤◌, ◌<◌, length, get_or}
use Rattle.lists.specs.Lists.{choose}
use Rattle.literals.specs.Sets.{has}
use Rattle.calls.specs.Verdicts.{Accepted, Refused}
use Rattle.layout.specs.Layout.{rules_of}
use Rattle.layout.specs.Reading.{program_in}
use Rattle.calls.specs.Calls.{check_image}
use Rattle.calls.specs.Filling.{Returns, Fills}
use Rattle.clash.specs.Clash.{Remains, Clash, clash_of}
use Rattle.clash.specs.Calls.{clash_verdict, marks_of, clashed_by, clash_table, clash_call, ClashCause}

-- what the bytes mark, where nothing is refused
pub record Marks (image table : List ℕ) : Type 0 where
  -- "1 marked, else 0"
  pub byte : (i : ℕ) → i < rules_of image
      → get_or (clash_table image table) i 0 ≡ choose (has (clash_of (program_in image).rules) i) 1 0
  pub is_clash : Clash (program_in image).rules (clash_of (program_in image).rules)
  -- the procedure leaves this set, and no other
  pub remains : (k : ℕ) → Remains (program_in image).rules k ↔ (k ≡ clash_of (program_in image).rules)

pub record SmallClash (image table : List ℕ) : Type 0 where
  -- the rule count is returned
  pub result : Returns (ClashCause image (length table)) (clash_verdict image (length table)) (rules_of image)
      (clashed_by image (length table)) (clash_call image (length table))
  pub bytes : Fills (clash_verdict image (length table)) (marks_of image) table (clash_table image table)
  pub one_for_each : length (marks_of image) ≡ rules_of image
  -- "for an image refused with 14"
  pub when : (clash_verdict image (length table) ≡ Accepted) ↔ ((check_image image ≡ Refused 14 0) × (rules_of image ≤ length table))
  pub when_28 : (clash_verdict image (length table) ≡ Refused 28 0) ↔ (check_image image ≡ Accepted)
  pub when_29 : (clash_verdict image (length table) ≡ Refused 29 0) ↔ ((check_image image ≡ Refused 14 0) × (length table < rules_of image))
  -- any other refusal of the check is the call's
  pub others : (number place : ℕ) → ¬ (number ≡ 14) → check_image image ≡ Refused number place
      → clash_verdict image (length table) ≡ Refused number place
  pub marks : clash_verdict image (length table) ≡ Accepted → Marks image table
