-- What is claimed of the filed form of an accepted image holds.
use mathlib.Core.Path.{◌≡◌, sym, ap, ◌∙◌, subst}
use mathlib.Core.List.{List}
use mathlib.Core.Logic.{◌↔◌}
use Prim.Native.Nat.{ℕ, ◌<◌, ◌≤◌}
use native.Mathlib.Omega.{arith}
use lib.ListN.{length, get_or}
use Rattle.lists.specs.Sorting.{Sorted}
use Rattle.program.specs.Program.{Rule, Program, fact, rule_at}
use Rattle.calls.specs.Verdicts.{Accepted}
use Rattle.layout.specs.Layout.{rules_of}
use Rattle.layout.specs.Reading.{program_in}
use Rattle.calls.specs.Calls.{check_image}
use Rattle.writing.specs.Image.{Bytes, image_of, pair_key}
use Rattle.writing.proofs.Reading.{image_program}
use Rattle.writing.proofs.Written.{rule_count_lem}
use Rattle.filing.specs.Filed.{rule_key, filed_order, filed}
use Rattle.filing.specs.Content.{SameContent}
use Rattle.lists.specs.Inside.Numbering.{Numbering}
use Rattle.lists.proofs.Numberings.{numbering_length}
use Rattle.lists.proofs.Places.{there, get_d_map}
use Rattle.filing.proofs.Orders.{ordered_rules, ordered_length}
use Rattle.filing.specs.Calls.{filed_image, old_numbers, FiledForm}
use Rattle.filing.specs.Claims.{AcceptedImage, AnsweredAs, Files}
use Rattle.filing.proofs.Reordering.{reads, wellformed, moved_accepted, moved_bytes, moved_long, moved_short, moved_answered}
use Rattle.filing.proofs.Contents.{filed_numbering, filed_rules_sorted, filed_pairs_sorted, filed_content, filed_same, filed_twice}

module _ (s : List ℕ) (a : AcceptedImage s) where
  pub numbering : Numbering (length (program_in s).rules) (filed_order (program_in s).rules)
  numbering = filed_numbering (program_in s) (wellformed s a)

  pub holds : program_in (filed_image s) ≡ filed (program_in s)
  unfolding filed_image
  holds = image_program (filed (program_in s))

  filed_accepted : check_image (filed_image s) ≡ Accepted
  unfolding filed_image filed
  filed_accepted = moved_accepted s a (filed_order (program_in s).rules) numbering

  filed_bytes : Bytes (filed_image s)
  unfolding filed_image filed
  filed_bytes = moved_bytes s a (filed_order (program_in s).rules) numbering

  pub filed_short : length (filed_image s) ≤ 1836
  unfolding filed_image filed
  filed_short = moved_short s a (filed_order (program_in s).rules) numbering

  pub long : length (filed_image s) ≡ length s
  unfolding filed_image filed
  long = moved_long s a (filed_order (program_in s).rules) numbering

  filed_answered : AnsweredAs s (filed_image s)
  unfolding filed_image filed
  filed_answered = moved_answered s a (filed_order (program_in s).rules) numbering

  filed_again : filed_image (filed_image s) ≡ filed_image s
  unfolding filed_image
  filed_again = ap image_of (ap filed holds ∙ filed_twice (program_in s) (wellformed s a))

  filed_form : FiledForm (filed_image s)
  filed_form = record {
    rules_ascend = subst (λ (p : Program). Sorted rule_key p.rules) (sym holds) (filed_rules_sorted (program_in s) (wellformed s a));
    pairs_ascend = subst (λ (p : Program). Sorted pair_key p.pairs) (sym holds) (filed_pairs_sorted (program_in s) (wellformed s a));
  }

  pub old_numbering : Numbering (rules_of s) (old_numbers s)
  unfolding old_numbers
  old_numbering =
      subst (λ (n : ℕ). Numbering n (filed_order (program_in s).rules)) (rule_count_lem s (reads s a)) numbering

  pub numbers_long : length (old_numbers s) ≡ rules_of s
  numbers_long = numbering_length (rules_of s) (old_numbers s) old_numbering

  pub filed_count : length (program_in (filed_image s)).rules ≡ rules_of s
  unfolding filed old_numbers
  filed_count =
      ap (λ (p : Program). length p.rules) holds
      ∙ ordered_length (program_in s) (filed_order (program_in s).rules) numbering (wellformed s a)
      ∙ numbers_long

  -- "the old number of each filed rule"
  old_number : (i : ℕ) → i < rules_of s
      → (get_or (old_numbers s) i 0 < rules_of s)
      × (rule_at (program_in (filed_image s)).rules i ≡ rule_at (program_in s).rules (get_or (old_numbers s) i 0))
  unfolding old_numbers filed
  old_number i h =
      let l = numbers_long in (
        old_numbering.below (get_or (old_numbers s) i 0) (there 0 (old_numbers s) i (omega arith)),
        ap (λ (p : Program). rule_at p.rules i) holds
            ∙ ap (λ (r : List Rule). rule_at r i) (ordered_rules (program_in s) (filed_order (program_in s).rules))
            ∙ get_d_map 0 (rule_at (program_in s).rules) (filed_order (program_in s).rules) i (fact 0) (omega arith),
      )

  pub files : Files s
  files = record {
    accepted = filed_accepted;
    bytes = filed_bytes;
    as_long = long;
    in_form = filed_form;
    same_content = subst (SameContent (program_in s)) (sym holds) (filed_content (program_in s) (wellformed s a));
    twice = filed_again;
    answered = filed_answered;
    one_for_each = numbers_long;
    old_number = old_number;
  }

same_image : (s t : List ℕ) → filed (program_in s) ≡ filed (program_in t) → filed_image s ≡ filed_image t
unfolding filed_image
same_image s t e = ap image_of e

pub files_same : (s t : List ℕ) → AcceptedImage s → AcceptedImage t → (filed_image s ≡ filed_image t) ↔ SameContent (program_in s) (program_in t)
files_same s t a b = (
  λ e. (filed_same (program_in s) (program_in t) (wellformed s a) (wellformed t b)).0 (sym (holds s a) ∙ ap program_in e ∙ holds t b),
  λ c. same_image s t ((filed_same (program_in s) (program_in t) (wellformed s a) (wellformed t b)).1 c),
)
