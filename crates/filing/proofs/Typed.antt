-- What is claimed of an image in typed order holds, and when filing changes nothing.
use mathlib.Core.Path.{◌≡◌, sym, ap, ap₂, ◌∙◌, subst}
use mathlib.Core.List.{List, Memᴰ}
use mathlib.Core.Logic.{◌↔◌}
use Prim.Native.Nat.{ℕ, ◌<◌, ◌≤◌}
use native.Mathlib.Omega.{arith}
use lib.ListN.{length, get_or}
use lib.Seq.{get_or-take}
use Rattle.lists.specs.Lists.{inverse}
use Rattle.lists.specs.Sorting.{Sorted}
use Rattle.lists.specs.Inside.Numbering.{Numbering}
use Rattle.lists.proofs.Numberings.{inverse_numbering}
use Rattle.program.specs.Program.{Program, rule_at}
use Rattle.layout.specs.Layout.{rules_of}
use Rattle.layout.specs.Reading.{program_in}
use Rattle.writing.specs.Image.{Bytes, image_of, pair_key}
use Rattle.writing.proofs.Reading.{image_program}
use Rattle.writing.proofs.Written.{image_written, rule_count_lem}
use Rattle.filing.specs.Filed.{rule_key, filed_order, filed, typed}
use Rattle.filing.specs.Calls.{filed_image, old_numbers, numbers_of, typed_image, FiledForm}
use Rattle.filing.specs.Claims.{AcceptedImage, AnsweredAs, Returned}
use Rattle.filing.proofs.Back.{filed_typed, typed_rules, typed_pairs, typed_pairs_sorted, typed_order, typed_filed, filed_itself}
use Rattle.filing.proofs.Reordering.{reads, writable, wellformed, moved_accepted, moved_bytes, moved_long, moved_short, moved_answered}
use Rattle.filing.proofs.Filed.{holds, files}

-- ---- back

module _ (s numbers : List ℕ) (a : AcceptedImage s) (o : Numbering (rules_of s) (numbers_of s numbers)) where
  many : length (program_in s).rules ≡ rules_of s
  many = rule_count_lem s (reads s a)

  numbering : Numbering (length (program_in s).rules) (numbers_of s numbers)
  numbering = subst (λ (n : ℕ). Numbering n (numbers_of s numbers)) (sym many) o

  order : Numbering (length (program_in s).rules) (inverse (numbers_of s numbers))
  order = inverse_numbering (length (program_in s).rules) (numbers_of s numbers) numbering

  typed_holds : program_in (typed_image s numbers) ≡ typed (program_in s) (numbers_of s numbers)
  unfolding typed_image
  typed_holds = image_program (typed (program_in s) (numbers_of s numbers))

  typed_accepted : AcceptedImage (typed_image s numbers)
  unfolding typed_image typed
  typed_accepted = moved_accepted s a (inverse (numbers_of s numbers)) order

  typed_bytes : Bytes (typed_image s numbers)
  unfolding typed_image typed
  typed_bytes = moved_bytes s a (inverse (numbers_of s numbers)) order

  pub typed_long : length (typed_image s numbers) ≡ length s
  unfolding typed_image typed
  typed_long = moved_long s a (inverse (numbers_of s numbers)) order

  pub typed_short : length (typed_image s numbers) ≤ 1836
  unfolding typed_image typed
  typed_short = moved_short s a (inverse (numbers_of s numbers)) order

  typed_answered : AnsweredAs s (typed_image s numbers)
  unfolding typed_image typed
  typed_answered = moved_answered s a (inverse (numbers_of s numbers)) order

  number_is : (i : ℕ) → i < rules_of s → get_or (numbers_of s numbers) i 0 ≡ get_or numbers i 0
  number_is i h = get_or-take (rules_of s) numbers i 0 h

  old_order : (i : ℕ) → i < rules_of s
      → rule_at (program_in (typed_image s numbers)).rules (get_or numbers i 0) ≡ rule_at (program_in s).rules i
  old_order i h =
      ap₂ (λ (p : Program) (j : ℕ). rule_at p.rules j) typed_holds (sym (number_is i h))
      ∙ typed_rules (program_in s) (numbers_of s numbers) numbering (wellformed s a) i (omega (arith, many))

  pairs_moved : (i j : ℕ) → i < rules_of s → j < rules_of s
      → Memᴰ (i, j) (program_in s).pairs ↔ Memᴰ (get_or numbers i 0, get_or numbers j 0) (program_in (typed_image s numbers)).pairs
  pairs_moved i j h k =
      subst (λ (p : Program). Memᴰ (i, j) (program_in s).pairs ↔ Memᴰ (get_or numbers i 0, get_or numbers j 0) p.pairs) (sym typed_holds)
      (subst (λ (q : ℕ × ℕ). Memᴰ (i, j) (program_in s).pairs ↔ Memᴰ q (typed (program_in s) (numbers_of s numbers)).pairs)
      (ap₂ (λ (x y : ℕ). (x, y)) (number_is i h) (number_is j k))
      (typed_pairs (program_in s) (numbers_of s numbers) numbering (wellformed s a) i j (omega (arith, many)) (omega (arith, many))))

  module _ (ascend : Sorted rule_key (program_in s).rules) where
    filed_again : Bytes s → filed_image (typed_image s numbers) ≡ s
    unfolding filed_image
    filed_again b =
        ap image_of
        (ap filed typed_holds
        ∙ typed_filed (program_in s) (numbers_of s numbers) numbering (wellformed s a) (writable s a).pairs_sorted ascend)
        ∙ image_written s (reads s a) b

    numbers_again : old_numbers (typed_image s numbers) ≡ numbers_of s numbers
    unfolding old_numbers
    numbers_again =
        ap (λ (p : Program). filed_order p.rules) typed_holds
        ∙ typed_order (program_in s) (numbers_of s numbers) numbering (wellformed s a) (writable s a).pairs_sorted ascend

    pub returned : Returned s numbers
    returned = record {
      accepted = typed_accepted;
      bytes = typed_bytes;
      as_long = typed_long;
      old_order = old_order;
      pairs_moved = pairs_moved;
      pairs_ascend = subst (λ (p : Program). Sorted pair_key p.pairs) (sym typed_holds)
          (typed_pairs_sorted (program_in s) (numbers_of s numbers) numbering (wellformed s a));
      answered = typed_answered;
      filed_again = filed_again;
      numbers_again = numbers_again;
    }

-- ---- there and back

module _ (s : List ℕ) (a : AcceptedImage s) (b : Bytes s) where
  -- filing an image in filed form
  form_kept : FiledForm s → filed_image s ≡ s
  unfolding filed_image
  form_kept f =
      ap image_of (filed_itself (program_in s) (wellformed s a) f.pairs_ascend f.rules_ascend) ∙ image_written s (reads s a) b

  pub in_form : FiledForm s ↔ (filed_image s ≡ s)
  in_form = (form_kept, λ e. subst FiledForm e (files s a).in_form)

  -- the way back from the filed form
  pub typed_again : (numbers : List ℕ) → numbers_of (filed_image s) numbers ≡ old_numbers s → typed_image (filed_image s) numbers ≡ s
  unfolding typed_image old_numbers
  typed_again numbers e =
      ap image_of
      (ap₂ typed (holds s a) e ∙ filed_typed (program_in s) (wellformed s a) (writable s a).pairs_sorted)
      ∙ image_written s (reads s a) b
