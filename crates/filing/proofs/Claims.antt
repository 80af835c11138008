-- What is claimed of filed images, of the way back, and of the calls that write them holds.
use mathlib.Core.Path.{◌≡◌, sym, ap, ◌∙◌, subst}
use mathlib.Core.List.{List}
use Prim.Native.Nat.{ℕ, ◌≤◌}
use native.Mathlib.Omega.{arith}
use lib.ListN.{length, take}
use Rattle.lists.specs.Inside.Numbering.{Numbering}
use Rattle.calls.specs.Verdicts.{Verdict, Accepted}
use Rattle.layout.specs.Layout.{rules_of}
use Rattle.writing.specs.Image.{Bytes}
use Rattle.writing.proofs.Written.{rule_count_lem}
use Rattle.calls.specs.Outcomes as outcomes
use Rattle.calls.specs.Calls.{front, unless_refused}
use Rattle.calls.specs.Filling.{Returns, Fills}
use Rattle.calls.proofs.Filling.{returns, fills}
use Rattle.filing.specs.Calls.{filed_image, old_numbers, file_verdict, filed_by, file_table, file_numbers, file_call, FileCause}
use Rattle.filing.specs.Calls.{numbers_of, typed_image, unfile_verdict, unfiled_by, unfile_table, unfile_call, UnfileCause}
use Rattle.filing.specs.Claims.{AcceptedImage, Writes, WritesBack, form_left, numbers_left, RoundTrip, Filing}
use Rattle.filing.proofs.Reordering.{reads}
use Rattle.filing.proofs.Filed.{long, filed_count, old_numbering, numbers_long, files, files_same, filed_short}
use Rattle.filing.proofs.Typed.{typed_long, typed_short, returned, in_form, typed_again}
use Rattle.filing.proofs.Refusals.{file_judged, file_small, file_accepted, file_writes, unfile_judged, unfile_small, unfile_accepted, unfile_writes}

-- ---- the writer

module _ (s table numbers : List ℕ) where
  abbrev room : ℕ
  room = length table

  abbrev number_room : ℕ
  number_room = length numbers

  file_result : Returns (FileCause s room number_room) (file_verdict s room number_room) (length (filed_image s)) (filed_by s room number_room) (file_call s room number_room)
  unfolding filed_by
  file_result =
      returns (FileCause s room number_room) (file_verdict s room number_room) (length (filed_image s)) (file_judged s room number_room)
      (λ e. omega (arith, filed_short s (file_accepted s room number_room e).0)) (file_small s room number_room)

  file_form : Fills (file_verdict s room number_room) (filed_image s) table (file_table s table number_room)
  unfolding file_table
  file_form =
      fills (file_verdict s room number_room) (filed_image s) table
      (λ e. let r = file_accepted s room number_room e in omega (arith, long s r.0, r.1))

  file_old : Fills (file_verdict s room number_room) (old_numbers s) numbers (file_numbers s room numbers)
  unfolding file_numbers
  file_old =
      fills (file_verdict s room number_room) (old_numbers s) numbers
      (λ e. let r = file_accepted s room number_room e in omega (arith, numbers_long s r.0, r.2))

  writes : Writes s table numbers
  writes = record { result = file_result; form = file_form; old = file_old; room_enough = file_writes s room number_room }

-- ---- the way back

module _ (s numbers table : List ℕ) where
  unfile_result : Returns (UnfileCause s numbers (length table)) (unfile_verdict s numbers (length table)) (length (typed_image s numbers)) (unfiled_by s numbers (length table)) (unfile_call s numbers (length table))
  unfolding unfiled_by
  unfile_result =
      returns (UnfileCause s numbers (length table)) (unfile_verdict s numbers (length table)) (length (typed_image s numbers))
      (unfile_judged s numbers (length table))
      (λ e. let r = unfile_accepted s numbers (length table) e in omega (arith, typed_short s numbers r.0 r.3))
      (unfile_small s numbers (length table))

  unfile_form : Fills (unfile_verdict s numbers (length table)) (typed_image s numbers) table (unfile_table s numbers table)
  unfolding unfile_table
  unfile_form =
      fills (unfile_verdict s numbers (length table)) (typed_image s numbers) table
      (λ e. let r = unfile_accepted s numbers (length table) e in omega (arith, typed_long s numbers r.0 r.3, r.1))

  writes_back : WritesBack s numbers table
  writes_back = record {
    result = unfile_result;
    form = unfile_form;
    of_result = λ e. let r = unfile_accepted s numbers (length table) e in returned s numbers r.0 r.3 r.4;
  }

-- what the tables are where nothing is refused
module _ (s table numbers : List ℕ) (e : file_verdict s (length table) (length numbers) ≡ Accepted) where
  pub file_fills : file_table s table (length numbers) ≡ front (filed_image s) table
  unfolding file_table
  file_fills = ap (λ (v : Verdict). unless_refused v (front (filed_image s) table) table) e

  pub file_numbers_lem : file_numbers s (length table) numbers ≡ front (old_numbers s) numbers
  unfolding file_numbers
  file_numbers_lem = ap (λ (v : Verdict). unless_refused v (front (old_numbers s) numbers) numbers) e

pub unfile_fills : (s numbers table : List ℕ) → unfile_verdict s numbers (length table) ≡ Accepted
    → unfile_table s numbers table ≡ front (typed_image s numbers) table
unfolding unfile_table
unfile_fills s numbers table e = ap (λ (v : Verdict). unless_refused v (front (typed_image s numbers) table) table) e

-- ---- there and back

module _ (s table numbers given back : List ℕ) (a : AcceptedImage s) (b : Bytes s) (h : length s ≤ length table) (k : rules_of s ≤ length numbers)
    (m : length s ≤ length back) (g : rules_of s ≤ length given) (same : take (rules_of s) given ≡ numbers_left s table numbers) where
  accepts : file_verdict s (length table) (length numbers) ≡ Accepted
  accepts = file_writes s (length table) (length numbers) a h k

  form_is : form_left s table numbers ≡ filed_image s
  form_is = ap (λ (n : ℕ). take n (file_table s table (length numbers))) (sym (long s a)) ∙ (file_form s table numbers).front_written accepts

  rules_kept : rules_of (filed_image s) ≡ rules_of s
  rules_kept = sym (rule_count_lem (filed_image s) (reads (filed_image s) (files s a).accepted)) ∙ filed_count s a

  given_are : numbers_of (filed_image s) given ≡ old_numbers s
  given_are =
      ap (λ (n : ℕ). take n given) rules_kept
      ∙ same
      ∙ ap (λ (n : ℕ). take n (file_numbers s (length table) numbers)) (sym (numbers_long s a))
      ∙ (file_old s table numbers).front_written accepts

  back_accepts : unfile_verdict (filed_image s) given (length back) ≡ Accepted
  back_accepts =
      unfile_writes (filed_image s) given (length back) (files s a).accepted (omega (arith, long s a)) (omega (arith, rules_kept))
      (subst (λ (l : List ℕ). Numbering (rules_of (filed_image s)) l) (sym given_are)
      (subst (λ (n : ℕ). Numbering n (old_numbers s)) (sym rules_kept) (old_numbering s a)))
      (files s a).in_form.rules_ascend

  typed_is : typed_image (filed_image s) given ≡ s
  typed_is = typed_again s a b given given_are

  round_trip : RoundTrip s table numbers given back
  round_trip = record {
    there = let r = (file_result s table numbers).writes accepts in (r.0 ∙ ap outcomes.Given (long s a), r.1 ∙ long s a);
    and_back = subst (λ (l : List ℕ). (unfiled_by l given (length back) ≡ outcomes.Given (length s)) × (unfile_call l given (length back) ≡ length s)) (sym form_is) back_result;
    exact = ap (λ (l : List ℕ). unfile_table l given back) form_is ∙ back_table;
  }
    where
      back_result : (unfiled_by (filed_image s) given (length back) ≡ outcomes.Given (length s)) × (unfile_call (filed_image s) given (length back) ≡ length s)
      back_result =
          let r = (unfile_result (filed_image s) given back).writes back_accepts in
          let l = ap (λ (i : List ℕ). length i) typed_is in
          (r.0 ∙ ap outcomes.Given l, r.1 ∙ l)

      back_table : unfile_table (filed_image s) given back ≡ front s back
      back_table = unfile_fills (filed_image s) given back back_accepts ∙ ap (λ (l : List ℕ). front l back) typed_is

pub filing : Filing
filing = record {
  of_each = files;
  of_two = files_same;
  in_form = in_form;
  of_file = writes;
  of_unfile = writes_back;
  there_and_back = round_trip;
}
