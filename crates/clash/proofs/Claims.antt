-- What is claimed of the call holds for every image and every table.
use mathlib.Core.Path.{◌≡◌, ap, ◌∙◌}
use mathlib.Core.List.{List}
use Prim.Native.Nat.{ℕ, ◌+◌}
use native.Mathlib.Omega.{arith}
use lib.ListN.{length, get_or, drop, get_or-append}
use Rattle.lists.specs.Lists.{choose}
use Rattle.literals.specs.Sets.{has}
use Rattle.calls.specs.Verdicts.{Verdict, Accepted}
use Rattle.layout.specs.Layout.{rules_of}
use Rattle.layout.specs.Reading.{program_in}
use Rattle.image.proofs.Accepted.{accepted_sound}
use Rattle.calls.specs.Calls.{front, unless_refused}
use Rattle.calls.specs.Filling.{Returns, Fills}
use Rattle.layout.specs.Causes.{verdict}
use Rattle.calls.proofs.Verdicts.{told_accepted}
use Rattle.calls.proofs.Refusals.{read_heads}
use Rattle.calls.proofs.Filling.{returns, fills}
use Rattle.clash.specs.Clash.{clash_of}
use Rattle.clash.specs.Calls.{clash_verdict, marks_of, clashed_by, clash_table, clash_call, ClashCause}
use Rattle.clash.specs.Claims.{Marks, SmallClash}
use Rattle.clash.proofs.Prunings.{clash_published, is_clash}
use Rattle.clash.proofs.Refusals.{clash_judged, clash_small, clash_accepted, clash_beside}
use Rattle.clash.proofs.Turns.{marks_length, marks_at}

module _ (s table : List ℕ) where
  abbrev room : ℕ
  room = length table

  abbrev set : ℕ
  set = clash_of (program_in s).rules

  one_for_each : length (marks_of s) ≡ rules_of s
  unfolding marks_of
  one_for_each = marks_length set 0 (rules_of s)

  result : Returns (ClashCause s room) (clash_verdict s room) (rules_of s) (clashed_by s room) (clash_call s room)
  unfolding clashed_by
  result =
      returns (ClashCause s room) (clash_verdict s room) (rules_of s) (clash_judged s room)
      (λ e. omega (arith, (accepted_sound s (told_accepted (verdict s) (clash_accepted s room e).0)).few_rules)) (clash_small s room)

  bytes : Fills (clash_verdict s room) (marks_of s) table (clash_table s table)
  unfolding clash_table
  bytes = fills (clash_verdict s room) (marks_of s) table (λ e. omega (arith, one_for_each, (clash_accepted s room e).2))

  marks : clash_verdict s room ≡ Accepted → Marks s table
  unfolding clash_table marks_of
  marks e =
      let r = clash_accepted s room e in
      record {
        byte = λ i l.
            ap (λ (v : Verdict). get_or (unless_refused v (front (marks_of s) table) table) i 0) e
            ∙ get_or-append (marks_of s) (drop (length (marks_of s)) table) 0 i (omega (arith, one_for_each))
            ∙ marks_at set 0 (rules_of s) i l ∙ ap (λ (x : ℕ). choose (has set x) 1 0) (first i);
        is_clash = is_clash (program_in s).rules (read_heads s (told_accepted (verdict s) r.0)) r.1;
        remains = clash_published (program_in s).rules (read_heads s (told_accepted (verdict s) r.0));
      }
    where
      first : (i : ℕ) → 0 + i ≡ i
      first i = omega arith

  pub small_clash : SmallClash s table
  small_clash =
      let b = clash_beside s room in
      record {
        result = result;
        bytes = bytes;
        one_for_each = one_for_each;
        when = b.when;
        when_28 = b.when_28;
        when_29 = b.when_29;
        others = b.others;
        marks = marks;
      }
