-- Which cause turns the two calls away.
use mathlib.Core.Path.{◌≡◌, refl, sym, ap₂, subst₂, ◌∙◌}
use mathlib.Core.Bool.{Bool, false, not, ◌||◌}
use mathlib.Core.List.Memᴰ
use mathlib.Core.List.{List, Memᴰ}
use mathlib.Core.Logic.{◌⊎◌, inl, inr, ⊎_elim}
use Prim.Native.Nat.{ℕ, ◌≤◌, ◌<◌}
use native.Mathlib.Omega.{arith}
use lib.Dec.{T, ltb, leb, ltb→lt, lt→ltb, leb→le, le→leb}
use lib.ListN.{length, get_or}
use lib.Seq.{get_or-take, length-take-le}
use borrow.Author.Tests.{ltb-false, le-ltb, not-false}
use Rattle.literals.proofs.Tests.{true_T}
use Rattle.layout.proofs.Directory.{neither_left, neither_right}
use Rattle.lists.specs.Decides.{Decides}
use Rattle.lists.specs.Sorting.{Sorted, sorted}
use Rattle.lists.specs.Inside.Numbering.{Numbering}
use Rattle.lists.proofs.Decides.{decides_not, decides_iff, decides_or, decides_any}
use Rattle.lists.proofs.Lists.{T_false, T_true}
use Rattle.lists.proofs.Places.{there, found, apart}
use Rattle.lists.proofs.Numberings.{Twice, decides_repeats, not_twice, numbering_full}
use Rattle.lists.proofs.Sorting.{decides_sorted}
use Rattle.calls.specs.Verdicts.{Verdict, Accepted}
use Rattle.layout.specs.Layout.{rules_of}
use Rattle.calls.specs.Verdicts.{refuse, and_then}
use Rattle.layout.specs.Reading.{program_in}
use Rattle.calls.proofs.Verdicts.{then_left, then_right, refuse_not}
use Rattle.calls.specs.Calls.{check_image}
use Rattle.calls.specs.Causes.{ImageCause, Judged}
use Rattle.calls.proofs.Verdicts.{Causes, Either, Only, Spans, judged_one, judged_then, judged_same, only_spans, either_spans, late_cut, Sited, judged_once}
use Rattle.calls.proofs.Refusals.{image_span, image_sited, check_judged}
use Rattle.calls.proofs.Filling.{Small, small_check, small_refuse, small_then}
use Rattle.filing.specs.Filed.{rule_key}
use Rattle.filing.specs.Calls.{file_verdict, FileCause, of_image, output, number_table}
use Rattle.filing.specs.Calls.{numbers_of, FiledForm, bad_numbers, not_filed, unfile_verdict, UnfileCause, of_file, range, twice, form}
use Rattle.filing.specs.Claims.{AcceptedImage}
use Rattle.filing.proofs.Reordering.{writable}

-- ---- the writer

module _ (s : List ℕ) (room number_room : ℕ) where
  abbrev Rooms : Causes
  Rooms = Either (Only (ltb room (length s)) 24 0) (Only (ltb number_room (rules_of s)) 25 0)

  abbrev rooms : Verdict
  rooms = and_then (refuse (ltb room (length s)) 24 0) (refuse (ltb number_room (rules_of s)) 25 0)

  output_spans : Spans (Only (ltb room (length s)) 24 0) 14 24
  output_spans = only_spans (ltb room (length s)) 24 0 14 24 (omega arith) (omega arith)

  number_spans : Spans (Only (ltb number_room (rules_of s)) 25 0) 24 25
  number_spans = only_spans (ltb number_room (rules_of s)) 25 0 24 25 (omega arith) (omega arith)

  rooms_judged : Judged Rooms rooms
  rooms_judged =
      judged_then (late_cut 14 24 25 (inr (omega arith), inr (omega arith)) output_spans number_spans)
      (judged_one (ltb room (length s)) 24 0) (λ e. judged_one (ltb number_room (rules_of s)) 25 0)

  cause_of_lem : (n p : ℕ) → Either (ImageCause s) Rooms n p → FileCause s room number_room n p
  cause_of_lem n p (inl c) = of_image c
  cause_of_lem n p (inr (inl (e, f, t))) = subst₂ (FileCause s room number_room) (sym e) (sym f) (output (ltb→lt room (length s) t))
  cause_of_lem n p (inr (inr (e, f, t))) = subst₂ (FileCause s room number_room) (sym e) (sym f) (number_table (ltb→lt number_room (rules_of s) t))

  of_cause : (n p : ℕ) → FileCause s room number_room n p → Either (ImageCause s) Rooms n p
  of_cause n p (of_image c) = inl c
  of_cause n p (output h) = inr (inl (refl, refl, lt→ltb room (length s) h))
  of_cause n p (number_table h) = inr (inr (refl, refl, lt→ltb number_room (rules_of s) h))

  pub file_judged : Judged (FileCause s room number_room) (file_verdict s room number_room)
  unfolding file_verdict
  file_judged =
      judged_same cause_of_lem of_cause
      (judged_then
      (late_cut 0 14 25 (inr (omega arith), inr (omega arith)) (image_span s)
      (either_spans 14 24 25 (omega arith) (omega arith) output_spans number_spans))
      (check_judged s) (λ e. rooms_judged))

  file_spans : Spans (FileCause s room number_room) 0 25
  file_spans n p c =
      either_spans 0 14 25 (omega arith) (omega arith) (image_span s)
      (either_spans 14 24 25 (omega arith) (omega arith) output_spans number_spans) n p (of_cause n p c)

  file_sited : Sited (FileCause s room number_room)
  file_sited n p (of_image c) = image_sited s n p c
  file_sited n p (output h) = inr refl
  file_sited n p (number_table h) = inr refl

  -- and no other verdict is judged so
  pub file_only : (v : Verdict) → Judged (FileCause s room number_room) v → v ≡ file_verdict s room number_room
  file_only v j = judged_once file_sited j file_judged

  pub file_small : Small (file_verdict s room number_room)
  unfolding file_verdict
  file_small =
      small_then (check_image s) rooms (small_check s)
      (small_then (refuse (ltb room (length s)) 24 0) (refuse (ltb number_room (rules_of s)) 25 0)
      (small_refuse (ltb room (length s)) 24 (omega arith)) (small_refuse (ltb number_room (rules_of s)) 25 (omega arith)))

  pub file_accepted : file_verdict s room number_room ≡ Accepted
      → AcceptedImage s × (length s ≤ room) × (rules_of s ≤ number_room)
  unfolding file_verdict
  file_accepted e =
      let r = then_right (check_image s) rooms e in (
        then_left (check_image s) rooms e,
        ltb-false room (length s)
            (refuse_not (ltb room (length s)) 24 0
            (then_left (refuse (ltb room (length s)) 24 0) (refuse (ltb number_room (rules_of s)) 25 0) r)),
        ltb-false number_room (rules_of s)
            (refuse_not (ltb number_room (rules_of s)) 25 0
            (then_right (refuse (ltb room (length s)) 24 0) (refuse (ltb number_room (rules_of s)) 25 0) r)),
      )

  pub file_writes : AcceptedImage s → length s ≤ room → rules_of s ≤ number_room → file_verdict s room number_room ≡ Accepted
  unfolding file_verdict
  file_writes a h k =
      ap₂ and_then a
      (ap₂ (λ (x y : Bool). and_then (refuse x 24 0) (refuse y 25 0)) (le-ltb room (length s) h) (le-ltb number_room (rules_of s) k))

-- ---- the way back

-- R numbers that cause 26 lets through are the numbers of R rules
module _ (n : ℕ) (l : List ℕ) where
  bad_decided : Decides (bad_numbers n l) (((x : ℕ) × Memᴰ x l × (n ≤ x)) ⊎ Twice l)
  bad_decided =
      decides_or (decides_any (λ x. n ≤ x) (leb n) l (λ x i. record { says = leb→le n x; passes = le→leb n x })) (decides_repeats l)

  pub fine_numbering : length l ≡ n → bad_numbers n l ≡ false → Numbering n l
  fine_numbering long e =
      let not_bad : T (bad_numbers n l) → ⊥ = λ h. let z = sym e ∙ T_true (bad_numbers n l) h in absurd (let y : ◌≡◌ {A = ℕ} 0 1 = cc in omega arith) in
      numbering_full n l (not_twice l (λ t. not_bad (bad_decided.passes (inr t)))) (λ i j. under i (λ h. not_bad (bad_decided.passes (inl (i, j, h))))) long
    where
      under : (i : ℕ) → (n ≤ i → ⊥) → i < n
      under i f = omega (arith, f)

  pub numbering_fine : Numbering n l → bad_numbers n l ≡ false
  numbering_fine o = T_false (bad_numbers n l) (λ h. ⊎_elim far again (bad_decided.says h))
    where
      far : (x : ℕ) × Memᴰ x l × (n ≤ x) → ⊥
      far (x, i, h) = omega (arith, o.below x i)

      again : Twice l → ⊥
      again (i, j, h, k, e) = omega (arith, apart 0 l i j o.once (omega arith) k e)

module _ (s numbers : List ℕ) (room : ℕ) where
  -- what 26 is given for
  abbrev Wrong : Type 0
  Wrong = (((i : ℕ) × (i < rules_of s) × (rules_of s ≤ get_or numbers i 0)) ⊎ ((i : ℕ) × (j : ℕ) × (i < j) × (j < rules_of s) × (get_or numbers i 0 ≡ get_or numbers j 0))) ⊎ (¬ FiledForm s)

  abbrev wrong : Bool
  wrong = bad_numbers (rules_of s) (numbers_of s numbers) || not_filed s

  wrong_decided : AcceptedImage s → rules_of s ≤ length numbers → Decides wrong Wrong
  wrong_decided a long =
      decides_or
      (decides_iff to from (bad_decided (rules_of s) (numbers_of s numbers)))
      (decides_not
      (decides_iff (λ r. record { rules_ascend = r; pairs_ascend = (writable s a).pairs_sorted }) (λ f. f.rules_ascend)
      (decides_sorted rule_key (program_in s).rules)))
    where
      as_many : length (numbers_of s numbers) ≡ rules_of s
      as_many = length-take-le (rules_of s) numbers long

      at : (i : ℕ) → i < rules_of s → get_or (numbers_of s numbers) i 0 ≡ get_or numbers i 0
      at i h = get_or-take (rules_of s) numbers i 0 h

      to : ((x : ℕ) × Memᴰ x (numbers_of s numbers) × (rules_of s ≤ x)) ⊎ Twice (numbers_of s numbers)
          → ((i : ℕ) × (i < rules_of s) × (rules_of s ≤ get_or numbers i 0)) ⊎ ((i : ℕ) × (j : ℕ) × (i < j) × (j < rules_of s) × (get_or numbers i 0 ≡ get_or numbers j 0))
      to (inl (x, m, h)) =
          let f = found 0 (numbers_of s numbers) x m in
          let k : f.0 < rules_of s = omega (arith, f.1, as_many) in
          inl (f.0, k, omega (arith, at f.0 k, f.2))
      to (inr (i, j, h, k, e)) =
          let m : j < rules_of s = omega (arith, as_many) in
          inr (i, j, h, m, sym (at i (omega arith)) ∙ e ∙ at j m)

      from : ((i : ℕ) × (i < rules_of s) × (rules_of s ≤ get_or numbers i 0)) ⊎ ((i : ℕ) × (j : ℕ) × (i < j) × (j < rules_of s) × (get_or numbers i 0 ≡ get_or numbers j 0))
          → ((x : ℕ) × Memᴰ x (numbers_of s numbers) × (rules_of s ≤ x)) ⊎ Twice (numbers_of s numbers)
      from (inl (i, h, k)) =
          inl (get_or numbers i 0, Memᴰ.cast (sym (at i h)) (there 0 (numbers_of s numbers) i (omega (arith, as_many))), k)
      from (inr (i, j, h, k, e)) =
          inr (i, j, h, omega (arith, as_many), at i (omega arith) ∙ e ∙ sym (at j k))

  abbrev Misfiled : Causes
  Misfiled m q = (m ≡ 26) × (q ≡ 0) × Wrong

  misfiled_judged : file_verdict s room (length numbers) ≡ Accepted → Judged Misfiled (refuse wrong 26 0)
  misfiled_judged e =
      let r = file_accepted s room (length numbers) e in
      let d = wrong_decided r.0 r.2 in
      judged_same (λ m q c. (c.0, c.1, d.says c.2)) (λ m q c. (c.0, c.1, d.passes c.2)) (judged_one wrong 26 0)

  misfiled_spans : Spans Misfiled 25 26
  misfiled_spans m q c = let e = c.0 in (omega arith, omega arith)

  back_cause : (n p : ℕ) → Either (FileCause s room (length numbers)) Misfiled n p → UnfileCause s numbers room n p
  back_cause n p (inl c) = of_file c
  back_cause n p (inr (e, f, inl (inl (i, h, k)))) = subst₂ (UnfileCause s numbers room) (sym e) (sym f) (range h k)
  back_cause n p (inr (e, f, inl (inr (i, j, h, k, t)))) = subst₂ (UnfileCause s numbers room) (sym e) (sym f) (twice h k t)
  back_cause n p (inr (e, f, inr t)) = subst₂ (UnfileCause s numbers room) (sym e) (sym f) (form t)

  cause_back : (n p : ℕ) → UnfileCause s numbers room n p → Either (FileCause s room (length numbers)) Misfiled n p
  cause_back n p (of_file c) = inl c
  cause_back n p (range {i} h k) = inr (refl, refl, inl (inl (i, h, k)))
  cause_back n p (twice {i} {j} h k e) = inr (refl, refl, inl (inr (i, j, h, k, e)))
  cause_back n p (form t) = inr (refl, refl, inr t)

  pub unfile_judged : Judged (UnfileCause s numbers room) (unfile_verdict s numbers room)
  unfolding unfile_verdict
  unfile_judged =
      judged_same back_cause cause_back
      (judged_then (late_cut 0 25 26 (inr (omega arith), inr (omega arith)) (file_spans s room (length numbers)) misfiled_spans)
      (file_judged s room (length numbers)) misfiled_judged)

  unfile_sited : Sited (UnfileCause s numbers room)
  unfile_sited n p (of_file c) = file_sited s room (length numbers) n p c
  unfile_sited n p (range h k) = inr refl
  unfile_sited n p (twice h k e) = inr refl
  unfile_sited n p (form t) = inr refl

  -- and no other verdict is judged so
  pub unfile_only : (v : Verdict) → Judged (UnfileCause s numbers room) v → v ≡ unfile_verdict s numbers room
  unfile_only v j = judged_once unfile_sited j unfile_judged

  pub unfile_small : Small (unfile_verdict s numbers room)
  unfolding unfile_verdict
  unfile_small =
      small_then (file_verdict s room (length numbers)) (refuse wrong 26 0) (file_small s room (length numbers))
      (small_refuse wrong 26 (omega arith))

  pub unfile_accepted : unfile_verdict s numbers room ≡ Accepted
      → AcceptedImage s × (length s ≤ room) × (rules_of s ≤ length numbers) × Numbering (rules_of s) (numbers_of s numbers) × Sorted rule_key (program_in s).rules
  unfolding unfile_verdict
  unfile_accepted e =
      let v = file_verdict s room (length numbers) in
      let r = file_accepted s room (length numbers) (then_left v (refuse wrong 26 0) e) in
      let none = refuse_not wrong 26 0 (then_right v (refuse wrong 26 0) e) in
      let fine = neither_left (bad_numbers (rules_of s) (numbers_of s numbers)) (not_filed s) none in
      let ascend = not-false (sorted rule_key (program_in s).rules) (neither_right (bad_numbers (rules_of s) (numbers_of s numbers)) (not_filed s) none) in (
        r.0,
        r.1,
        r.2,
        fine_numbering (rules_of s) (numbers_of s numbers) (length-take-le (rules_of s) numbers r.2) fine,
        (decides_sorted rule_key (program_in s).rules).says (true_T (sorted rule_key (program_in s).rules) ascend),
      )

  pub unfile_writes : AcceptedImage s → length s ≤ room → rules_of s ≤ length numbers → Numbering (rules_of s) (numbers_of s numbers)
      → Sorted rule_key (program_in s).rules → unfile_verdict s numbers room ≡ Accepted
  unfolding unfile_verdict
  unfile_writes a h k o ascend =
      ap₂ and_then (file_writes s room (length numbers) a h k)
      (ap₂ (λ (x y : Bool). refuse (x || not y) 26 0) (numbering_fine (rules_of s) (numbers_of s numbers) o)
      (T_true (sorted rule_key (program_in s).rules) ((decides_sorted rule_key (program_in s).rules).passes ascend)))
