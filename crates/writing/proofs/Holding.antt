-- What an accepted image holds is a program that an image can hold.
use mathlib.Core.Path.{◌≡◌, sym, ap, ap₂, ◌∙◌}
use mathlib.Core.Bool.{false}
use mathlib.Core.List.{List}
use Prim.Native.Nat.{ℕ, zero, suc, ◌+◌, ◌<◌}
use native.Mathlib.Omega.{arith}
use borrow.Author.Tests.{leb-false}
use Rattle.lists.specs.Lists.{Distinct}
use Rattle.lists.proofs.Places.{distinct_at}
use Rattle.lists.specs.Sorting.{before, Sorted}
use Rattle.program.specs.Program.{fact, rule_at}
use Rattle.layout.specs.Layout.{atoms_of, rules_of, pair_count_of, part_of, kind_byte, first_of, second_of}
use Rattle.layout.specs.declared.Cause.TheVariants.{RepeatedRule, PairNames, PairOrder}
use Rattle.layout.specs.Causes.{accepted, refuse, bad_pair, bad_order, pair_code, bad_repeat, part_verdict, rule_verdict, count_kind, rules_verdict, pair_verdict, pairs_verdict, verdict}
use Rattle.layout.specs.Reading.{rules_in, pairs_in, program_in}
use Rattle.image.proofs.Readings.{rules_length, rules_at, rules_found, pairs_length}
use Rattle.image.proofs.Accepted.{then_left, then_right, refuse_not, Sound, accepted_sound, accepted_limits, pair_named}
use Rattle.writing.specs.Image.{rule_bytes, pair_key}
use Rattle.writing.specs.Inside.Writable.{Writable}
use Rattle.writing.proofs.Reading.{pair_at}
use Rattle.writing.proofs.Written.{part_written}
use Rattle.writing.proofs.Fits.{Passes, part_passes, passes_part, none_seventeenth, stands_apart, next_sorted, code_before}

module _ (s : List ℕ) where
  -- each rule in turn, with the count that it was looked at with
  rule_accepted : (n i count : ℕ) → rules_verdict s count i n ≡ accepted → (k : ℕ) → k < n → (c : ℕ) × (rule_verdict s c (i + k) ≡ accepted)
  unfolding rules_verdict
  rule_accepted zero i count e k h = absurd (omega arith)
  rule_accepted (suc n) i count e zero h =
      let z : i ≡ i + 0 = omega arith in
      (count, ap (rule_verdict s count) (sym z) ∙ then_left (rule_verdict s count i) _ e)
  rule_accepted (suc n) i count e (suc k) h =
      let r = rule_accepted n (suc i) (count_kind (kind_byte (part_of s i)) count) (then_right (rule_verdict s count i) _ e) k (omega arith) in
      let z : suc i + k ≡ i + suc k = omega arith in
      (r.0, ap (rule_verdict s r.0) (sym z) ∙ r.1)

  pair_accepted : (n j : ℕ) → pairs_verdict s j n ≡ accepted → (k : ℕ) → k < n → pair_verdict s (j + k) ≡ accepted
  unfolding pairs_verdict
  pair_accepted zero j e k h = absurd (omega arith)
  pair_accepted (suc n) j e zero h =
      let z : j ≡ j + 0 = omega arith in
      ap (pair_verdict s) (sym z) ∙ then_left (pair_verdict s j) _ e
  pair_accepted (suc n) j e (suc k) h =
      let z : suc j + k ≡ j + suc k = omega arith in
      ap (pair_verdict s) (sym z) ∙ pair_accepted n (suc j) (then_right (pair_verdict s j) _ e) k (omega arith)

  pub pairs_at : (n j k : ℕ) → k < n → pair_at (pairs_in s j n) k ≡ (first_of s (j + k), second_of s (j + k))
  unfolding pairs_in
  pairs_at zero j k h = absurd (omega arith)
  pairs_at (suc n) j zero h =
      let z : j ≡ j + 0 = omega arith in
      ap (λ (i : ℕ). (first_of s i, second_of s i)) z
  pairs_at (suc n) j (suc k) h =
      let z : suc j + k ≡ j + suc k = omega arith in
      pairs_at n (suc j) k (omega arith) ∙ ap (λ (i : ℕ). (first_of s i, second_of s i)) z

  module _ (e : verdict s ≡ accepted) where
    sound : Sound s
    sound = accepted_sound s e

    ruled : (k : ℕ) → k < rules_of s → (c : ℕ) × (rule_verdict s c k ≡ accepted)
    ruled k h =
        let r = rule_accepted (rules_of s) 0 0 sound.rules_accepted k h in
        let z : 0 + k ≡ k = omega arith in
        (r.0, ap (rule_verdict s r.0) (sym z) ∙ r.1)

    passes : (k : ℕ) → k < rules_of s → Passes (part_of s k) (atoms_of s)
    unfolding rule_verdict
    passes k h =
        let r = ruled k h in
        part_passes (part_of s k) (atoms_of s) r.0 k (then_left (part_verdict (part_of s k) (atoms_of s) r.0 k) _ r.1)

    fresh : (k : ℕ) → k < rules_of s → bad_repeat s k ≡ false
    unfolding rule_verdict
    fresh k h =
        let r = ruled k h in
        refuse_not (bad_repeat s k) RepeatedRule k (then_right (part_verdict (part_of s k) (atoms_of s) r.0 k) _ r.1)

    pub rule_is : (k : ℕ) → k < rules_of s → rule_bytes (rule_at (rules_in s 0 (rules_of s)) k) ≡ part_of s k
    rule_is k h = ap rule_bytes (rules_at s (rules_of s) k h) ∙ part_written s e k h

    once : Distinct (rules_in s 0 (rules_of s))
    once =
        distinct_at (fact 0) (rules_in s 0 (rules_of s)) (λ j k l h q.
        let m : k < rules_of s = omega (arith, rules_length s 0 (rules_of s)) in
        stands_apart s (part_of s k) k 0 (fresh k m) j (omega arith) (omega arith)
        (sym (rule_is j (omega arith)) ∙ ap rule_bytes q ∙ rule_is k m))

    ascends : (j : ℕ) → suc j < pair_count_of s → pair_code s j < pair_code s (suc j)
    unfolding pair_verdict
    ascends j h =
        let z : 0 + suc j ≡ suc j = omega arith in
        leb-false (pair_code s (suc j)) (pair_code s j)
        (refuse_not (bad_order s (suc j)) PairOrder (suc j)
        (then_right (refuse (bad_pair s (suc j)) PairNames (suc j)) _
        (ap (pair_verdict s) (sym z) ∙ pair_accepted (pair_count_of s) 0 sound.pairs_accepted (suc j) h)))

    second_small : (j : ℕ) → j < pair_count_of s → second_of s j < 256
    second_small j h =
        let few = sound.few_rules in
        omega (arith, (pair_named s sound j h).second.there, rules_length s 0 (rules_of s))

    sorted : Sorted pair_key (pairs_in s 0 (pair_count_of s))
    sorted =
        next_sorted (pairs_in s 0 (pair_count_of s)) (λ j h.
        let k : suc j < pair_count_of s = omega (arith, pairs_length s 0 (pair_count_of s)) in
        let y : 0 + j ≡ j = omega arith in
        let z : 0 + suc j ≡ suc j = omega arith in
        ap₂ (λ (a b : ℕ × ℕ). before (pair_key a) (pair_key b))
        (pairs_at (pair_count_of s) 0 j (omega arith) ∙ ap (λ (i : ℕ). (first_of s i, second_of s i)) y)
        (pairs_at (pair_count_of s) 0 (suc j) k ∙ ap (λ (i : ℕ). (first_of s i, second_of s i)) z)
        ∙ code_before (first_of s j) (second_of s j) (first_of s (suc j)) (second_of s (suc j)) (second_small j (omega arith)) (second_small (suc j) k)
        (ascends j k))

    pub accepted_writable : Writable (program_in s)
    unfolding program_in
    accepted_writable =
        let l = accepted_limits s e in
        record {
          few_atoms = l.atoms_limit;
          few_rules = l.rules_limit;
          few_pairs = let f = sound.few_pairs in omega (arith, pairs_length s 0 (pair_count_of s));
          few_defeasible = l.defeasibles_limit;
          rule_fits = λ r i.
              let f = rules_found s 0 (rules_of s) r i in
              let k : f.0 < rules_of s = omega (arith, f.2) in
              ap (λ (b : List ℕ). part_verdict b (atoms_of s) 0 0) (ap rule_bytes f.3 ∙ part_written s e f.0 k)
              ∙ passes_part (part_of s f.0) (atoms_of s) 0 0 (passes f.0 k) (none_seventeenth (part_of s f.0));
          rules_once = once;
          pairs_name = l.pairs_name;
          pairs_sorted = sorted;
        }
