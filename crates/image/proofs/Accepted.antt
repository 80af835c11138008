-- What an accepted image is: each part and each pair is sound, and its program is within the limits.
use mathlib.Core.Path.{◌≡◌, refl, sym, ap, subst, ◌∙◌}
use mathlib.Core.Bool.{Bool, true, false, ◌&&◌}
use mathlib.Core.List.Memᴰ
use mathlib.Core.List.{List, [], ◌∷◌, Memᴰ}
use mathlib.Core.Logic.{◌⊎◌, inl, inr}
use Prim.Native.Nat.{ℕ, zero, suc, ◌+◌, ◌-◌, ◌*◌, ◌<◌, ◌≤◌}
use native.Mathlib.Numerals.{add-one}
use native.Mathlib.Nat.{le_refl, sub-zero}
use native.Mathlib.Omega.{arith}
use lib.ListN.{length, take, drop}
use lib.Seq.{take-length}
use lib.Dec.{ltb, leb, eqb}
use borrow.Author.Tests.{ltb-true, ltb-false, leb-false, eqb-true, eqb-false, not-false}
use Rattle.literals.proofs.Tests.{and_left, and_right}
use Rattle.program.specs.Program.{Kind, Rule, next_bit, defeasibles, defeasibles_from, bit_of}
use Rattle.program.specs.Limits.{DefeasibleAt, PairOf, Limits}
use Rattle.program.proofs.Fillings.{bit_of_next}
use Rattle.layout.specs.Layout.{number_at, size_of, atoms_of, rules_of, pair_count_of, part_of, kind_byte, head_byte, body_bytes, first_of, second_of}
use Rattle.std.specs.Prelude.{Ok, Err}
use Rattle.layout.specs.declared.Cause.{Cause}
use Rattle.layout.specs.declared.Cause.TheVariants.{ImageLength, Header, Directory, RuleLength, RuleKind, LiteralRange, BodyOrder, DefeasibleWithoutBody, TooManyDefeasible, LastPartLength, PairNames}
use Rattle.layout.specs.Causes.{Verdict, accepted, refuse, and_then, all_below, ascending, bad_size, bad_kind, bad_literal, bad_body, bad_empty, bad_seventeenth, bad_length, bad_counts, bad_directory, bad_pairs, bad_pair, not_defeasible, part_verdict, rule_verdict, count_kind, rules_verdict, pair_verdict, pairs_verdict, parts_follow, verdict}
use Rattle.layout.specs.Reading.{rule_in, rules_in, program_in}
use Rattle.layout.specs.Inside.Steps.{PartAt}
use Rattle.part.proofs.Bytes.{below_here, below_after}
use Rattle.layout.proofs.Directory.{neither_left, neither_right, directory_part}
use Rattle.image.proofs.EachRule.{rules_next, kind_counted, kind_defeasible, kind_strict}
use Rattle.image.proofs.EachPair.{pairs_next}
use Rattle.image.proofs.Readings.{rules_length, rules_at, rules_found, pairs_found}

-- ---- what accepts, test by test
pub then_left : (v w : Verdict) → and_then v w ≡ accepted → v ≡ accepted
then_left (Ok a) w e = refl
then_left (Err r) w e = e

pub then_right : (v w : Verdict) → and_then v w ≡ accepted → w ≡ accepted
then_right (Ok a) w e = e
then_right (Err r) w e = cc

pub refuse_not : (b : Bool) (c : Cause) (p : ℕ) → refuse b c p ≡ accepted → b ≡ false
refuse_not true c p e = cc
refuse_not false c p e = refl

-- ---- a rule's part
pub record PartSound (part : List ℕ) (atoms before : ℕ) : Type 0 where
  pub long : 2 ≤ length part
  pub kind_few : kind_byte part ≤ 1
  pub literals : all_below (2 * atoms) (drop 1 part) ≡ true
  pub body : ascending (body_bytes part) ≡ true
  pub room : eqb (kind_byte part) 1 ≡ true → before < 16

pub part_sound : (part : List ℕ) (atoms before place : ℕ) → part_verdict part atoms before place ≡ accepted → PartSound part atoms before
unfolding part_verdict
part_sound part atoms before place e =
    let four = refuse_not (bad_size part) RuleLength place (then_left (refuse (bad_size part) RuleLength place) _ e) in
    let e5 = then_right (refuse (bad_size part) RuleLength place) _ e in
    let five = refuse_not (bad_kind part) RuleKind place (then_left (refuse (bad_kind part) RuleKind place) _ e5) in
    let e6 = then_right (refuse (bad_kind part) RuleKind place) _ e5 in
    let six = refuse_not (bad_literal atoms part) LiteralRange place (then_left (refuse (bad_literal atoms part) LiteralRange place) _ e6) in
    let e7 = then_right (refuse (bad_literal atoms part) LiteralRange place) _ e6 in
    let seven = refuse_not (bad_body part) BodyOrder place (then_left (refuse (bad_body part) BodyOrder place) _ e7) in
    let e8 = then_right (refuse (bad_body part) BodyOrder place) _ e7 in
    let nine = refuse_not (bad_seventeenth before part) TooManyDefeasible place (then_right (refuse (bad_empty part) DefeasibleWithoutBody place) _ e8) in
    record {
      long = ltb-false (length part) 2 (neither_left (ltb (length part) 2) _ four);
      kind_few = ltb-false 1 (kind_byte part) five;
      literals = not-false _ six;
      body = not-false _ seven;
      room = λ k. leb-false 16 before (sym (ap (λ (b : Bool). b && leb 16 before) k) ∙ nine);
    }

-- ---- the whole image
pub record Sound (s : List ℕ) : Type 0 where
  pub few_atoms : atoms_of s ≤ 64
  pub few_rules : rules_of s ≤ 96
  pub few_pairs : pair_count_of s ≤ 240
  pub zeros : number_at s 6 ≡ 0
  pub follow : parts_follow s (12 + 4 * rules_of s) 0 (rules_of s + 1) ≡ true
  pub parts : (i : ℕ) → i ≤ rules_of s → PartAt s i
  pub rules_accepted : rules_verdict s 0 0 (rules_of s) ≡ accepted
  pub pairs_size : size_of s (rules_of s) ≡ 2 * pair_count_of s
  pub pairs_accepted : pairs_verdict s 0 (pair_count_of s) ≡ accepted

pub accepted_sound : (s : List ℕ) → verdict s ≡ accepted → Sound s
unfolding verdict
accepted_sound s e =
    let e2 = then_right (refuse (bad_length s) ImageLength 0) _ e in
    let two = refuse_not (bad_counts s) Header 0 (then_left (refuse (bad_counts s) Header 0) _ e2) in
    let more = neither_right (ltb 64 (atoms_of s)) _ two in
    let last = neither_right (ltb 96 (rules_of s)) _ more in
    let e3 = then_right (refuse (bad_counts s) Header 0) _ e2 in
    let three = refuse_not (bad_directory s) Directory 0 (then_left (refuse (bad_directory s) Directory 0) _ e3) in
    let e4 = then_right (refuse (bad_directory s) Directory 0) _ e3 in
    let e11 = then_right (rules_verdict s 0 0 (rules_of s)) _ e4 in
    record {
      few_atoms = ltb-false 64 (atoms_of s) (neither_left (ltb 64 (atoms_of s)) _ two);
      few_rules = ltb-false 96 (rules_of s) (neither_left (ltb 96 (rules_of s)) _ more);
      few_pairs = ltb-false 240 (pair_count_of s) (neither_left (ltb 240 (pair_count_of s)) _ last);
      zeros = eqb-true (number_at s 6) 0 (not-false _ (neither_right (ltb 240 (pair_count_of s)) _ last));
      follow = not-false _ (neither_right (ltb (length s) (12 + 4 * rules_of s)) _ three);
      parts = directory_part s three;
      rules_accepted = then_left (rules_verdict s 0 0 (rules_of s)) _ e4;
      pairs_size = eqb-true (size_of s (rules_of s)) (2 * pair_count_of s) (not-false _ (refuse_not (bad_pairs s) LastPartLength 0 (then_left (refuse (bad_pairs s) LastPartLength 0) _ e11)));
      pairs_accepted = then_right (refuse (bad_pairs s) LastPartLength 0) _ e11;
    }

module _ (s : List ℕ) (sound : Sound s) where
  abbrev pub rules : List Rule
  rules = rules_in s 0 (rules_of s)

  -- ---- the rules, one by one: the count of defeasible ones before rule j is its bit
  rules_onward : (j : ℕ) → j ≤ rules_of s → rules_verdict s (bit_of rules j) j (rules_of s - j) ≡ accepted
  unfolding defeasibles_from
  rules_onward zero h = ap (λ (n : ℕ). rules_verdict s 0 0 n) (sub-zero (rules_of s)) ∙ sound.rules_accepted
  rules_onward (suc j) h =
      let step = rules_next s (bit_of rules j) j (rules_of s) (omega arith) _ refl in
      let rest = then_right (rule_verdict s (bit_of rules j) j) _ (sym step ∙ rules_onward j (omega arith)) in
      let next : bit_of rules (suc j) ≡ count_kind (kind_byte (part_of s j)) (bit_of rules j) =
      bit_of_next rules 0 j (omega (arith, rules_length s 0 (rules_of s)))
      ∙ ap (λ (r : Rule). next_bit r.kind (bit_of rules j)) (rules_at s (rules_of s) j (omega arith))
      ∙ sym (kind_counted (part_of s j) (bit_of rules j)) in
      ap (λ (n : ℕ). rules_verdict s n (suc j) (rules_of s - suc j)) next
      ∙ ap (λ (k : ℕ). rules_verdict s (count_kind (kind_byte (part_of s j)) (bit_of rules j)) k (rules_of s - k)) (sym (add-one j)) ∙ rest

  pub rule_sound : (j : ℕ) → j < rules_of s → PartSound (part_of s j) (atoms_of s) (bit_of rules j)
  unfolding rule_verdict
  rule_sound j h =
      let step = rules_next s (bit_of rules j) j (rules_of s) h _ refl in
      part_sound (part_of s j) (atoms_of s) (bit_of rules j) j
      (then_left (part_verdict (part_of s j) (atoms_of s) (bit_of rules j) j) _
      (then_left (rule_verdict s (bit_of rules j) j) _ (sym step ∙ rules_onward j (omega arith))))

  pub rule_next : (j : ℕ) → j < rules_of s → bit_of rules (suc j) ≡ next_bit (rule_in (part_of s j)).kind (bit_of rules j)
  rule_next j h =
      bit_of_next rules 0 j (omega (arith, rules_length s 0 (rules_of s)))
      ∙ ap (λ (r : Rule). next_bit r.kind (bit_of rules j)) (rules_at s (rules_of s) j h)

  -- at most 16 are defeasible
  pub bits_few : (j : ℕ) → j ≤ rules_of s → bit_of rules j ≤ 16
  unfolding defeasibles_from
  bits_few zero h = omega arith
  bits_few (suc j) h = go (eqb (kind_byte (part_of s j)) 1) refl (bits_few j (omega arith))
    where
      go : (b : Bool) → eqb (kind_byte (part_of s j)) 1 ≡ b → bit_of rules j ≤ 16 → bit_of rules (suc j) ≤ 16
      go true e f = let r = (rule_sound j h).room e in omega (arith, rule_next j h ∙ ap (λ (k : Kind). next_bit k (bit_of rules j)) (kind_defeasible (part_of s j) e))
      go false e f = omega (arith, rule_next j h ∙ ap (λ (k : Kind). next_bit k (bit_of rules j)) (kind_strict (part_of s j) e))

  -- ---- the pairs, one by one
  pairs_onward : (j : ℕ) → j ≤ pair_count_of s → pairs_verdict s j (pair_count_of s - j) ≡ accepted
  pairs_onward zero h = ap (λ (n : ℕ). pairs_verdict s 0 n) (sub-zero (pair_count_of s)) ∙ sound.pairs_accepted
  pairs_onward (suc j) h =
      let step = pairs_next s j (pair_count_of s) _ (omega arith) refl in
      ap (λ (k : ℕ). pairs_verdict s k (pair_count_of s - k)) (sym (add-one j)) ∙ then_right (pair_verdict s j) _ (sym step ∙ pairs_onward j (omega arith))

  pub pair_sound : (j : ℕ) → j < pair_count_of s → bad_pair s j ≡ false
  unfolding pair_verdict
  pair_sound j h =
      let step = pairs_next s j (pair_count_of s) _ h refl in
      refuse_not (bad_pair s j) PairNames j (then_left (refuse (bad_pair s j) PairNames j) _ (then_left (pair_verdict s j) _ (sym step ∙ pairs_onward j (omega arith))))

  named_sound : (a : ℕ) → not_defeasible s a ≡ false → DefeasibleAt rules a
  named_sound a e =
      let h = leb-false (rules_of s) a (neither_left (leb (rules_of s) a) _ e) in
      record {
        there = omega (arith, rules_length s 0 (rules_of s));
        kind_is = ap (λ (r : Rule). r.kind) (rules_at s (rules_of s) a h) ∙ kind_defeasible (part_of s a) (not-false _ (neither_right (leb (rules_of s) a) _ e));
      }

  pub pair_named : (j : ℕ) → j < pair_count_of s → PairOf rules (first_of s j) (second_of s j)
  pair_named j h =
      let e = pair_sound j h in
      let f = neither_right (not_defeasible s (first_of s j)) _ e in
      record {
        first = named_sound (first_of s j) (neither_left (not_defeasible s (first_of s j)) _ e);
        second = named_sound (second_of s j) (neither_left (not_defeasible s (second_of s j)) _ f);
        distinct = eqb-false (first_of s j) (second_of s j) (neither_right (not_defeasible s (second_of s j)) _ f);
      }

  -- ---- the limits of its program
  all_below_lem : (n : ℕ) (l : List ℕ) → all_below n l ≡ true → (x : ℕ) → Memᴰ x l → x < n
  unfolding all_below
  all_below_lem n [] e x m = absurd (Memᴰ.not-nil m)
  all_below_lem n (y ∷ l) e x m = go (all_below_lem n l (and_right (ltb y n) _ e) x) (Memᴰ.cases_cons m)
    where
      go : (Memᴰ x l → x < n) → (x ≡ y) ⊎ Memᴰ x l → x < n
      go f (inl q) = let b = ltb-true y n (and_left (ltb y n) _ e) in omega arith
      go f (inr k) = f k

  head_below : (j : ℕ) → j < rules_of s → head_byte (part_of s j) < 2 * atoms_of s
  head_below j h = let r = rule_sound j h in below_here (2 * atoms_of s) (part_of s j) 1 (omega arith) r.literals

  body_below : (j : ℕ) → j < rules_of s → all_below (2 * atoms_of s) (body_bytes (part_of s j)) ≡ true
  body_below j h = let r = rule_sound j h in below_after (2 * atoms_of s) (part_of s j) 1 (omega arith) r.literals

  pub sound_limits : Limits (program_in s)
  unfolding program_in
  sound_limits = record {
    atoms_limit = sound.few_atoms;
    rules_limit = let f = sound.few_rules in omega (arith, rules_length s 0 (rules_of s));
    defeasibles_limit = let f = bits_few (rules_of s) (le_refl (rules_of s)) in omega (arith, ap defeasibles (all_taken));
    heads_below = λ r m. let x = rules_found s 0 (rules_of s) r m in subst (λ (q : Rule). q.head < 2 * atoms_of s) (sym x.3) (head_below x.0 (omega (arith, x.2)));
    bodies_below = λ r m l k.
        let x = rules_found s 0 (rules_of s) r m in
        all_below_lem (2 * atoms_of s) (body_bytes (part_of s x.0)) (body_below x.0 (omega (arith, x.2))) l (subst (λ (q : Rule). Memᴰ l q.body) x.3 k);
    pairs_name = λ a b m.
        let x = pairs_found s 0 (pair_count_of s) a b m in
        subst (λ (k : ℕ). PairOf rules k b) (sym x.3) (subst (λ (k : ℕ). PairOf rules (first_of s x.0) k) (sym x.4) (pair_named x.0 (omega (arith, x.2))));
  }
    where
      all_taken : take (rules_of s) rules ≡ rules
      all_taken = ap (λ (n : ℕ). take n rules) (sym (rules_length s 0 (rules_of s))) ∙ take-length rules

-- every accepted image holds a program within the limits
pub accepted_limits : (s : List ℕ) → verdict s ≡ accepted → Limits (program_in s)
accepted_limits s e = sound_limits s (accepted_sound s e)

-- and each of its parts can be looked up
pub accepted_part : (s : List ℕ) → verdict s ≡ accepted → (i : ℕ) → i ≤ rules_of s → PartAt s i
accepted_part s e = (accepted_sound s e).parts
