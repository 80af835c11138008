-- The limits the other way: an image whose program is within them has no literal and no pair that is refused. With
-- `accepted_limits` they ask neither more nor less of literals and pairs than causes 6 and 12 do.
use mathlib.Core.Path.{◌≡◌, refl, sym, ap, subst, ◌∙◌}
use mathlib.Core.Bool.{Bool, true, false, not}
use mathlib.Core.List.{List, [], ◌∷◌, Memᴰ}
use Prim.Native.Nat.{ℕ, zero, suc, ◌+◌, ◌*◌, ◌<◌}
use native.Mathlib.Nat.{add-zero}
use native.Mathlib.Omega.{arith}
use lib.ListN.{drop}
use lib.Dec.{ltb, eqb}
use borrow.Author.Tests.{lt-ltb, lt-leb, ne_eqb}
use Rattle.literals.proofs.Tests.{and_intro}
use Rattle.program.specs.Program.{defeasible, Rule, is_defeasible}
use Rattle.program.specs.Limits.{DefeasibleAt, Limits}
use Rattle.layout.specs.Layout.{atoms_of, rules_of, pair_count_of, part_of, kind_byte, first_of, second_of}
use Rattle.layout.proofs.Directory.{neither}
use Rattle.layout.specs.Causes.{all_below, bad_literal, not_defeasible, bad_pair}
use Rattle.layout.specs.Reading.{rule_in, rules_in, pairs_in, program_in}
use Rattle.image.proofs.EachRule.{kind_strict}
use Rattle.image.proofs.Readings.{rules_length, rules_at}

-- ---- the rules and pairs of the parts are the program's
pairs_from : (s : List ℕ) (j n i : ℕ) → i < n → Memᴰ (first_of s (j + i), second_of s (j + i)) (pairs_in s j n)
unfolding pairs_in
pairs_from s j zero i h = absurd (omega arith)
pairs_from s j (suc n) zero h =
    subst (λ (k : ℕ). Memᴰ (first_of s k, second_of s k) (pairs_in s j (suc n))) (sym (add-zero j)) (Memᴰ.head refl)
pairs_from s j (suc n) (suc i) h =
    let z : suc j + i ≡ j + suc i = omega arith in
    subst (λ (k : ℕ). Memᴰ (first_of s k, second_of s k) (pairs_in s j (suc n))) z
    (Memᴰ.tail (pairs_from s (suc j) n i (omega arith)))

rules_from_lem : (s : List ℕ) (j n i : ℕ) → i < n → Memᴰ (rule_in (part_of s (j + i))) (rules_in s j n)
unfolding rules_in
rules_from_lem s j zero i h = absurd (omega arith)
rules_from_lem s j (suc n) zero h =
    subst (λ (k : ℕ). Memᴰ (rule_in (part_of s k)) (rules_in s j (suc n))) (sym (add-zero j)) (Memᴰ.head refl)
rules_from_lem s j (suc n) (suc i) h =
    let z : suc j + i ≡ j + suc i = omega arith in
    subst (λ (k : ℕ). Memᴰ (rule_in (part_of s k)) (rules_in s j (suc n))) z
    (Memᴰ.tail (rules_from_lem s (suc j) n i (omega arith)))

-- ---- literals
below_all : (n : ℕ) (l : List ℕ) → ((x : ℕ) → Memᴰ x l → x < n) → all_below n l ≡ true
unfolding all_below
below_all n [] f = refl
below_all n (x ∷ l) f =
    and_intro (ltb x n) (all_below n l) (lt-ltb x n (f x (Memᴰ.head refl))) (below_all n l (λ y m. f y (Memᴰ.tail m)))

part_below : (n : ℕ) (part : List ℕ) → (rule_in part).head < n → ((x : ℕ) → Memᴰ x (rule_in part).body → x < n)
    → all_below n (drop 1 part) ≡ true
unfolding all_below
part_below n [] h f = refl
part_below n (k ∷ []) h f = refl
part_below n (k ∷ x ∷ l) h f = and_intro (ltb x n) (all_below n l) (lt-ltb x n h) (below_all n l f)

-- ---- pairs
kind_of : (part : List ℕ) → (rule_in part).kind ≡ defeasible → eqb (kind_byte part) 1 ≡ true
kind_of part e = go (eqb (kind_byte part) 1) refl
  where
    go : (b : Bool) → eqb (kind_byte part) 1 ≡ b → b ≡ true
    go true q = refl
    go false q = ap is_defeasible (sym (kind_strict part q) ∙ e)

module _ (s : List ℕ) (limits : Limits (program_in s)) where
  named : (a : ℕ) → DefeasibleAt (rules_in s 0 (rules_of s)) a → not_defeasible s a ≡ false
  named a d =
      let inside : a < rules_of s = omega (arith, d.there, rules_length s 0 (rules_of s)) in
      neither (lt-leb (rules_of s) a inside)
      (ap not (kind_of (part_of s a) (sym (ap (λ (r : Rule). r.kind) (rules_at s (rules_of s) a inside)) ∙ d.kind_is)))

  -- cause 6 applies to no rule
  pub limits_literals : (i : ℕ) → i < rules_of s → bad_literal (atoms_of s) (part_of s i) ≡ false
  unfolding program_in
  limits_literals i h =
      let z : 0 + i ≡ i = omega arith in
      let there = subst (λ (k : ℕ). Memᴰ (rule_in (part_of s k)) (rules_in s 0 (rules_of s))) z (rules_from_lem s 0 (rules_of s) i h) in
      ap not (part_below (2 * atoms_of s) (part_of s i)
      (limits.heads_below (rule_in (part_of s i)) there)
      (limits.bodies_below (rule_in (part_of s i)) there))

  -- cause 12 applies to no pair
  pub limits_pairs : (j : ℕ) → j < pair_count_of s → bad_pair s j ≡ false
  unfolding program_in
  limits_pairs j h =
      let z : 0 + j ≡ j = omega arith in
      let there = subst (λ (k : ℕ). Memᴰ (first_of s k, second_of s k) (pairs_in s 0 (pair_count_of s))) z (pairs_from s 0 (pair_count_of s) j h) in
      let p = limits.pairs_name (first_of s j) (second_of s j) there in
      neither (named (first_of s j) p.first)
      (neither (named (second_of s j) p.second) (ne_eqb (first_of s j) (second_of s j) p.distinct))
