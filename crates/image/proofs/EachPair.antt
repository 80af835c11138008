-- Pair by pair: what the tests on one pair say, and one pair's verdict of all from it on.
use mathlib.Core.Path.{◌≡◌, refl, sym, ap, ◌∙◌}
use mathlib.Core.Bool.{Bool, true, false, not, ◌||◌}
use mathlib.Core.List.{List}
use Prim.Native.Nat.{ℕ, suc, ◌+◌, ◌-◌, ◌*◌, ◌<◌, ◌≤◌}
use native.Mathlib.Numerals.{add-one}
use native.Mathlib.Omega.{arith}
use lib.Dec.{eqb}
use borrow.Author.Tests.{eq-eqb, ne_eqb}
use Rattle.layout.specs.Layout.{rules_of, pair_count_of, size_of, first_of, second_of}
use Rattle.layout.specs.declared.Cause.TheVariants.{LastPartLength, PairNames, PairOrder}
use Rattle.layout.specs.Causes.{Verdict, accepted, refuse, and_then, not_defeasible, bad_pairs, bad_order, pair_verdict, pairs_verdict}

module _ (s : List ℕ) (j : ℕ) where
  -- causes 12 and 13 by their tests
  pub pair_by : (a b c d : Bool) → not_defeasible s (first_of s j) ≡ a → not_defeasible s (second_of s j) ≡ b → eqb (first_of s j) (second_of s j) ≡ c → bad_order s j ≡ d → and_then (refuse (a || (b || c)) PairNames j) (refuse d PairOrder j) ≡ pair_verdict s j
  unfolding pair_verdict
  pair_by a b c d ea eb ec ed = sym (rw (ea, eb, ec, ed) refl)

  -- the pairs from pair j to pair n
  pub pairs_next : (n : ℕ) (v : Verdict) → j < n → pair_verdict s j ≡ v → pairs_verdict s j (n - j) ≡ and_then v (pairs_verdict s (j + 1) (n - (j + 1)))
  unfolding pairs_verdict
  pairs_next n v more e =
      let m = n - (j + 1) in
      let z : n - j ≡ suc m = omega arith in
      ap (pairs_verdict s j) z ∙ ap (λ (w : Verdict). and_then w (pairs_verdict s (suc j) m)) e
      ∙ ap (λ (k : ℕ). and_then v (pairs_verdict s k m)) (sym (add-one j))

  pub pairs_end : (n : ℕ) → n ≤ j → pairs_verdict s j (n - j) ≡ accepted
  unfolding pairs_verdict
  pairs_end n h = let z : n - j ≡ 0 = omega arith in rw z refl

-- 11 by the size of the last part
module _ (s : List ℕ) (size count : ℕ) (is : size ≡ size_of s (rules_of s)) (many : count ≡ pair_count_of s) where
  pub pairs_short : (size ≡ 2 * count → ⊥) → bad_pairs s ≡ true
  pairs_short h = ap not (ne_eqb (size_of s (rules_of s)) (2 * pair_count_of s) (λ e. h (is ∙ e ∙ ap (λ (n : ℕ). 2 * n) (sym many))))

  pub pairs_sized : size ≡ 2 * count → bad_pairs s ≡ false
  pairs_sized h = ap not (eq-eqb (size_of s (rules_of s)) (2 * pair_count_of s) (sym is ∙ h ∙ ap (λ (n : ℕ). 2 * n) many))

-- and then the pairs
pub after_eleven : (s : List ℕ) (b : Bool) (v : Verdict) → bad_pairs s ≡ b → and_then (refuse (bad_pairs s) LastPartLength 0) v ≡ and_then (refuse b LastPartLength 0) v
after_eleven s b v e = ap (λ (t : Bool). and_then (refuse t LastPartLength 0) v) e
