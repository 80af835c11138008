-- The rules and pairs that an image holds, one by one.
use mathlib.Core.Path.{◌≡◌, refl, sym, ap, ◌∙◌}
use mathlib.Core.List.Memᴰ
use mathlib.Core.List.{List, Memᴰ}
use mathlib.Core.Logic.{◌⊎◌, inl, inr}
use mathlib.Core.Bool.{Bool}
use Prim.Native.Nat.{ℕ, zero, suc, ◌+◌, ◌-◌, ◌<◌, ◌≤◌}
use native.Mathlib.Numerals.{add-one}
use native.Mathlib.Nat.{add-zero}
use native.Mathlib.Omega.{arith}
use lib.ListN.{length}
use lib.Dec.{eqb}
use borrow.Author.Tests.{eq-eqb, ne_eqb}
use Rattle.lists.specs.Lists.{choose}
use Rattle.literals.specs.Sets.{insert}
use Rattle.program.specs.Program.{Rule, rule_at, bit_of}
use Rattle.program.specs.Inside.Filling.{listed_from}
use Rattle.layout.specs.Layout.{part_of, first_of, second_of}
use Rattle.layout.specs.Reading.{rule_in, rules_in, pairs_in}

pub rules_length : (s : List ℕ) (i n : ℕ) → length (rules_in s i n) ≡ n
unfolding rules_in
rules_length s i zero = refl
rules_length s i (suc n) = ap suc (rules_length s (suc i) n)

rules_from_lem : (s : List ℕ) (i n j : ℕ) → j < n → rule_at (rules_in s i n) j ≡ rule_in (part_of s (i + j))
unfolding rules_in
rules_from_lem s i zero j h = absurd (omega arith)
rules_from_lem s i (suc n) zero h = ap (λ (k : ℕ). rule_in (part_of s k)) (sym (add-zero i))
rules_from_lem s i (suc n) (suc j) h = rules_from_lem s (suc i) n j (omega arith) ∙ ap (λ (k : ℕ). rule_in (part_of s k)) (omega arith)

pub rules_at : (s : List ℕ) (n j : ℕ) → j < n → rule_at (rules_in s 0 n) j ≡ rule_in (part_of s j)
rules_at s n j h = rules_from_lem s 0 n j h ∙ ap (λ (k : ℕ). rule_in (part_of s k)) (omega arith)

-- each rule is that of some part
pub rules_found : (s : List ℕ) (i n : ℕ) (r : Rule) → Memᴰ r (rules_in s i n) → (j : ℕ) × (i ≤ j) × (j < i + n) × (r ≡ rule_in (part_of s j))
unfolding rules_in
rules_found s i zero r m = absurd (Memᴰ.not-nil m)
rules_found s i (suc n) r m = go (rules_found s (suc i) n r) (Memᴰ.cases_cons m)
  where
    go : (Memᴰ r (rules_in s (suc i) n) → (j : ℕ) × (suc i ≤ j) × (j < suc i + n) × (r ≡ rule_in (part_of s j))) → (r ≡ rule_in (part_of s i)) ⊎ Memᴰ r (rules_in s (suc i) n) → (j : ℕ) × (i ≤ j) × (j < i + suc n) × (r ≡ rule_in (part_of s j))
    go f (inl e) = (i, omega arith, omega arith, e)
    go f (inr k) = let x = f k in let a = x.1 in let b = x.2 in (x.0, omega arith, omega arith, x.3)

pub pairs_length : (s : List ℕ) (j n : ℕ) → length (pairs_in s j n) ≡ n
unfolding pairs_in
pairs_length s j zero = refl
pairs_length s j (suc n) = ap suc (pairs_length s (suc j) n)

-- each pair is that of some place
pub pairs_found : (s : List ℕ) (j n a b : ℕ) → Memᴰ (a, b) (pairs_in s j n) → (k : ℕ) × (j ≤ k) × (k < j + n) × (a ≡ first_of s k) × (b ≡ second_of s k)
unfolding pairs_in
pairs_found s j zero a b m = absurd (Memᴰ.not-nil m)
pairs_found s j (suc n) a b m = go (pairs_found s (suc j) n a b) (Memᴰ.cases_cons m)
  where
    go : (Memᴰ (a, b) (pairs_in s (suc j) n) → (k : ℕ) × (suc j ≤ k) × (k < suc j + n) × (a ≡ first_of s k) × (b ≡ second_of s k)) → (◌≡◌ {A = ℕ × ℕ} (a, b) (first_of s j, second_of s j)) ⊎ Memᴰ (a, b) (pairs_in s (suc j) n) → (k : ℕ) × (j ≤ k) × (k < j + suc n) × (a ≡ first_of s k) × (b ≡ second_of s k)
    go f (inl e) = (j, omega arith, omega arith, ap (λ (q : ℕ × ℕ). q.0) e, ap (λ (q : ℕ × ℕ). q.1) e)
    go f (inr k) = let x = f k in let l = x.1 in let u = x.2 in (x.0, omega arith, omega arith, x.3, x.4)

-- ---- the rules that are listed after a rule, by the pairs from pair j to pair n
module _ (s : List ℕ) (l : List Rule) (a m j n : ℕ) (h : j < n) where
  listed_next : listed_from l a m (pairs_in s j (n - j)) ≡ listed_from l a (choose (eqb (first_of s j) a) (insert m (bit_of l (second_of s j))) m) (pairs_in s (j + 1) (n - (j + 1)))
  unfolding pairs_in listed_from
  listed_next =
      let z : n - j ≡ suc (n - (j + 1)) = omega arith in
      ap (λ (k : ℕ). listed_from l a m (pairs_in s j k)) z
      ∙ ap (λ (k : ℕ). listed_from l a (choose (eqb (first_of s j) a) (insert m (bit_of l (second_of s j))) m) (pairs_in s k (n - (j + 1)))) (sym (add-one j))

  pub listed_other : (first_of s j ≡ a → ⊥) → listed_from l a m (pairs_in s j (n - j)) ≡ listed_from l a m (pairs_in s (j + 1) (n - (j + 1)))
  listed_other d =
      listed_next
      ∙ ap (λ (b : Bool). listed_from l a (choose b (insert m (bit_of l (second_of s j))) m) (pairs_in s (j + 1) (n - (j + 1)))) (ne_eqb (first_of s j) a d)

  pub listed_one : first_of s j ≡ a → listed_from l a m (pairs_in s j (n - j)) ≡ listed_from l a (insert m (bit_of l (second_of s j))) (pairs_in s (j + 1) (n - (j + 1)))
  listed_one e =
      listed_next
      ∙ ap (λ (b : Bool). listed_from l a (choose b (insert m (bit_of l (second_of s j))) m) (pairs_in s (j + 1) (n - (j + 1)))) (eq-eqb (first_of s j) a e)

pub listed_end : (s : List ℕ) (l : List Rule) (a m j n : ℕ) → n ≤ j → listed_from l a m (pairs_in s j (n - j)) ≡ m
unfolding pairs_in listed_from
listed_end s l a m j n h = let z : n - j ≡ 0 = omega arith in ap (λ (k : ℕ). listed_from l a m (pairs_in s j k)) z
