-- The argument list holds the arguments and nothing else, each once, ascending; and no other list does.
use mathlib.Core.Path.{◌≡◌, sym, ap, ap₂, ◌∙◌, subst, subst₂}
use mathlib.Core.Bool.{Bool, true, false}
use mathlib.Core.List.Memᴰ
use mathlib.Core.List.{List, ◌++◌, Memᴰ}
use mathlib.Core.Logic.{◌⊎◌, inl, inr, ⊎_elim, ◌↔◌}
use Prim.Native.Nat.{ℕ, zero, suc, ◌+◌, ◌*◌, ◌^◌, ◌<◌, ◌≤◌}
use native.Mathlib.Nat.{eq-or-lt_of_le}
use native.Mathlib.Omega.{arith}
use lib.ListN.{length}
use Rattle.lists.specs.Lists.{keep, Ascending, Ascends, Within}
use Rattle.lists.proofs.Lists.{T_true, keep_head, keep_tail, keep_cases}
use Rattle.lists.proofs.Orders.{ascends_from, ascends_append, ascends_length, ascends_ascending, ascending_same}
use Rattle.literals.proofs.Tests.{true_T}
use Rattle.program.specs.Program.{Rule, defeasibles}
use Rattle.derivation.specs.Derivation.{HeadsBelow}
use Rattle.argument.specs.Argument.{Argument, mask_of, literal_of, ArgumentList}
use Rattle.argument.specs.List.{is_argument, picked, list_by, argument_list}
use Rattle.argument.proofs.Minimal.{argument_mask_below, argument_literal_below, is_argument_sound, is_argument_complete}

-- what is picked: the numbers that pass
module _ (test : ℕ → Bool) (base : ℕ) where
  abbrev Passed : ℕ → ℕ → ℕ → Type 0
  Passed k n x = (j : ℕ) × (k ≤ j) × (j < k + n) × (test j ≡ true) × (x ≡ base + j)

  pub picked_passed : (k n x : ℕ) → Memᴰ x (picked test base k n)
      → (j : ℕ) × (k ≤ j) × (j < k + n) × (test j ≡ true) × (x ≡ base + j)
  unfolding picked
  picked_passed k zero x i = absurd (Memᴰ.not-nil i)
  picked_passed k (suc n) x i =
      ⊎_elim (λ (e, t). (k, omega arith, omega arith, T_true (test k) t, e)) (λ q. later (picked_passed (suc k) n x q))
      (keep_cases (test k) (base + k) x (picked test base (suc k) n) i)
    where
      later : Passed (suc k) n x → Passed k (suc n) x
      later (j, a, b, t, e) = (j, omega arith, omega arith, t, e)

  pub passed_picked : (k n j : ℕ) → k ≤ j → j < k + n → test j ≡ true → Memᴰ (base + j) (picked test base k n)
  unfolding picked
  passed_picked k zero j a b t = absurd (omega arith)
  passed_picked k (suc n) j a b t =
      go (eq-or-lt_of_le {n = k} {m = j} a) (λ q. passed_picked (suc k) n j q (omega arith) t)
    where
      rest : List ℕ
      rest = picked test base (suc k) n

      go : (k ≡ j) ⊎ (k < j) → (suc k ≤ j → Memᴰ (base + j) rest) → Memᴰ (base + j) (keep (test k) (base + k) rest)
      go (inl q) f =
          subst (λ (x : ℕ). Memᴰ (base + x) (keep (test k) (base + k) rest)) q
          (keep_head (test k) (base + k) rest (true_T (test k) (ap test q ∙ t)))
      go (inr q) f = keep_tail (test k) (base + k) (f q)

-- what is listed: the numbers whose mask and literal pass
module _ (test : ℕ → ℕ → Bool) where
  pub listed_passed : (k n x : ℕ) → Memᴰ x (list_by test k n)
      → (k ≤ mask_of x) × (mask_of x < k + n) × (test (mask_of x) (literal_of x) ≡ true)
  unfolding list_by
  listed_passed k zero x i = absurd (Memᴰ.not-nil i)
  listed_passed k (suc n) x i =
      ⊎_elim (λ q. here (picked_passed (test k) (k * 128) 0 128 x q)) (λ q. later (listed_passed (suc k) n x q))
      (Memᴰ.append_cases (picked (test k) (k * 128) 0 128) i)
    where
      here : Passed (test k) (k * 128) 0 128 x
          → (k ≤ mask_of x) × (mask_of x < k + suc n) × (test (mask_of x) (literal_of x) ≡ true)
      here (j, a, b, t, e) =
          let u : mask_of x ≡ k = omega arith in
          let v : literal_of x ≡ j = omega arith in
          (omega arith, omega arith, ap₂ test u v ∙ t)

      later : (suc k ≤ mask_of x) × (mask_of x < suc k + n) × (test (mask_of x) (literal_of x) ≡ true)
          → (k ≤ mask_of x) × (mask_of x < k + suc n) × (test (mask_of x) (literal_of x) ≡ true)
      later (a, b, t) = (omega arith, omega arith, t)

  pub passed_listed : (k n x : ℕ) → k ≤ mask_of x → mask_of x < k + n → test (mask_of x) (literal_of x) ≡ true
      → Memᴰ x (list_by test k n)
  unfolding list_by
  passed_listed k zero x a b t = absurd (omega arith)
  passed_listed k (suc n) x a b t =
      go (eq-or-lt_of_le {n = k} {m = mask_of x} a) (λ q. passed_listed (suc k) n x q (omega arith) t)
    where
      first : List ℕ
      first = picked (test k) (k * 128) 0 128

      go : (k ≡ mask_of x) ⊎ (k < mask_of x) → (suc k ≤ mask_of x → Memᴰ x (list_by test (suc k) n))
          → Memᴰ x (first ++ list_by test (suc k) n)
      go (inl q) f =
          let whole : k * 128 + literal_of x ≡ x = omega arith in
          Memᴰ.append_left (list_by test (suc k) n)
          (subst (λ (y : ℕ). Memᴰ y first) whole
          (passed_picked (test k) (k * 128) 0 128 (literal_of x) (omega arith) (omega arith) (ap (λ (y : ℕ). test y (literal_of x)) q ∙ t)))
      go (inr q) f = Memᴰ.append_right first (f q)

-- they ascend
pub picked_ascends : (test : ℕ → Bool) (base k n : ℕ) → Ascends (base + k) (base + (k + n)) (picked test base k n)
unfolding picked
picked_ascends test base k zero = omega arith
picked_ascends test base k (suc n) =
    go (test k) (subst (λ (x : ℕ). Ascends (base + suc k) (base + x) rest) (omega arith) (picked_ascends test base (suc k) n))
  where
    rest : List ℕ
    rest = picked test base (suc k) n

    go : (t : Bool) → Ascends (base + suc k) (base + (k + suc n)) rest → Ascends (base + k) (base + (k + suc n)) (keep t (base + k) rest)
    go true c =
        (omega arith, omega arith, ascends_from rest (suc (base + k)) (base + suc k) (base + (k + suc n)) (omega arith) c)
    go false c = ascends_from rest (base + k) (base + suc k) (base + (k + suc n)) (omega arith) c

pub listed_ascends : (test : ℕ → ℕ → Bool) (k n : ℕ) → Ascends (k * 128) ((k + n) * 128) (list_by test k n)
unfolding list_by
listed_ascends test k zero = omega arith
listed_ascends test k (suc n) =
    ascends_append first (list_by test (suc k) n) (k * 128) (suc k * 128) ((k + suc n) * 128)
    (ascends_from first (k * 128) (k * 128 + 0) (suc k * 128) (omega arith)
    (subst (λ (x : ℕ). Ascends (k * 128 + 0) x first) (omega arith) (picked_ascends (test k) (k * 128) 0 128)))
    (subst (λ (x : ℕ). Ascends (suc k * 128) x (list_by test (suc k) n)) (omega arith) (listed_ascends test (suc k) n))
  where
    first : List ℕ
    first = picked (test k) (k * 128) 0 128

-- the list
pub list_ascends : (rules : List Rule) → Ascends 0 (2 ^ defeasibles rules * 128) (argument_list rules)
unfolding argument_list
list_ascends rules =
    subst (λ (x : ℕ). Ascends 0 x (list_by (is_argument rules) 0 (2 ^ defeasibles rules))) (omega arith)
    (listed_ascends (is_argument rules) 0 (2 ^ defeasibles rules))

pub list_ascending : (rules : List Rule) → Ascending (argument_list rules)
list_ascending rules = ascends_ascending (argument_list rules) 0 (2 ^ defeasibles rules * 128) (list_ascends rules)

pub list_length : (rules : List Rule) → length (argument_list rules) ≤ 2 ^ defeasibles rules * 128
list_length rules = omega (arith, ascends_length (argument_list rules) 0 (2 ^ defeasibles rules * 128) (list_ascends rules))

module _ (rules : List Rule) (heads : HeadsBelow 128 rules) where
  pub list_sound : (x : ℕ) → Memᴰ x (argument_list rules) → Argument rules (mask_of x) (literal_of x)
  unfolding argument_list
  list_sound x i =
      let r = listed_passed (is_argument rules) 0 (2 ^ defeasibles rules) x i in
      let below = r.1 in
      is_argument_sound rules (mask_of x) (literal_of x) heads (omega arith) r.2

  pub list_complete : (x : ℕ) → Argument rules (mask_of x) (literal_of x) → Memᴰ x (argument_list rules)
  unfolding argument_list
  list_complete x a =
      let below = argument_mask_below rules (mask_of x) (literal_of x) a in
      passed_listed (is_argument rules) 0 (2 ^ defeasibles rules) x (omega arith) (omega arith)
      (is_argument_complete rules (mask_of x) (literal_of x) a)

  -- by mask and literal
  pub argument_listed : (m h : ℕ) → Argument rules m h → Memᴰ (m * 128 + h) (argument_list rules)
  argument_listed m h a =
      let small = argument_literal_below rules m h a heads in
      let p : m ≡ mask_of (m * 128 + h) = omega arith in
      let q : h ≡ literal_of (m * 128 + h) = omega arith in
      list_complete (m * 128 + h) (subst₂ (Argument rules) p q a)

  -- it is the published list
  pub list_is : ArgumentList rules (argument_list rules)
  list_is = record {
    each_is_one = list_sound;
    has_each = argument_listed;
    ascends = list_ascending rules;
  }

  -- an argument's number is an entry
  has_each_number : (l : List ℕ) → ArgumentList rules l → (x : ℕ) → Argument rules (mask_of x) (literal_of x) → Memᴰ x l
  has_each_number l a x b =
      let whole : mask_of x * 128 + literal_of x ≡ x = omega arith in
      subst (λ (y : ℕ). Memᴰ y l) whole (a.has_each (mask_of x) (literal_of x) b)

  lists_within : (l m : List ℕ) → ArgumentList rules l → ArgumentList rules m → Within l m
  lists_within l m a b x i = has_each_number m b x (a.each_is_one x i)

  -- and the only one
  pub list_published : (l : List ℕ) → ArgumentList rules l ↔ (l ≡ argument_list rules)
  list_published l = (
    λ a.
        ascending_same l (argument_list rules) a.ascends (list_ascending rules)
        (lists_within l (argument_list rules) a list_is) (lists_within (argument_list rules) l list_is a),
    λ e. subst (ArgumentList rules) (sym e) list_is,
  )
