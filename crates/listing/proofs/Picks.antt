-- Lists of the numbers that pass a test: when two are the same, how long they are, and how they are taken apart and written.
use mathlib.Core.Path.{◌≡◌, refl, sym, ap, ap₂, ◌∙◌}
use mathlib.Core.Bool.{Bool, true, false, not, ◌&&◌}
use mathlib.Core.List.{List, [], ◌∷◌, ◌++◌}
use mathlib.Core.Logic.{◌⊎◌, inl, inr}
use Prim.Native.Nat.{ℕ, zero, suc, ◌+◌, ◌-◌, ◌*◌, ◌/◌, ◌^◌, ◌<◌, ◌≤◌}
use native.Mathlib.Nat.{eq-or-lt_of_le, zero-add, add-suc, pow-suc}
use native.Mathlib.Numerals.{add-one, one-add}
use native.Mathlib.Omega.{arith}
use lib.Dec.{eqb}
use lib.Count.{ones, ones_step}
use lib.ListN.{length}
use lib.Seq.{sets}
use borrow.Author.Tests.{eq-eqb, ne_eqb}
use Rattle.lists.specs.Lists.{keep}
use Rattle.lists.specs.Inside.Stores.{Written}
use Rattle.lists.proofs.Stores.{Writing, writing_room, writing_part, writing_none}
use Rattle.literals.specs.Sets.{has, bit, minus, LowestBelow}
use Rattle.literals.proofs.Bits.{bit_first, bit_below}
use Rattle.literals.proofs.Members.{has_half, has_empty, has_minus_power}
use Rattle.argument.specs.List.{picked, list_by}
use Rattle.listing.specs.Inside.Listing.{members_from}

pub picked_ext : (f g : ℕ → Bool) (base k n : ℕ) → ((j : ℕ) → k ≤ j → j < k + n → f j ≡ g j)
    → picked f base k n ≡ picked g base k n
unfolding picked
picked_ext f g base k zero e = refl
picked_ext f g base k (suc n) e =
    ap₂ (λ (t : Bool) (l : List ℕ). keep t (base + k) l) (e k (omega arith) (omega arith))
    (picked_ext f g base (suc k) n (λ j a b. e j (omega arith) (omega arith)))

pub picked_none : (f : ℕ → Bool) (base k n : ℕ) → ((j : ℕ) → f j ≡ false) → picked f base k n ≡ []
unfolding picked
picked_none f base k zero e = refl
picked_none f base k (suc n) e =
    ap (λ (t : Bool). keep t (base + k) (picked f base (suc k) n)) (e k) ∙ picked_none f base (suc k) n e

-- a test from c on
picked_shift : (f g : ℕ → Bool) (base c k n : ℕ) → ((j : ℕ) → f (c + j) ≡ g j) → picked f base (c + k) n ≡ picked g (base + c) k n
unfolding picked
picked_shift f g base c k zero e = refl
picked_shift f g base c k (suc n) e =
    let place : base + (c + k) ≡ base + c + k = omega arith in
    ap₂ (λ (t : Bool) (x : ℕ). keep t x (picked f base (suc (c + k)) n)) (e k) place
    ∙ ap (keep (g k) (base + c + k)) (ap (λ (j : ℕ). picked f base j n) (sym (add-suc c k)) ∙ picked_shift f g base c (suc k) n e)

pub members_none : (base n : ℕ) → members_from base n 0 ≡ []
members_none base n = picked_none (has 0) base 0 n has_empty

-- the lowest member first, and then the others
module _ (base n s b : ℕ) (lowest : LowestBelow n s b) where
  less : ℕ → Bool
  less j = has (minus s (2 ^ b)) j

  other : (j : ℕ) → (j ≡ b → ⊥) → has s j ≡ less j
  unfolding less
  other j n = sym (has_minus_power s b j ∙ ap (λ (t : Bool). has s j && not t) (ne_eqb j b n) ∙ and_true (has s j))
    where
      and_true : (t : Bool) → (t && true) ≡ t
      and_true true = refl
      and_true false = refl

  gone : less b ≡ false
  unfolding less
  gone = has_minus_power s b b ∙ ap (λ (t : Bool). has s b && not t) (eq-eqb b b refl) ∙ and_false (has s b)
    where
      and_false : (t : Bool) → (t && false) ≡ false
      and_false true = refl
      and_false false = refl

  lowest_from : (k n : ℕ) → k ≤ b → b < k + n → picked (has s) base k n ≡ (base + b) ∷ picked less base k n
  unfolding picked
  lowest_from k zero p q = absurd (omega arith)
  lowest_from k (suc n) p q = go (eq-or-lt_of_le {n = k} {m = b} p) (λ l. lowest_from (suc k) n l (omega arith))
    where
      go : (k ≡ b) ⊎ (k < b) → (k < b → picked (has s) base (suc k) n ≡ (base + b) ∷ picked less base (suc k) n)
          → picked (has s) base k (suc n) ≡ (base + b) ∷ picked less base k (suc n)
      go (inl e) f =
          ap₂ (λ (t : Bool) (l : List ℕ). keep t (base + k) l) (ap (has s) e ∙ lowest.member)
          (picked_ext (has s) less base (suc k) n (λ j x y. other j (λ z. omega arith)))
          ∙ ap₂ (λ (x : ℕ) (l : List ℕ). x ∷ l) (ap (λ (x : ℕ). base + x) e)
          (ap (λ (t : Bool). keep t (base + k) (picked less base (suc k) n)) (sym (ap less e ∙ gone)))
      go (inr l) f =
          ap (λ (t : Bool). keep t (base + k) (picked (has s) base (suc k) n)) (lowest.least k l) ∙ f l
          ∙ ap (λ (x : List ℕ). (base + b) ∷ x)
          (ap (λ (t : Bool). keep t (base + k) (picked less base (suc k) n))
          (sym (sym (other k (λ z. omega arith)) ∙ lowest.least k l)))

  pub members_lowest : members_from base n s ≡ (base + b) ∷ members_from base n (minus s (2 ^ b))
  unfolding less
  members_lowest = lowest_from 0 n (omega arith) (omega (arith, lowest.small))

-- as many as the set has members
pub members_length : (n base s : ℕ) → s < 2 ^ n → length (members_from base n s) ≡ ones s
unfolding picked has ones
members_length zero base s l = ap ones (sym (none s l))
  where
    none : (s : ℕ) → s < 1 → s ≡ 0
    none s l = omega arith
members_length (suc n) base s l =
    first (bit s 0) (bit_below s 0)
    ∙ ap₂ (λ (x y : ℕ). x + y) (bit_first s)
    (ap length (picked_shift (has s) (has (s / 2)) base 1 0 n (λ j. ap (has s) (one-add j) ∙ sym (has_half s j)))
    ∙ members_length n (base + 1) (s / 2) (omega (arith, pow-suc 2 n)))
    ∙ sym (ones_step s)
  where
    rest : List ℕ
    rest = picked (has s) base 1 n

    first : (d : ℕ) → d < 2 → length (keep (eqb d 1) (base + 0) rest) ≡ d + length rest
    first zero l = sym (zero-add (length rest))
    first (suc zero) l = sym (one-add (length rest))
    first (suc (suc d)) l = absurd (omega arith)

-- the numbers of the n masks from k on
pub listed_ext : (f g : ℕ → ℕ → Bool) (k n : ℕ) → ((m : ℕ) → m < k + n → (h : ℕ) → f m h ≡ g m h)
    → list_by f k n ≡ list_by g k n
unfolding list_by
listed_ext f g k zero e = refl
listed_ext f g k (suc n) e =
    ap₂ (λ (x y : List ℕ). x ++ y) (picked_ext (f k) (g k) (k * 128) 0 128 (λ j a b. e k (omega arith) j))
    (listed_ext f g (suc k) n (λ m l. e m (omega arith)))

pub listed_next : (f : ℕ → ℕ → Bool) (m end : ℕ) → m < end
    → list_by f m (end - m) ≡ picked (f m) (m * 128) 0 128 ++ list_by f (m + 1) (end - (m + 1))
unfolding list_by
listed_next f m end l =
    let more : end - m ≡ suc (end - (m + 1)) = omega arith in
    ap (list_by f m) more ∙ ap (λ (k : ℕ). picked (f m) (m * 128) 0 128 ++ list_by f k (end - (m + 1))) (sym (add-one m))

pub listed_end : (f : ℕ → ℕ → Bool) (m end : ℕ) → end ≤ m → list_by f m (end - m) ≡ []
unfolding list_by
listed_end f m end l = let none : end - m ≡ 0 = omega arith in ap (list_by f m) none

-- the members of a set for each number, for those from m on
module _ (s : ℕ → ℕ) (end : ℕ) where
  abbrev pub members_by : ℕ → List ℕ
  members_by m = list_by (λ k. has (s k)) m (end - m)

  pub members_next : (m x : ℕ) → m < end → x ≡ s m → members_by m ≡ members_from (m * 128) 128 x ++ members_by (m + 1)
  members_next m x l e =
      listed_next (λ k. has (s k)) m end l ∙ ap (λ (y : ℕ). members_from (m * 128) 128 y ++ members_by (m + 1)) (sym e)

  pub members_end : (m : ℕ) → end ≤ m → members_by m ≡ []
  members_end m l = listed_end (λ k. has (s k)) m end l

-- they are being written, and those from m on are left
module _ (s : ℕ → ℕ) (end : ℕ) (before after whole : List ℕ) (at m : ℕ)
    (state : Writing before after 0 at whole (members_by s end m)) where
  module _ (x : ℕ) (l : m < end) (e : x ≡ s m) where
    pub members_room : length whole ≤ length before → at + length (members_from (m * 128) 128 x) ≤ length after
    members_room h =
        writing_room before after 0 at whole (members_by s end m) state (members_from (m * 128) 128 x) (members_by s end (m + 1))
        (members_next s end m x l e) (omega arith)

    pub members_more : (more : List ℕ) (next : ℕ) → length more ≡ length after
        → Written after more at next (members_from (m * 128) 128 x) → Writing before more 0 next whole (members_by s end (m + 1))
    members_more =
        writing_part before after 0 at whole (members_by s end m) state (members_from (m * 128) 128 x) (members_by s end (m + 1))
        (members_next s end m x l e)

  pub members_written : end ≤ m → after ≡ sets before 0 whole
  members_written l = (writing_none before after 0 at whole (members_by s end m) state (members_end s end m l)).stored
