-- Π with some defeasible rules: which rules are chosen, and the bits by which they are.
use mathlib.Core.Path.{◌≡◌, refl, sym, ap, ap₂, ◌∙◌}
use mathlib.Core.Bool.{Bool, true, false, not, ◌||◌, false≢true}
use mathlib.Core.List.Memᴰ
use mathlib.Core.List.{List, [], ◌∷◌, Memᴰ}
use mathlib.Core.Logic.{◌⊎◌, inl, inr, ⊎_elim}
use Prim.Native.Nat.{ℕ, zero, suc, ◌≤◌, ◌<◌}
use native.Mathlib.Nat.{le_refl, le_trans}
use native.Mathlib.Decide.{ℕ_discrete, dec_lt}
use native.Mathlib.Omega.{arith}
use lib.ListN.{length, take}
use Rattle.lists.specs.Lists.{keep}
use Rattle.lists.proofs.Places.{there}
use Rattle.lists.proofs.Lists.{T_true, keep_head, keep_tail, keep_cases}
use Rattle.literals.specs.Sets.{has}
use Rattle.literals.proofs.Tests.{true_T, or_right}
use Rattle.literals.proofs.Members.{has_empty}
use Rattle.program.specs.Program.{Kind, strict, defeasible, Rule, is_defeasible, next_bit, defeasibles_from, defeasibles, bit_of}
use Rattle.program.specs.Program.{fact, rule_at, chosen_from, Π_with, Π_mask, Π}

-- the bits ascend, and stay below the number of defeasible rules
next_le : (k : Kind) (n : ℕ) → n ≤ next_bit k n
next_le strict n = le_refl n
next_le defeasible n = omega arith

next_suc : (k : Kind) (n : ℕ) → is_defeasible k ≡ true → next_bit k n ≡ suc n
next_suc strict n e = absurd (false≢true e)
next_suc defeasible n e = refl

defeasibles_le : (n : ℕ) (l : List Rule) → n ≤ defeasibles_from n l
unfolding defeasibles_from
defeasibles_le n [] = le_refl n
defeasibles_le n (r ∷ l) = le_trans (next_le r.kind n) (defeasibles_le (next_bit r.kind n) l)

bits_below : (n : ℕ) (l : List Rule) (i : ℕ) → i < length l → is_defeasible (rule_at l i).kind ≡ true
    → defeasibles_from n (take i l) < defeasibles_from n l
unfolding defeasibles_from
bits_below n [] i h d = absurd (omega arith)
bits_below n (r ∷ l) zero h d = omega (arith, next_suc r.kind n d, defeasibles_le (next_bit r.kind n) l)
bits_below n (r ∷ l) (suc i) h d = bits_below (next_bit r.kind n) l i (omega arith) d

bits_ascend : (n : ℕ) (l : List Rule) (i j : ℕ) → i < j → is_defeasible (rule_at l i).kind ≡ true → i < length l
    → defeasibles_from n (take i l) < defeasibles_from n (take j l)
unfolding defeasibles_from
bits_ascend n [] i j h d b = absurd (omega arith)
bits_ascend n (r ∷ l) i zero h d b = absurd (omega arith)
bits_ascend n (r ∷ l) zero (suc j) h d b = omega (arith, next_suc r.kind n d, defeasibles_le (next_bit r.kind n) (take j l))
bits_ascend n (r ∷ l) (suc i) (suc j) h d b = bits_ascend (next_bit r.kind n) l i j (omega arith) d (omega arith)

pub bit_of_below_defeasibles : (l : List Rule) (i : ℕ) → i < length l → is_defeasible (rule_at l i).kind ≡ true → bit_of l i < defeasibles l
bit_of_below_defeasibles l i h d = bits_below 0 l i h d

pub bit_of_injective : (l : List Rule) (i j : ℕ) → i < length l → is_defeasible (rule_at l i).kind ≡ true
    → j < length l → is_defeasible (rule_at l j).kind ≡ true → bit_of l i ≡ bit_of l j → i ≡ j
bit_of_injective l i j hi di hj dj e = go (dec_lt i j) (dec_lt j i)
  where
    go : Dec (i < j) → Dec (j < i) → i ≡ j
    go (yes p) q = absurd (omega (arith, bits_ascend 0 l i j p di hi))
    go (no p) (yes q) = absurd (omega (arith, bits_ascend 0 l j i q dj hj))
    go (no p) (no q) = omega arith

-- a chosen rule is strict, or defeasible with a chosen bit
record Chosen (f : ℕ → Bool) (n : ℕ) (l : List Rule) (r : Rule) : Type 0 where
  at : ℕ
  inside : at < length l
  is : rule_at l at ≡ r
  defeasibly : is_defeasible r.kind ≡ true
  chosen : f (defeasibles_from n (take at l)) ≡ true

abbrev Strict : List Rule → Rule → Type 0
Strict l r = Memᴰ r l × (is_defeasible r.kind ≡ false)

chosen_cases : (f : ℕ → Bool) (n : ℕ) (l : List Rule) (r : Rule) → Memᴰ r (chosen_from f n l) → Strict l r ⊎ Chosen f n l r
unfolding chosen_from defeasibles_from
chosen_cases f n [] r i = absurd (Memᴰ.not-nil i)
chosen_cases f n (q ∷ l) r i =
    ⊎_elim (λ (e, t). here q.kind refl (T_true (not (is_defeasible q.kind) || f n) t) e)
    (λ j. ⊎_elim (λ s. inl (Memᴰ.tail s.0, s.1)) (λ c. inr (later c)) (chosen_cases f (next_bit q.kind n) l r j))
    (keep_cases (not (is_defeasible q.kind) || f n) q r (chosen_from f (next_bit q.kind n) l) i)
  where
    here : (k : Kind) → q.kind ≡ k → (not (is_defeasible k) || f n) ≡ true → r ≡ q → Strict (q ∷ l) r ⊎ Chosen f n (q ∷ l) r
    here strict e t p = inl (Memᴰ.head p, ap (λ (x : Rule). is_defeasible x.kind) p ∙ ap is_defeasible e)
    here defeasible e t p =
        inr (record {
          at = 0;
          inside = omega arith;
          is = sym p;
          defeasibly = ap (λ (x : Rule). is_defeasible x.kind) p ∙ ap is_defeasible e;
          chosen = t;
        })

    later : Chosen f (next_bit q.kind n) l r → Chosen f n (q ∷ l) r
    later c = record { at = suc c.at; inside = omega (arith, c.inside); is = c.is; defeasibly = c.defeasibly; chosen = c.chosen }

chosen_strict : (f : ℕ → Bool) (n : ℕ) (l : List Rule) (r : Rule) → Memᴰ r l → is_defeasible r.kind ≡ false
    → Memᴰ r (chosen_from f n l)
unfolding chosen_from
chosen_strict f n [] r i d = absurd (Memᴰ.not-nil i)
chosen_strict f n (q ∷ l) r i d =
    ⊎_elim here
    (λ j. keep_tail (not (is_defeasible q.kind) || f n) q (chosen_strict f (next_bit q.kind n) l r j d))
    (Memᴰ.cases_cons i)
  where
    rest : List Rule
    rest = chosen_from f (next_bit q.kind n) l

    here : r ≡ q → Memᴰ r (keep (not (is_defeasible q.kind) || f n) q rest)
    here p =
        let kind : is_defeasible q.kind ≡ false = ap (λ (x : Rule). is_defeasible x.kind) (sym p) ∙ d in
        Memᴰ.cast p
        (keep_head (not (is_defeasible q.kind) || f n) q rest
        (true_T (not (is_defeasible q.kind) || f n) (ap (λ (t : Bool). not t || f n) kind)))

chosen_at : (f : ℕ → Bool) (n : ℕ) (l : List Rule) (i : ℕ) → i < length l → f (defeasibles_from n (take i l)) ≡ true
    → Memᴰ (rule_at l i) (chosen_from f n l)
unfolding chosen_from defeasibles_from
chosen_at f n [] i h c = absurd (omega arith)
chosen_at f n (q ∷ l) zero h c =
    keep_head (not (is_defeasible q.kind) || f n) q (chosen_from f (next_bit q.kind n) l)
    (true_T (not (is_defeasible q.kind) || f n) (or_right (not (is_defeasible q.kind)) (f n) c))
chosen_at f n (q ∷ l) (suc i) h c =
    keep_tail (not (is_defeasible q.kind) || f n) q
    (chosen_at f (next_bit q.kind n) l i (omega arith) c)

chosen_ext : (f g : ℕ → Bool) (n : ℕ) (l : List Rule) → ((b : ℕ) → b < defeasibles_from n l → f b ≡ g b)
    → chosen_from f n l ≡ chosen_from g n l
unfolding chosen_from defeasibles_from
chosen_ext f g n [] e = refl
chosen_ext f g n (r ∷ l) e = ap₂ (λ (t : Bool) (k : List Rule). keep t r k) (test r.kind refl) (chosen_ext f g (next_bit r.kind n) l e)
  where
    test : (k : Kind) → r.kind ≡ k → (not (is_defeasible r.kind) || f n) ≡ (not (is_defeasible r.kind) || g n)
    test strict p = rw p
    test defeasible p =
        let next : next_bit r.kind n ≡ suc n = ap (λ (k : Kind). next_bit k n) p in
        ap (λ (t : Bool). not (is_defeasible r.kind) || t)
        (e n (omega (arith, defeasibles_le (next_bit r.kind n) l)))

module _ (rules : List Rule) where
  -- the choice matters only at the bits of the defeasible rules
  pub Π_with_ext_below : (f g : ℕ → Bool) → ((b : ℕ) → b < defeasibles rules → f b ≡ g b) → Π_with f rules ≡ Π_with g rules
  Π_with_ext_below f g e = chosen_ext f g 0 rules e

  pub Π_with_ext : (f g : ℕ → Bool) → ((b : ℕ) → f b ≡ g b) → Π_with f rules ≡ Π_with g rules
  Π_with_ext f g e = Π_with_ext_below f g (λ b l. e b)

  pub Π_mask_empty : Π_mask 0 rules ≡ Π rules
  Π_mask_empty = Π_with_ext (has 0) (λ _. false) has_empty

  pub Π_with_rules : (f : ℕ → Bool) (r : Rule) → Memᴰ r (Π_with f rules) → Memᴰ r rules
  Π_with_rules f r i = ⊎_elim (λ s. s.0) (λ c. Memᴰ.cast (sym c.is) (there (fact 0) rules c.at c.inside)) (chosen_cases f 0 rules r i)

  -- Π has the strict rules, and no others
  pub Π_has : (i : ℕ) → i < length rules → is_defeasible (rule_at rules i).kind ≡ false → Memᴰ (rule_at rules i) (Π rules)
  Π_has i h d = chosen_strict (λ _. false) 0 rules (rule_at rules i) (there (fact 0) rules i h) d

  pub Π_strict : (r : Rule) → Memᴰ r (Π rules) → is_defeasible r.kind ≡ false
  Π_strict r i = ⊎_elim (λ s. s.1) (λ c. absurd (false≢true c.chosen)) (chosen_cases (λ _. false) 0 rules r i)

  -- rule i, where its bit is chosen
  pub Π_with_at : (f : ℕ → Bool) (i : ℕ) → i < length rules → f (bit_of rules i) ≡ true → Memᴰ (rule_at rules i) (Π_with f rules)
  Π_with_at f i h c = chosen_at f 0 rules i h c

  pub Π_with_mono : (f g : ℕ → Bool) → ((b : ℕ) → f b ≡ true → g b ≡ true) → (r : Rule) → Memᴰ r (Π_with f rules)
      → Memᴰ r (Π_with g rules)
  Π_with_mono f g w r i =
      ⊎_elim (λ s. chosen_strict g 0 rules r s.0 s.1)
      (λ c. Memᴰ.cast (sym c.is) (chosen_at g 0 rules c.at c.inside (w (bit_of rules c.at) c.chosen)))
      (chosen_cases f 0 rules r i)

  -- a chosen rule is one of Π, or a defeasible one with a chosen bit
  pub Π_with_cases : (f : ℕ → Bool) (r : Rule) → Memᴰ r (Π_with f rules)
      → Memᴰ r (Π rules)
      ⊎ ((i : ℕ) × (i < length rules) × (rule_at rules i ≡ r) × (is_defeasible r.kind ≡ true) × (f (bit_of rules i) ≡ true))
  Π_with_cases f r i =
      ⊎_elim (λ s. inl (chosen_strict (λ _. false) 0 rules r s.0 s.1))
      (λ c. inr (c.at, c.inside, c.is, c.defeasibly, c.chosen)) (chosen_cases f 0 rules r i)

  -- a choice that lacks one bit of another lacks one rule of it at most
  pub Π_with_but_one : (f g : ℕ → Bool) (i : ℕ) → i < length rules → is_defeasible (rule_at rules i).kind ≡ true
      → ((b : ℕ) → (b ≡ bit_of rules i → ⊥) → f b ≡ true → g b ≡ true)
      → (r : Rule) → Memᴰ r (Π_with f rules) → Memᴰ r (Π_with g rules) ⊎ (r ≡ rule_at rules i)
  Π_with_but_one f g i h d w r m = ⊎_elim (λ s. inl (chosen_strict g 0 rules r s.0 s.1)) by_bit (chosen_cases f 0 rules r m)
    where
      by_bit : Chosen f 0 rules r → Memᴰ r (Π_with g rules) ⊎ (r ≡ rule_at rules i)
      by_bit c = go (ℕ_discrete (bit_of rules c.at) (bit_of rules i))
        where
          its_kind : is_defeasible (rule_at rules c.at).kind ≡ true
          its_kind = ap (λ (x : Rule). is_defeasible x.kind) c.is ∙ c.defeasibly

          go : Dec (bit_of rules c.at ≡ bit_of rules i) → Memᴰ r (Π_with g rules) ⊎ (r ≡ rule_at rules i)
          go (yes e) = inr (sym c.is ∙ ap (rule_at rules) (bit_of_injective rules c.at i c.inside its_kind h d e))
          go (no n) =
              inl (Memᴰ.cast (sym c.is) (chosen_at g 0 rules c.at c.inside (w (bit_of rules c.at) n c.chosen)))
