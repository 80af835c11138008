-- "the first beats the second": the mask of the rules that a rule beats by a listed pair has the bits of those that the pairs
-- list, and no other.
use mathlib.Core.Path.{◌≡◌, refl, sym, ap, ◌∙◌}
use mathlib.Core.List.{List, [], ◌∷◌, Memᴰ}
use mathlib.Core.Bool.{Bool, true, false, false≢true}
use mathlib.Core.Logic.{◌⊎◌, inl, inr}
use Prim.Native.Nat.{ℕ}
use lib.Dec.{eqb}
use borrow.Author.Tests.{eqb-true, eq-eqb}
use Rattle.lists.specs.Lists.{choose}
use Rattle.literals.specs.Sets.{has, insert}
use Rattle.literals.proofs.Members.{has_empty, has_insert_same, insert_cases, insert_keeps}
use Rattle.program.specs.Program.{Rule, Program, bit_of}
use Rattle.program.specs.Inside.Filling.{listed_from, listed_mask}

-- ---- added to a mask, pair by pair

module _ (l : List Rule) (a : ℕ) where
  -- the mask after one pair
  abbrev after : ℕ → ℕ × ℕ → ℕ
  after m q = choose (eqb q.0 a) (insert m (bit_of l q.1)) m

  after_keeps : (m k : ℕ) (q : ℕ × ℕ) → has m k ≡ true → has (after m q) k ≡ true
  after_keeps m k q h = go (eqb q.0 a)
    where
      go : (t : Bool) → has (choose t (insert m (bit_of l q.1)) m) k ≡ true
      go true = insert_keeps m (bit_of l q.1) k h
      go false = h

  after_has : (m b : ℕ) → has (after m (a, b)) (bit_of l b) ≡ true
  after_has m b =
      ap (λ (t : Bool). has (choose t (insert m (bit_of l b)) m) (bit_of l b)) (eq-eqb a a refl)
      ∙ has_insert_same m (bit_of l b)

  after_found : (m k : ℕ) (q : ℕ × ℕ) → has (after m q) k ≡ true → (has m k ≡ true) ⊎ ((q.0 ≡ a) × (bit_of l q.1 ≡ k))
  after_found m k q h = go (eqb q.0 a) refl h
    where
      listed : q.0 ≡ a → (has m k ≡ true) ⊎ (k ≡ bit_of l q.1) → (has m k ≡ true) ⊎ ((q.0 ≡ a) × (bit_of l q.1 ≡ k))
      listed e (inl g) = inl g
      listed e (inr g) = inr (e, sym g)

      go : (t : Bool) → eqb q.0 a ≡ t → has (choose t (insert m (bit_of l q.1)) m) k ≡ true
          → (has m k ≡ true) ⊎ ((q.0 ≡ a) × (bit_of l q.1 ≡ k))
      go true e g = listed (eqb-true q.0 a e) (insert_cases m (bit_of l q.1) k g)
      go false e g = inl g

  all_keeps : (m k : ℕ) (ps : List (ℕ × ℕ)) → has m k ≡ true → has (listed_from l a m ps) k ≡ true
  unfolding listed_from
  all_keeps m k [] h = h
  all_keeps m k (q ∷ ps) h = all_keeps (after m q) k ps (after_keeps m k q h)

  all_has : (m b : ℕ) (ps : List (ℕ × ℕ)) → Memᴰ (a, b) ps → has (listed_from l a m ps) (bit_of l b) ≡ true
  unfolding listed_from
  all_has m b [] none = elim none [ ]
  all_has m b (q ∷ ps) (Memᴰ.head e) =
      all_keeps (after m q) (bit_of l b) ps (ap (λ (x : ℕ × ℕ). has (after m x) (bit_of l b)) (sym e) ∙ after_has m b)
  all_has m b (q ∷ ps) (Memᴰ.tail i) = all_has (after m q) b ps i

  -- a rule with bit k that the pairs list as beaten
  abbrev Listed : List (ℕ × ℕ) → ℕ → Type 0
  Listed ps k = (b : ℕ) × Memᴰ (a, b) ps × (bit_of l b ≡ k)

  all_found : (m k : ℕ) (ps : List (ℕ × ℕ)) → has (listed_from l a m ps) k ≡ true → (has m k ≡ true) ⊎ Listed ps k
  unfolding listed_from
  all_found m k [] h = inl h
  all_found m k (q ∷ ps) h = go (all_found (after m q) k ps h)
    where
      first : (has m k ≡ true) ⊎ ((q.0 ≡ a) × (bit_of l q.1 ≡ k)) → (has m k ≡ true) ⊎ Listed (q ∷ ps) k
      first (inl g) = inl g
      first (inr (e, g)) = inr (q.1, Memᴰ.head (ap (λ (x : ℕ). (x, q.1)) (sym e)), g)

      go : (has (after m q) k ≡ true) ⊎ Listed ps k → (has m k ≡ true) ⊎ Listed (q ∷ ps) k
      go (inl g) = first (after_found m k q g)
      go (inr (b, i, g)) = inr (b, Memᴰ.tail i, g)

-- ---- of a program

module _ (p : Program) (a : ℕ) where
  -- each bit of the mask is that of a rule that is listed as beaten
  pub listed_found : (k : ℕ) → has (listed_mask p a) k ≡ true
      → (b : ℕ) × Memᴰ (a, b) p.pairs × (bit_of p.rules b ≡ k)
  listed_found k h = go (all_found p.rules a 0 k p.pairs h)
    where
      go : (has 0 k ≡ true) ⊎ Listed p.rules a p.pairs k → Listed p.rules a p.pairs k
      go (inl e) = absurd (false≢true (sym (has_empty k) ∙ e))
      go (inr f) = f

  -- and the bit of each such rule is there
  pub listed_has : (b : ℕ) → Memᴰ (a, b) p.pairs → has (listed_mask p a) (bit_of p.rules b) ≡ true
  listed_has b i = all_has p.rules a 0 b p.pairs i
