-- "they get bits 0 to 15 in table order": how the defeasible rules are numbered by bits. The laws of `defeasibles_from` go
-- down the list, those of `bit_of` follow from them.
use mathlib.Core.Path.{◌≡◌, refl, ap}
use mathlib.Core.List.{List, [], ◌∷◌}
use mathlib.Core.Bool.{true, false≢true}
use Prim.Native.Nat.{ℕ, zero, suc, ◌<◌, ◌≤◌}
use native.Mathlib.Decide.{dec_lt}
use native.Mathlib.Omega.{arith}
use lib.ListN.{take}
use lib.Seq.{take-length}
use Rattle.program.specs.Program.{Kind, strict, defeasible, Rule, is_defeasible, next_bit, rule_at}
use Rattle.program.specs.Program.{defeasibles_from, defeasibles, bit_of}
use Rattle.program.specs.Limits.{DefeasibleAt}

-- ---- the kind of a rule, as a test and as a statement

kind_is : (k : Kind) → is_defeasible k ≡ true → k ≡ defeasible
kind_is strict e = absurd (false≢true e)
kind_is defeasible e = refl

pub defeasible_test : {l : List Rule} {i : ℕ} → DefeasibleAt l i → is_defeasible (rule_at l i).kind ≡ true
defeasible_test d = ap is_defeasible d.kind_is

-- past the end stands a fact, so that what is defeasible is there
pub defeasible_found : (l : List Rule) (i : ℕ) → is_defeasible (rule_at l i).kind ≡ true → DefeasibleAt l i
defeasible_found [] i e = absurd (false≢true e)
defeasible_found (r ∷ l) zero e = record { there = omega arith; kind_is = kind_is r.kind e }
defeasible_found (r ∷ l) (suc i) e =
    let d = defeasible_found l i e in
    record { there = omega (arith, d.there); kind_is = d.kind_is }

-- ---- counted on from n

next_le : (k : Kind) (n : ℕ) → n ≤ next_bit k n
next_le strict n = omega arith
next_le defeasible n = omega arith

count_le : (n : ℕ) (l : List Rule) → n ≤ defeasibles_from n l
unfolding defeasibles_from
count_le n [] = omega arith
count_le n (r ∷ l) = omega (arith, next_le r.kind n, count_le (next_bit r.kind n) l)

-- the first i rules and the first j
count_mono : (n i j : ℕ) (l : List Rule) → i ≤ j → defeasibles_from n (take i l) ≤ defeasibles_from n (take j l)
unfolding defeasibles_from
count_mono n zero j l h = count_le n (take j l)
count_mono n (suc i) zero l h = absurd (omega arith)
count_mono n (suc i) (suc j) [] h = omega arith
count_mono n (suc i) (suc j) (r ∷ l) h = count_mono (next_bit r.kind n) i j l (omega arith)

-- one rule more
count_step : (n i : ℕ) (l : List Rule) → (rule_at l i).kind ≡ defeasible
    → defeasibles_from n (take (suc i) l) ≡ suc (defeasibles_from n (take i l))
unfolding defeasibles_from
count_step n i [] e = absurd (false≢true (ap is_defeasible e))
count_step n zero (r ∷ l) e = ap (λ (k : Kind). next_bit k n) e
count_step n (suc i) (r ∷ l) e = count_step (next_bit r.kind n) i l e

-- each number counted from n on is some rule's
abbrev Counted : ℕ → ℕ → List Rule → Type 0
Counted n b l = (i : ℕ) × DefeasibleAt l i × (defeasibles_from n (take i l) ≡ b)

count_found : (n b : ℕ) (l : List Rule) → n ≤ b → b < defeasibles_from n l → Counted n b l
unfolding defeasibles_from
count_found n b [] h k = absurd (omega arith)
count_found n b (r ∷ l) h k = go r.kind refl (count_found (next_bit r.kind n) b l)
  where
    later : Counted (next_bit r.kind n) b l → Counted n b (r ∷ l)
    later (i, d, e) = (suc i, record { there = omega (arith, d.there); kind_is = d.kind_is }, e)

    go : (c : Kind) → r.kind ≡ c
        → (next_bit r.kind n ≤ b → b < defeasibles_from (next_bit r.kind n) l → Counted (next_bit r.kind n) b l)
        → Counted n b (r ∷ l)
    go strict e rest = later (rest (omega (arith, ap (λ (c : Kind). next_bit c n) e)) k)
    go defeasible e rest = here (dec_lt n b)
      where
        here : Dec (n < b) → Counted n b (r ∷ l)
        here (yes q) = later (rest (omega (arith, ap (λ (c : Kind). next_bit c n) e)) k)
        here (no q) = (0, record { there = omega arith; kind_is = e }, omega arith)

-- ---- the bits of the rules

module _ (l : List Rule) where
  pub bit_of_mono : (i j : ℕ) → i ≤ j → bit_of l i ≤ bit_of l j
  bit_of_mono i j h = count_mono 0 i j l h

  pub bit_of_step : {i : ℕ} → DefeasibleAt l i → bit_of l (suc i) ≡ suc (bit_of l i)
  bit_of_step {i} d = count_step 0 i l d.kind_is

  -- a defeasible rule's bit is below that of every later one
  pub bit_of_less : {i j : ℕ} → DefeasibleAt l i → i < j → bit_of l i < bit_of l j
  bit_of_less {i} {j} d h = omega (arith, bit_of_step d, bit_of_mono (suc i) j h)

  -- and below the number of defeasible rules
  pub bit_of_below : {i : ℕ} → DefeasibleAt l i → bit_of l i < defeasibles l
  bit_of_below {i} d = omega (arith, bit_of_less d d.there, ap defeasibles (take-length l))

  -- two defeasible rules with one bit are one
  pub bit_of_same : {i j : ℕ} → DefeasibleAt l i → DefeasibleAt l j → bit_of l i ≡ bit_of l j → i ≡ j
  bit_of_same {i} {j} d f e = go (dec_lt i j) (dec_lt j i)
    where
      go : Dec (i < j) → Dec (j < i) → i ≡ j
      go (yes h) k = absurd (omega (arith, bit_of_less d h))
      go (no h) (yes k) = absurd (omega (arith, bit_of_less f k))
      go (no h) (no k) = omega arith

  -- every bit that is given out is a rule's
  pub bit_of_found : (b : ℕ) → b < defeasibles l → (i : ℕ) × DefeasibleAt l i × (bit_of l i ≡ b)
  bit_of_found b h = count_found 0 b l (omega arith) h
