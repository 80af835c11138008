-- The literals of a list of arguments, one after the other.
use mathlib.Core.Path.{◌≡◌, sym, subst}
use mathlib.Core.Bool.{true}
use mathlib.Core.List.{List}
use Prim.Native.Nat.{ℕ, ◌+◌, ◌<◌, ◌≤◌}
use native.Mathlib.Omega.{arith}
use lib.ListN.{length, get_or}
use borrow.Author.Count.{below_more}
use Rattle.lists.proofs.Places.{found}
use Rattle.literals.specs.Sets.{has, insert}
use Rattle.literals.proofs.Members.{has_insert_same, insert_keeps}
use Rattle.argument.specs.Argument.{literal_of}
use Rattle.excluded.specs.Inside.Exclusions.{Conclusions}

-- the first n of the list l are looked at
abbrev pub Looked : List ℕ → ℕ → ℕ → Type 0
Looked l u n = (k : ℕ) → k < n → 128 ≤ get_or l k 0 → has u (literal_of (get_or l k 0)) ≡ true

module _ (l : List ℕ) (u n : ℕ) (w : Looked l u n) where
  pub looked_skip : get_or l n 0 < 128 → Looked l u (n + 1)
  looked_skip h = below_more _ n w (λ i. absurd (omega arith))

  pub looked_more : (v h : ℕ) → h ≡ literal_of (get_or l n 0) → v ≡ insert u h → Looked l v (n + 1)
  looked_more v h e q = rw (q, e)
      (below_more _ n (λ k i j. insert_keeps u (literal_of (get_or l n 0)) (literal_of (get_or l k 0)) (w k i j))
      (λ j. has_insert_same u (literal_of (get_or l n 0))))

pub looked_all : (l : List ℕ) (u n : ℕ) → length l ≤ n → Looked l u n → Conclusions u l
looked_all l u n q w x i h = go (found 0 l x i)
  where
    go : (k : ℕ) × (k < length l) × (get_or l k 0 ≡ x) → has u (literal_of x) ≡ true
    go (k, j, e) =
        subst (λ (y : ℕ). has u (literal_of y) ≡ true) e (w k (omega arith) (subst (λ (y : ℕ). 128 ≤ y) (sym e) h))
