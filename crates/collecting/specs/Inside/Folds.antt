-- Sums and lists that are joined part by part.
use Rattle.std.specs.Prelude.{List, [], ◌++◌, ℕ, zero, suc, ◌+◌}
use Rattle.lists.specs.Lists.{choose}
use Rattle.literals.specs.Sets.{has}

-- the n parts from f k on, joined
unfoldable pub fold_from : (A : Type 0) → (A → A → A) → A → (ℕ → A) → ℕ → ℕ → A
fold_from A join none f k zero = none
fold_from A join none f k (suc n) = join (f k) (fold_from A join none f (suc k) n)

-- only the parts whose numbers are members of s
abbrev pub only : (A : Type 0) → A → ℕ → (ℕ → A) → ℕ → A
only A none s f k = choose (has s k) (f k) none

abbrev pub sum : (ℕ → ℕ) → ℕ → ℕ → ℕ
sum f k n = fold_from ℕ ◌+◌ 0 f k n

abbrev pub lists : (ℕ → List ℕ) → ℕ → ℕ → List ℕ
lists f k n = fold_from (List ℕ) ◌++◌ [] f k n
