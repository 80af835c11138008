-- The functions on lists that the computed definitions use. In `any` and `all` the rest is bound by a `let`, which
-- waits: the first element that decides ends the test.
use Rattle.std.specs.Prelude.{Bool, true, false, ◌&&◌, ◌||◌, ℕ, zero, suc, ◌≤◌, ◌<◌, eqb, length}
use mathlib.Core.List.{List, [], ◌∷◌, map, Memᴰ}

module _ {A : Type 0} where
  -- a, where the test holds, and b where it does not
  abbrev pub choose : Bool → A → A → A
  choose true a b = a
  choose false a b = b

  -- every element of l is one of m
  abbrev pub Within : List A → List A → Type 0
  Within l m = (x : A) → Memᴰ x l → Memᴰ x m

  -- each element is before every one that follows it
  abbrev pub Ordered : (A → A → Type 0) → List A → Type 0
  Ordered before [] = Unit {0}
  Ordered before (x ∷ l) = ((y : A) → Memᴰ y l → before x y) × Ordered before l

  -- no element stands twice
  abbrev pub Distinct : List A → Type 0
  Distinct [] = Unit {0}
  Distinct (x ∷ l) = ¬ Memᴰ x l × Distinct l

  -- l, with x before it if the test passed
  abbrev pub keep : Bool → A → List A → List A
  keep true x l = x ∷ l
  keep false x l = l

  module _ (test : A → Bool) where
    -- whether some element passes
    abbrev pub any : List A → Bool
    any [] = false
    any (x ∷ l) = let rest = any l in test x || rest

    -- whether every element passes
    abbrev pub all : List A → Bool
    all [] = true
    all (x ∷ l) = let rest = all l in test x && rest

    -- the elements that pass, in their order
    abbrev pub filter : List A → List A
    filter [] = []
    filter (x ∷ l) = keep (test x) x (filter l)

-- whether the number stands in the list
abbrev pub member : ℕ → List ℕ → Bool
member n = any (eqb n)

-- whether some number stands twice
abbrev pub repeats : List ℕ → Bool
repeats [] = false
repeats (n ∷ l) = let rest = repeats l in member n l || rest

-- the `count` numbers from `first` on
abbrev pub upto : ℕ → ℕ → List ℕ
upto first zero = []
upto first (suc count) = first ∷ upto (suc first) count

-- the first place at which a number stands in a list: "index in the argument list"
abbrev pub index_in : List ℕ → ℕ → ℕ
index_in [] x = 0
index_in (y ∷ l) x = let later = index_in l x in choose (eqb y x) 0 (suc later)

-- where each number stands in a list of the first numbers in another order
unfoldable pub inverse : List ℕ → List ℕ
inverse l = map (index_in l) (upto 0 (length l))

-- strictly ascending: each number is below every one that follows it
abbrev pub Ascending : List ℕ → Type 0
Ascending = Ordered (λ x y. x < y)

-- the same, from low on and below high
abbrev pub Ascends : ℕ → ℕ → List ℕ → Type 0
Ascends low high [] = low ≤ high
Ascends low high (x ∷ l) = (low ≤ x) × (x < high) × Ascends (suc x) high l
