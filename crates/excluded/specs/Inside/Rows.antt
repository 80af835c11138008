-- Rows of two words: row l has bit x for a literal x from which Π derives l. And what is done to each row of a set of
-- literals.
use Rattle.std.specs.Prelude.{◌≡◌, Bool, true, false, ◌&&◌, ◌||◌, List, ◌⊎◌, ℕ, ◌+◌, ◌*◌, ◌/◌, ◌%◌, ◌^◌, ◌<◌, length, get_or}
use Rattle.literals.specs.Sets.{has, insert, union}
use Rattle.literals.specs.Inside.Words.{joined}
use Rattle.program.specs.Program.{Rule, Π}
use Rattle.derivation.specs.Closure.{closure, excludes}
use Rattle.excluded.specs.Inside.Exclusions.{excluded_by}
use Rattle.excluded.specs.Inside.Strict.{Reduced}

-- bit x of row l
abbrev pub reaches : List ℕ → ℕ → ℕ → Bool
reaches c l x = has (get_or c (2 * l + x / 64) 0) (x % 64)

-- s is what row l has
pub record Read (c : List ℕ) (l s : ℕ) : Type 0 where
  pub bits : (x : ℕ) → x < 128 → has s x ≡ reaches c l x
  pub below : s < 2 ^ 128

-- the rows before they are filled: those of d have all of u, the others of u themselves
pub record Begun (d u : ℕ) (c : List ℕ) : Type 0 where
  pub sized : length c ≡ 256
  pub derived : (l x : ℕ) → has d l ≡ true → has u x ≡ true → reaches c l x ≡ true
  pub own : (x : ℕ) → has u x ≡ true → reaches c x x ≡ true
  pub only : (l x : ℕ) → l < 128 → x < 128 → reaches c l x ≡ true → (has u x ≡ true) × ((has d l ≡ true) ⊎ (l ≡ x))

-- the rows when they are filled: those of u from which Π derives the row's literal
abbrev pub Reached : List Rule → ℕ → List ℕ → Type 0
Reached rules u c = (l x : ℕ) → l < 128 → x < 128 → reaches c l x ≡ (has u x && has (closure (Π rules) (insert 0 x)) l)

-- s has those literals of u that exclude a
abbrev pub RowOf : List Rule → ℕ → ℕ → ℕ → Type 0
RowOf rules u a s = (b : ℕ) → has s b ≡ (has u b && excludes rules a b)

-- the two words of a row
abbrev pub low : List ℕ → ℕ → ℕ
low c l = get_or c (2 * l) 0

abbrev pub high : List ℕ → ℕ → ℕ
high c l = get_or c (2 * l + 1) 0

-- R says what becomes of the row of each literal of s: of its words in e, and then in f. The others stay.
pub record Each (R : ℕ → ℕ → ℕ → ℕ → ℕ → Type 0) (s : ℕ) (e f : List ℕ) : Type 0 where
  pub sized : length f ≡ length e
  pub done : (l : ℕ) → has s l ≡ true → R l (low e l) (high e l) (low f l) (high f l)
  pub others : (l : ℕ) → has s l ≡ false → (low f l ≡ low e l) × (high f l ≡ high e l)

-- the row has its own literal
abbrev pub Own : ℕ → ℕ → ℕ → ℕ → ℕ → Type 0
Own a lo hi lo' hi' = (lo' < 2 ^ 64) × (joined hi' lo' ≡ insert 0 a)

-- the row has all of u
abbrev pub Whole : ℕ → ℕ → ℕ → ℕ → ℕ → ℕ → Type 0
Whole u a lo hi lo' hi' = (lo' < 2 ^ 64) × (joined hi' lo' ≡ u)

-- the row gets v
abbrev pub Gained : ℕ → ℕ → ℕ → ℕ → ℕ → ℕ → Type 0
Gained v a lo hi lo' hi' = joined hi' lo' ≡ union (joined hi lo) v

-- the row has what excludes its literal, if that is one of u
abbrev pub Joined : ℕ → List ℕ → List ℕ → ℕ → ℕ → ℕ → ℕ → ℕ → Type 0
Joined u t c a lo hi lo' hi' = (rules : List Rule) (d : ℕ) → Reduced rules d u t → Reached rules u c → has u a ≡ true → RowOf rules u a (joined hi' lo')

-- the rows of the literals of s get v
abbrev pub Added : ℕ → ℕ → List ℕ → List ℕ → Type 0
Added s v e f = (a b : ℕ) → a < 128 → has (excluded_by f a) b ≡ (has (excluded_by e a) b || (has s a && has v b))
