-- The arguments that a table of rows tells of, and what the steps that count and write them leave.
use Rattle.std.specs.Prelude.{◌≡◌, Bool, true, not, ◌&&◌, List, [], ◌⊎◌, ℕ, zero, suc, ◌+◌, ◌*◌, ◌/◌, ◌%◌, ◌^◌, ◌<◌, length, get_or}
use Rattle.lists.specs.Lists.{choose}
use Rattle.literals.specs.Sets.{has, insert, minus}
use Rattle.program.specs.Program.{Rule, Π_mask}
use Rattle.derivation.specs.Closure.{derives}
use Rattle.argument.specs.List.{list_by}
use Rattle.argument.specs.Inside.Sets.{set_at}
use Rattle.listing.specs.Inside.Listing.{members_from}
use Rattle.closures.specs.Inside.Table.{tells}
use Rattle.collecting.specs.Inside.Folds.{only, sum, lists}

-- s has every literal that some mask derives
abbrev pub Derivable : List Rule → ℕ → Type 0
Derivable rules s = (l m : ℕ) → derives (Π_mask m rules) l ≡ true → has s l ≡ true

-- no rule of m that has one of the first n bits can be left out
unfoldable pub none_less : (ℕ → Bool) → ℕ → ℕ → Bool
none_less row m zero = true
none_less row m (suc b) = not (has m b && row (minus m (2 ^ b))) && none_less row m b

-- the mask m and the literal l are an argument, by the table
unfoldable pub argues : List ℕ → ℕ → ℕ → Bool
unfolding none_less
argues t m l = tells t l m && (not (tells t 128 m) && none_less (tells t l) m 16)

-- and the literal is one of s
abbrev pub argues_for : List ℕ → ℕ → ℕ → ℕ → Bool
argues_for t s m l = has s l && argues t m l

-- x has the masks from 64 w on of the arguments for l
abbrev pub Word : List ℕ → ℕ → ℕ → ℕ → Type 0
Word t l w x = (k : ℕ) → k < 64 → has x k ≡ argues t (64 * w + k) l

-- ---- how many there are

abbrev pub one : Bool → ℕ
one b = choose b 1 0

-- the arguments for l with the masks of one word, and of all 1024
abbrev pub word_count : List ℕ → ℕ → ℕ → ℕ
word_count t l w = sum (λ m. one (argues t m l)) (64 * w) 64

abbrev pub row_count : List ℕ → ℕ → ℕ
row_count t l = sum (word_count t l) 0 1024

-- the arguments for the literals of s
abbrev pub literals_count : List ℕ → ℕ → ℕ
literals_count t s = sum (only ℕ 0 s (row_count t)) 0 128

-- the word of the masks from 64 w on is marked
abbrev pub marked : List ℕ → ℕ → Bool
marked u w = has (get_or u (w / 64) 0) (w % 64)

-- each word that has an argument, of those that Some speaks of, is marked in v, beside those of u
pub record Marks (t : List ℕ) (Some : ℕ → ℕ → Type 0) (u v : List ℕ) : Type 0 where
  pub sized : length v ≡ length u
  pub kept : (w : ℕ) → marked u w ≡ true → marked v w ≡ true
  pub covers : (l m : ℕ) → Some l m → argues t m l ≡ true → marked v (m / 64) ≡ true

-- literal l is one of s
abbrev pub Members : ℕ → ℕ → Type 0
Members s l = (l < 128) × (has s l ≡ true)

abbrev pub InWord : ℕ → ℕ → ℕ → ℕ → Type 0
InWord literal w l m = (l ≡ literal) × (m / 64 ≡ w)

abbrev pub InRow : (ℕ → Type 0) → ℕ → ℕ → Type 0
InRow Literal l m = Literal l × (m < 65536)

-- ---- the list

-- the arguments with the masks of one word
abbrev pub word_list : List ℕ → ℕ → ℕ → List ℕ
word_list t s w = list_by (argues_for t s) (64 * w) 64

-- those of the words 64 i + b, b a member of u
abbrev pub words_list : List ℕ → ℕ → ℕ → ℕ → List ℕ
words_list t s u i = lists (only (List ℕ) [] u (λ b. word_list t s (64 * i + b))) 0 64

unfoldable pub list_of : List ℕ → ℕ → List ℕ
list_of t s = list_by (argues_for t s) 0 65536

-- every word with an argument is marked
abbrev pub Marked : List ℕ → ℕ → List ℕ → Type 0
Marked t s u = (l m : ℕ) → Members s l → m < 65536 → argues t m l ≡ true → marked u (m / 64) ≡ true

-- ---- the columns of a word: two words for each of its 64 masks

-- l is put into the columns of the members of x
pub record Put (l x : ℕ) (c d : List ℕ) : Type 0 where
  pub sized : length d ≡ length c
  pub column : (k : ℕ) → k < 64 → set_at d k ≡ choose (has x k) (insert (set_at c k) l) (set_at c k)

-- the literals that Some speaks of are put into the columns of their arguments, and the masks of these into y
pub record Turned (t : List ℕ) (w : ℕ) (Some : ℕ → Type 0) (c d : List ℕ) (x y : ℕ) : Type 0 where
  pub sized : length d ≡ length c
  pub kept : (k h : ℕ) → k < 64 → has (set_at c k) h ≡ true → has (set_at d k) h ≡ true
  pub more : (k : ℕ) → k < 64 → has x k ≡ true → has y k ≡ true
  pub says : (k h : ℕ) → k < 64 → has (set_at d k) h ≡ true
      → (has (set_at c k) h ≡ true) ⊎ (Some h × (argues t (64 * w + k) h ≡ true))
  pub passes : (k h : ℕ) → k < 64 → Some h → argues t (64 * w + k) h ≡ true
      → (has (set_at d k) h ≡ true) × (has y k ≡ true)

-- M × 128 + h for each literal h of column k, and of the columns of the members of x
abbrev pub column_list : List ℕ → ℕ → ℕ → List ℕ
column_list c w k = members_from ((64 * w + k) * 128) 128 (set_at c k)

abbrev pub columns_list : List ℕ → ℕ → ℕ → List ℕ
columns_list c x w = lists (only (List ℕ) [] x (column_list c w)) 0 64
