-- The layout of rows. Row l begins at word base l; its word for the masks from 64 w on is the one with the number w cut down
-- to keep l, the switches, above the lowest six, that bear on l.
use Rattle.std.specs.Prelude.{◌≡◌, Bool, true, List, ◌⊎◌, ℕ, ◌+◌, ◌/◌, ◌%◌, ◌<◌, ◌≤◌, length, get_or}
use Rattle.std.specs.Int.Bits.{bit_and}
use Rattle.literals.specs.Sets.{has, within}
use Rattle.program.specs.Inside.Table.{head_at, body_at, need_at, rule_count}
use Rattle.rows.specs.Switched.{Named, ClosedIn}

-- the word of literal l for the masks from 64 w on
abbrev pub word_of : List ℕ → List ℕ → List ℕ → ℕ → ℕ → ℕ
word_of keep base c w l = get_or c (get_or base l 0 + bit_and w (get_or keep l 0)) 0

-- bit m of row l
abbrev pub row_has : List ℕ → List ℕ → List ℕ → ℕ → ℕ → Bool
row_has keep base c l m = has (word_of keep base c (m / 64) l) (m % 64)

-- word n stands in the row of a rule's head
abbrev pub HeadWord : List ℕ → List ℕ → List ℕ → ℕ → Type 0
HeadWord t keep base n = (i w : ℕ) × (i < rule_count t) × (w ≤ get_or keep (head_at t i) 0) × (n ≡ get_or base (head_at t i) 0 + w)

-- under each mask, row by row, d has the least set that is closed under the rules that are on and has what c had
pub record Rows (t keep base c d : List ℕ) : Type 0 where
  pub starts : (m l : ℕ) → row_has keep base c l m ≡ true → row_has keep base d l m ≡ true
  pub closed : (m : ℕ) → ClosedIn t m (λ l. row_has keep base d l m)
  pub least : (m : ℕ) (s : ℕ → Bool) → ClosedIn t m s → ((l : ℕ) → Named t l → row_has keep base c l m ≡ true → s l ≡ true)
      → (l : ℕ) → Named t l → row_has keep base d l m ≡ true → s l ≡ true
  -- the words of other rows stay
  pub others : (n : ℕ) → (get_or d n 0 ≡ get_or c n 0) ⊎ HeadWord t keep base n

-- each row of a literal that a rule names has its place among n words, apart from the others
pub record Placed (t keep base : List ℕ) (n : ℕ) : Type 0 where
  pub keeps : length keep ≡ 128
  pub bases : length base ≡ 128
  pub small : (l : ℕ) → Named t l → l < 128
  pub inside : (l : ℕ) → Named t l → get_or base l 0 + get_or keep l 0 < n
  pub apart : (l h i j : ℕ) → Named t l → Named t h → i ≤ get_or keep l 0 → j ≤ get_or keep h 0
      → get_or base l 0 + i ≡ get_or base h 0 + j → l ≡ h

-- what a rule needs bears on its head, and so does what bears on its body
pub record Bearing (t keep : List ℕ) : Type 0 where
  pub need : (i : ℕ) → i < rule_count t → within (need_at t i / 64) (get_or keep (head_at t i) 0) ≡ true
  pub body : (i l : ℕ) → i < rule_count t → has (body_at t i) l ≡ true → within (get_or keep l 0) (get_or keep (head_at t i) 0) ≡ true
