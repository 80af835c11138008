-- What the private steps of the code do to the words of the table.
use Rattle.std.specs.Prelude.{◌≡◌, true, false, List, ℕ, ◌+◌, ◌<◌, ◌≤◌, length, get_or}
use Rattle.literals.specs.Sets.{has, within}
use Rattle.closures.specs.Inside.Table.{begins_at, keeps_at, word_at}

-- the values f of the members of s are put at the words from `at` on
pub record Scattered (at s : ℕ) (f : ℕ → ℕ) (c d : List ℕ) : Type 0 where
  pub sized : length d ≡ length c
  pub hit : (l : ℕ) → has s l ≡ true → get_or d (at + l) 0 ≡ f l
  pub miss : (i : ℕ) → ((l : ℕ) → has s l ≡ true → i ≡ at + l → ⊥) → get_or d i 0 ≡ get_or c i 0

-- an empty word, a full one, empty ones up to the rows, and the rows as they were
pub record Blank (c t : List ℕ) : Type 0 where
  pub sized : length t ≡ length c
  pub rows : (i : ℕ) → 260 ≤ i → get_or t i 0 ≡ get_or c i 0
  pub empty : (i : ℕ) → i < 260 → (i ≡ 1 → ⊥) → get_or t i 0 ≡ 0
  pub full : get_or t 1 0 ≡ 18446744073709551615

-- what stands before the rows, and the rows as they were
pub record Header (d s n v : ℕ) (keep base c t : List ℕ) : Type 0 where
  pub sized : length t ≡ length c
  pub rows : (i : ℕ) → 260 ≤ i → get_or t i 0 ≡ get_or c i 0
  pub empty : get_or t 0 0 ≡ 0
  pub full : get_or t 1 0 ≡ 18446744073709551615
  pub derived_begins : (l : ℕ) → l < 128 → has d l ≡ true → begins_at t l ≡ 1
  pub live_begins : (l : ℕ) → l < 128 → has s l ≡ true → has d l ≡ false → begins_at t l ≡ get_or base l 0
  pub live_keeps : (l : ℕ) → l < 128 → has s l ≡ true → keeps_at t l ≡ get_or keep l 0
  pub dead_begins : (l : ℕ) → l < 128 → has s l ≡ false → has d l ≡ false → begins_at t l ≡ 0
  pub dead_keeps : (l : ℕ) → l < 128 → has s l ≡ false → keeps_at t l ≡ 0
  pub bottom_begins : begins_at t 128 ≡ n
  pub bottom_keeps : keeps_at t 128 ≡ v

-- at place k of the words from 64 w on, l and the literal after it are both set, for some member l of q
abbrev pub ClashAt : List ℕ → (q w k : ℕ) → Type 0
ClashAt t q w k = (l : ℕ) × (has q l ≡ true) × (has (word_at t l w) k ≡ true) × (has (word_at t (l + 1) w) k ≡ true)

-- x has the masks from 64 w on under which an atom of q clashes
pub record ClashWord (t : List ℕ) (q w x : ℕ) : Type 0 where
  pub passes : (k : ℕ) → ClashAt t q w k → has x k ≡ true
  pub says : (k : ℕ) → has x k ≡ true → ClashAt t q w k

-- the row from word n on, v its span, is filled with them, and what stands before it is as it was
pub record ClashRow (q n v : ℕ) (c t : List ℕ) : Type 0 where
  pub sized : length t ≡ length c
  pub before : (i : ℕ) → i < n → get_or t i 0 ≡ get_or c i 0
  pub row : (w : ℕ) → within w v ≡ true → ClashWord c q w (get_or t (n + w) 0)
