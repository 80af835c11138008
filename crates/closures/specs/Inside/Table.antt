-- The table of rows. Its word 0 is empty and its word 1 full. Then it says for each literal, and for the contradictory masks, which
-- are row 128, where the row begins, and then, for each, the rules above the lowest six that bear on it; then come the rows.
use Rattle.std.specs.Prelude.{◌≡◌, Bool, List, ℕ, ◌+◌, ◌^◌, ◌<◌, ◌≤◌, length, get_or}
use Rattle.std.specs.Int.Bits.{bit_and}
use Rattle.program.specs.Program.{Rule, Π_mask}
use Rattle.derivation.specs.Closure.{derives, contradictory}
use Rattle.minima.specs.Minima.{row_by}

abbrev pub begins_at : List ℕ → ℕ → ℕ
begins_at t l = get_or t (2 + l) 0

abbrev pub keeps_at : List ℕ → ℕ → ℕ
keeps_at t l = get_or t (131 + l) 0

-- the word of row l for the masks from 64 w on: only the rules that bear on l count
abbrev pub word_at : List ℕ → ℕ → ℕ → ℕ
word_at t l w = get_or t (begins_at t l + bit_and w (keeps_at t l)) 0

-- bit m of row l
abbrev pub tells : List ℕ → ℕ → ℕ → Bool
tells t l m = row_by (word_at t l) m

-- each row is in the table
pub record Laid (t : List ℕ) : Type 0 where
  pub long : 260 ≤ length t
  pub short : length t < 2 ^ 32
  pub inside : (l : ℕ) → l < 129 → begins_at t l + keeps_at t l < length t
  pub few : (l : ℕ) → l < 129 → keeps_at t l < 1024

-- the rows are those of a program
pub record Tells (rules : List Rule) (t : List ℕ) : Type 0 where
  pub derived : (l m : ℕ) → l < 128 → tells t l m ≡ derives (Π_mask m rules) l
  pub clashing : (m : ℕ) → tells t 128 m ≡ contradictory (Π_mask m rules)
