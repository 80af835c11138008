-- What the steps of the code do to the words of a plan.
use Rattle.std.specs.Prelude.{◌≡◌, Bool, true, false, List, ℕ, ◌+◌, ◌/◌, ◌^◌, ◌<◌, ◌≤◌, length, get_or}
use Rattle.literals.specs.Sets.{has, within}
use Rattle.program.specs.Inside.Table.{head_at, body_at, need_at}
use Rattle.rows.specs.Steps.{slack}

-- each row keeps fewer than 1,024 words
abbrev pub Small : List ℕ → Type 0
Small keep = (l : ℕ) → get_or keep l 0 < 2 ^ 10

-- x has s and all that is kept for each literal of a set
pub record Joined (keep : List ℕ) (literals s x : ℕ) : Type 0 where
  pub started : within s x ≡ true
  pub each : (l : ℕ) → has literals l ≡ true → within (get_or keep l 0) x ≡ true
  pub small : Small keep → s < 2 ^ 10 → x < 2 ^ 10

-- what rule i needs bears on its head, and so does what bears on its body
pub record BearsAt (t keep : List ℕ) (i : ℕ) : Type 0 where
  pub need : within (need_at t i / 64) (get_or keep (head_at t i) 0) ≡ true
  pub body : (l : ℕ) → has (body_at t i) l ≡ true → within (get_or keep l 0) (get_or keep (head_at t i) 0) ≡ true

-- the rules from a to e make d of what is kept, c; grown says whether they add something
pub record Bears (t : List ℕ) (a e : ℕ) (c d : List ℕ) (grown : Bool) : Type 0 where
  pub sized : length d ≡ length c
  pub small : Small c → Small d
  pub lower : slack d ≤ slack c
  pub fell : grown ≡ true → slack d < slack c
  pub same : grown ≡ false → d ≡ c
  pub borne : grown ≡ false → (i : ℕ) → a ≤ i → i < e → BearsAt t c i

-- the rows of the literals of s begin at a or behind it and end before n, apart from each other
pub record PlacedIn (keep base : List ℕ) (s a n : ℕ) : Type 0 where
  pub begins : (l : ℕ) → has s l ≡ true → a ≤ get_or base l 0
  pub ends : (l : ℕ) → has s l ≡ true → get_or base l 0 + get_or keep l 0 < n
  pub apart : (l h i j : ℕ) → has s l ≡ true → has s h ≡ true → i ≤ get_or keep l 0 → j ≤ get_or keep h 0
      → get_or base l 0 + i ≡ get_or base h 0 + j → l ≡ h
