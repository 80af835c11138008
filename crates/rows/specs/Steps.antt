-- What the private steps of the code do to the words of the rows.
use Rattle.std.specs.Prelude.{◌≡◌, Bool, true, false, List, [], ◌∷◌, ◌⊎◌, ℕ, ◌+◌, ◌-◌, ◌*◌, ◌/◌, ◌^◌, ◌<◌, ◌≤◌, length, get_or}
use Rattle.literals.specs.Sets.{has, within}
use Rattle.program.specs.Inside.Table.{head_at, body_at, need_at, rule_count}
use Rattle.rows.specs.Switched.{Named, ClosedIn}
use Rattle.rows.specs.Layout.{word_of, HeadWord, Bearing}

-- x has the masks 64 w + k that have the need, for each w that has what the need has above its six lowest bits
abbrev pub LowWord : ℕ → ℕ → Type 0
LowWord need x = (w k : ℕ) → within (need / 64) w ≡ true → k < 64 → has x k ≡ within need (64 * w + k)

-- x has the masks of s for which f has each literal of a set
pub record Met (f : ℕ → ℕ) (literals s x : ℕ) : Type 0 where
  pub started : (k : ℕ) → has x k ≡ true → has s k ≡ true
  pub each : (k : ℕ) → has x k ≡ true → (l : ℕ) → has literals l ≡ true → has (f l) k ≡ true
  pub passes : (k : ℕ) → has s k ≡ true → ((l : ℕ) → has literals l ≡ true → has (f l) k ≡ true) → has x k ≡ true

-- f, the words of the masks from 64 w on, has the body of rule i for the mask with place k
abbrev pub BodyAt : List ℕ → ℕ → (ℕ → ℕ) → ℕ → Type 0
BodyAt t i f k = (l : ℕ) → has (body_at t i) l ≡ true → has (f l) k ≡ true

-- x has the masks in which rule i is on and its whole body is there
pub record Ready (t : List ℕ) (i w : ℕ) (f : ℕ → ℕ) (x : ℕ) : Type 0 where
  pub chosen : (k : ℕ) → k < 64 → has x k ≡ true → within (need_at t i) (64 * w + k) ≡ true
  pub body : (k : ℕ) → k < 64 → has x k ≡ true → BodyAt t i f k
  pub passes : (k : ℕ) → k < 64 → within (need_at t i) (64 * w + k) ≡ true → BodyAt t i f k → has x k ≡ true

-- rule i adds nothing to f
abbrev pub Idle : List ℕ → ℕ → (ℕ → ℕ) → ℕ → Type 0
Idle t w f i = (k : ℕ) → k < 64 → within (need_at t i) (64 * w + k) ≡ true → BodyAt t i f k → has (f (head_at t i)) k ≡ true

-- how far the words are from being full: a word that gets more members is a greater number
unfoldable pub slack : List ℕ → ℕ
slack [] = 0
slack (x ∷ c) = (2 ^ 64 - x) + slack c

-- for the mask 64 w + k the rows have nothing that is not in s
abbrev pub SoundAt : List ℕ → List ℕ → List ℕ → List ℕ → ℕ → ℕ → (ℕ → Bool) → Type 0
SoundAt t keep base c w k s = (l : ℕ) → Named t l → has (word_of keep base c w l) k ≡ true → s l ≡ true

-- the rows d have nothing that c and the rules do not give
abbrev pub Sound : List ℕ → List ℕ → List ℕ → List ℕ → List ℕ → Type 0
Sound t keep base c d = Bearing t keep → (w k : ℕ) → k < 64 → (s : ℕ → Bool) → ClosedIn t (64 * w + k) s
    → SoundAt t keep base c w k s → SoundAt t keep base d w k s

-- the literals of a set have places in n words
abbrev pub Readable : List ℕ → List ℕ → ℕ → ℕ → Type 0
Readable keep base n literals = (l : ℕ) → has literals l ≡ true → (l < 128) × (get_or base l 0 + get_or keep l 0 < n)

-- rule i taken apart: its body as a set, the pattern and the word bits of its need, and where its head's row begins
pub record Decoded (t base : List ℕ) (i body low must to : ℕ) : Type 0 where
  pub listed : i < rule_count t
  pub body_is : body ≡ body_at t i
  pub low_is : LowWord (need_at t i) low
  pub must_is : must ≡ need_at t i / 64
  pub to_is : to ≡ get_or base (head_at t i) 0

-- rule i, for the masks of some words, makes d of the rows c; grown says whether it adds something
pub record Fires (t keep base : List ℕ) (i : ℕ) (Words : ℕ → Type 0) (c d : List ℕ) (grown : Bool) : Type 0 where
  pub sized : length d ≡ length c
  pub sound : Sound t keep base c d
  pub lower : slack d ≤ slack c
  pub fell : grown ≡ true → slack d < slack c
  pub same : grown ≡ false → d ≡ c
  -- other rows stay, and each word has at least what it had
  pub others : (v l : ℕ) → Named t l → (l ≡ head_at t i → ⊥) → word_of keep base d v l ≡ word_of keep base c v l
  pub more : (n : ℕ) → within (get_or c n 0) (get_or d n 0) ≡ true
  pub changed : (n : ℕ) → (get_or d n 0 ≡ get_or c n 0) ⊎ HeadWord t keep base n
  -- a rule that does not read what it changes, or that adds nothing, adds nothing more
  pub settled : (grown ≡ false) ⊎ (has (body_at t i) (head_at t i) ≡ false) → i < rule_count t
      → (v : ℕ) → Words v → Idle t v (word_of keep base d v) i

-- one word; the words of the row of rule i's head from w on
abbrev pub OneWord : ℕ → ℕ → Type 0
OneWord w v = v ≡ w

abbrev pub Above : List ℕ → List ℕ → ℕ → ℕ → ℕ → Type 0
Above t keep i w v = (within v (get_or keep (head_at t i) 0) ≡ true) × (w ≤ v)

-- the first n rules make d of the rows c; seen has the literals of their bodies; late says whether a row changed that one of
-- them had read by then
pub record Rounds (t keep base : List ℕ) (n seen : ℕ) (c d : List ℕ) (late : Bool) : Type 0 where
  pub sized : length d ≡ length c
  pub sound : Sound t keep base c d
  pub lower : slack d ≤ slack c
  pub fell : late ≡ true → slack d < slack c
  pub more : (n : ℕ) → within (get_or c n 0) (get_or d n 0) ≡ true
  pub changed : (n : ℕ) → (get_or d n 0 ≡ get_or c n 0) ⊎ HeadWord t keep base n
  pub read : (j : ℕ) → j < n → within (body_at t j) seen ≡ true
  pub settled : late ≡ false → (j v : ℕ) → j < n → j < rule_count t
      → within v (get_or keep (head_at t j) 0) ≡ true → Idle t v (word_of keep base d v) j
