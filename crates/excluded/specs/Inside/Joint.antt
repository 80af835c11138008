-- Two literals together: what their rows say of an atom, and which of them derive more together than each alone.
use Rattle.std.specs.Prelude.{◌≡◌, Bool, true, ◌&&◌, ◌||◌, List, ℕ, ◌+◌, ◌*◌, ◌<◌}
use Rattle.literals.specs.Sets.{has, within}
use Rattle.program.specs.Inside.Table.{head_at, need_at, rule_count}
use Rattle.rows.specs.Switched.{BodyIn, ClosedIn}
use Rattle.excluded.specs.Inside.Exclusions.{excluded_by}
use Rattle.excluded.specs.Inside.Rows.{reaches}

-- one of a and b derives atom k, the other its complement
abbrev pub crosses : List ℕ → ℕ → ℕ → ℕ → Bool
crosses c k a b = (reaches c (2 * k) a && reaches c (2 * k + 1) b) || (reaches c (2 * k + 1) a && reaches c (2 * k) b)

-- an atom of the first n that a and b cross
pub record CrossAt (c : List ℕ) (n a b : ℕ) : Type 0 where
  pub atom : ℕ
  pub below : atom < n
  pub small : b < 128
  pub at : crosses c atom a b ≡ true

-- the rows of t have what crosses by one of the first n atoms
pub record Crossed (c : List ℕ) (n : ℕ) (t : List ℕ) : Type 0 where
  pub found : (a b : ℕ) → a < 128 → has (excluded_by t a) b ≡ true → CrossAt c n a b
  pub each : (a b k : ℕ) → a < 128 → b < 128 → k < n → crosses c k a b ≡ true → has (excluded_by t a) b ≡ true

-- no literal derives both of one of the first n atoms
abbrev pub Coherent : List ℕ → ℕ → Type 0
Coherent c n = (k a : ℕ) → k < n → a < 128 → reaches c (2 * k) a ≡ true → reaches c (2 * k + 1) a ≡ true → ⊥

-- what each literal derives is closed under the rules
abbrev pub Solid : List ℕ → List ℕ → Type 0
Solid t c = (x : ℕ) → x < 128 → ClosedIn t 0 (λ l. reaches c l x)

-- what a derives and what another derives are closed together, under rule i, and under all
abbrev pub Spread : List ℕ → List ℕ → ℕ → ℕ → Type 0
Spread t c i a = Solid t c → (x : ℕ) → x < 128 → i < rule_count t → within (need_at t i) 0 ≡ true
    → BodyIn t i (λ l. reaches c l a || reaches c l x) → (reaches c (head_at t i) a || reaches c (head_at t i) x) ≡ true

abbrev pub Unspread : List ℕ → List ℕ → ℕ → Type 0
Unspread t c a = Solid t c → (x : ℕ) → x < 128 → ClosedIn t 0 (λ l. reaches c l a || reaches c l x)

-- r has all that derive some literal of s
abbrev pub Touches : List ℕ → ℕ → ℕ → Type 0
Touches c s r = (l a : ℕ) → has s l ≡ true → a < 128 → reaches c l a ≡ true → has r a ≡ true

-- an atom of the first n of which b has both
pub record PairAt (c : List ℕ) (n b : ℕ) : Type 0 where
  pub atom : ℕ
  pub below : atom < n
  pub small : b < 128
  pub positive : reaches c (2 * atom) b ≡ true
  pub negative : reaches c (2 * atom + 1) b ≡ true

-- s has those that have both of one of the first n atoms
pub record Pairs (c : List ℕ) (n s : ℕ) : Type 0 where
  pub found : (b : ℕ) → has s b ≡ true → PairAt c n b
  pub each : (b k : ℕ) → b < 128 → k < n → reaches c (2 * k) b ≡ true → reaches c (2 * k + 1) b ≡ true → has s b ≡ true
