-- The strict rules by themselves: without those whose head Π derives, and with what Π derives cut from their bodies.
use Rattle.std.specs.Prelude.{◌≡◌, Bool, true, not, ◌&&◌, List, ℕ, ◌*◌, ◌^◌, ◌<◌, ◌≤◌, eqb, length, get_or}
use Rattle.std.specs.Int.Count.{ones}
use Rattle.literals.specs.Sets.{has, minus, within}
use Rattle.program.specs.Program.{Rule, Π}
use Rattle.program.specs.Inside.Table.{head_at, body_at, need_at, rule_count, Shaped}
use Rattle.derivation.specs.Closure.{closure}
use Rattle.derivation.proofs.Rounds.{ClosedUnder}
use Rattle.rows.specs.Switched.{ClosedIn}

-- rule i is strict, and d has not its head
abbrev pub strict_at : List ℕ → ℕ → ℕ → Bool
strict_at t d i = eqb (need_at t i) 0 && not (has d (head_at t i))

-- row j of u is such a rule i of t, with d cut from its body
pub record StrictRow (t : List ℕ) (d i : ℕ) (u : List ℕ) (j : ℕ) : Type 0 where
  pub listed : i < rule_count t
  pub strictly : strict_at t d i ≡ true
  pub head_is : head_at u j ≡ head_at t i
  pub need_is : need_at u j ≡ 0
  pub body_is : body_at u j ≡ minus (body_at t i) d
  pub small : body_at u j < 2 ^ 128

-- the first n rows of u are the rules of taken, whose heads are in reach
pub record Taken (t : List ℕ) (d n taken reach : ℕ) (u : List ℕ) : Type 0 where
  pub few : n ≤ ones taken
  pub below : taken < 2 ^ 96
  pub from : (j : ℕ) → j < n → (k : ℕ) × StrictRow t d k u j
  pub all : (k : ℕ) → has taken k ≡ true → (j : ℕ) × (j < n) × StrictRow t d k u j
  pub heads : (k : ℕ) → has taken k ≡ true → has reach (head_at t k) ≡ true

-- s has the numbers of such rules, of those before n all
pub record Open (t : List ℕ) (d n s : ℕ) : Type 0 where
  pub only : (k : ℕ) → has s k ≡ true → (k < rule_count t) × (strict_at t d k ≡ true)
  pub each : (k : ℕ) → k < n → strict_at t d k ≡ true → has s k ≡ true

-- rule i is taken, or its body is not in reach
abbrev pub Quiet : List ℕ → ℕ → ℕ → ℕ → Type 0
Quiet t taken reach i = within (body_at t i) reach ≡ true → has taken i ≡ true

-- nothing was taken, and nothing is left to take of the rules of s
pub record Still (t : List ℕ) (s taken reach after far : ℕ) : Type 0 where
  pub taken_is : after ≡ taken
  pub reach_is : far ≡ reach
  pub quiet : (i : ℕ) → has s i ≡ true → Quiet t taken reach i

-- the rows of u are those rules of t that can act where w is given
pub record StrictRules (t : List ℕ) (d w : ℕ) (u : List ℕ) : Type 0 where
  pub few : rule_count u ≤ 96
  pub from : (j : ℕ) → j < rule_count u → (i : ℕ) × StrictRow t d i u j
  pub reach : ℕ
  pub given : within w reach ≡ true
  pub all : (i : ℕ) → i < rule_count t → strict_at t d i ≡ true → within (body_at t i) reach ≡ true → (j : ℕ) × (j < rule_count u) × StrictRow t d i u j
  pub heads : (i : ℕ) → i < rule_count t → strict_at t d i ≡ true → within (body_at t i) reach ≡ true → has reach (head_at t i) ≡ true

-- with d, which Π derives, the rules of t do what Π does, where literals of u are given
pub record Reduced (rules : List Rule) (d u : ℕ) (t : List ℕ) : Type 0 where
  pub derived_is : d ≡ closure (Π rules) 0
  pub below : d < 2 ^ 128
  pub sound : (m g : ℕ) → ClosedIn t m (has (closure (Π rules) g))
  pub reach : ℕ
  pub given : (l : ℕ) → has u l ≡ true → has reach l ≡ true
  pub whole : (m : ℕ) (s : ℕ → Bool) → ((l : ℕ) → has d l ≡ true → s l ≡ true) → ClosedIn t m s
      → ClosedUnder (Π rules) (λ l. (has reach l ≡ true) × (s l ≡ true))
  pub bodied : (i : ℕ) → i < rule_count t → (l : ℕ) × (has (body_at t i) l ≡ true)

-- rules that need no switch, and rows of two words each
pub record Laid (t keep base : List ℕ) : Type 0 where
  pub shaped : Shaped t
  pub needless : (i : ℕ) → i < rule_count t → need_at t i ≡ 0
  pub bodies : (i : ℕ) → i < rule_count t → body_at t i < 2 ^ 128
  pub keeps : length keep ≡ 128
  pub bases : length base ≡ 128
  pub kept : (l : ℕ) → l < 128 → get_or keep l 0 ≡ 1
  pub based : (l : ℕ) → l < 128 → get_or base l 0 ≡ 2 * l
