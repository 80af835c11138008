-- What comes before the rows: which literals have one, where each begins, and how long it is.
use Rattle.std.specs.Prelude.{◌≡◌, true, ◌&&◌, ◌||◌, List, ℕ, ◌+◌, ◌*◌, ◌%◌, ◌^◌, ◌<◌, ◌≤◌, length, get_or}
use Rattle.literals.specs.Sets.{has, minus, union, within}
use Rattle.program.specs.Program.{Rule, Program, Π_mask, Π}
use Rattle.program.specs.Inside.Table.{Shaped, Holds}
use Rattle.derivation.specs.Closure.{closure, derives}
use Rattle.rows.specs.Switched.{Named, NeedsOne}
use Rattle.rows.specs.Layout.{row_has, Bearing}
use Rattle.plans.specs.Steps.{Small, PlacedIn}
use Rattle.live.specs.Live.{LiveRules}

-- d is what Π derives, s what is derived with all rules and not by Π
pub record Reach (rules : List Rule) (d s : ℕ) : Type 0 where
  pub derived_is : d ≡ closure (Π rules) 0
  pub live_is : s ≡ minus (closure (Π_mask 18446744073709551615 rules) 0) d

-- q has 2a exactly if s has 2a and 2a + 1
pub record Pairs (s q : ℕ) : Type 0 where
  pub says : (l : ℕ) → has q l ≡ true → (a : ℕ) × (l ≡ 2 * a) × (has s (2 * a) ≡ true) × (has s (2 * a + 1) ≡ true)
  pub passes : (a : ℕ) → has s (2 * a) ≡ true → has s (2 * a + 1) ≡ true → has q (2 * a) ≡ true

-- the plan of the rows of the live rules u: the literals of s have rows from word 260 to n, then comes that of the contradictory
-- masks, on which the rules of v bear; q has the atoms that may clash
pub record Planned (u keep base : List ℕ) (d s q n v : ℕ) : Type 0 where
  pub shaped : Shaped u
  pub needs : NeedsOne u
  pub named : (l : ℕ) → Named u l → has s l ≡ true
  pub bearing : Bearing u keep
  pub keeps : length keep ≡ 128
  pub bases : length base ≡ 128
  pub small : Small keep
  pub fits : s < 2 ^ 128
  pub placed : PlacedIn keep base s 260 n
  pub behind : 260 ≤ n
  pub ends : n ≤ 132096
  pub pairs : Pairs (union d s) q
  pub even : (l : ℕ) → has q l ≡ true → (l < 127) × (l % 2 ≡ 0)
  pub few : v < 1024
  pub spans : (l : ℕ) → has q l ≡ true → (within (get_or keep l 0) v ≡ true) × (within (get_or keep (l + 1) 0) v ≡ true)

-- the live rules are those of a program
pub record PlanOf (p : Program) (u : List ℕ) (d s : ℕ) : Type 0 where
  pub table : List ℕ
  pub holds : Holds p table
  pub needs : NeedsOne table
  pub live : LiveRules table d s u
  pub reach : Reach p.rules d s

-- for each mask and literal: derived by Π, or live and set in its row
abbrev pub RowsSay : List Rule → ℕ → ℕ → List ℕ → List ℕ → List ℕ → Type 0
RowsSay rules d s keep base c = (m l : ℕ) → derives (Π_mask m rules) l ≡ (has d l || (has s l && row_has keep base c l m))
