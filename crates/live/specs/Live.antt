-- Live rules: those that bear on literals that are derivable and not derived by Π, with what Π derives cut from their bodies.
use Rattle.std.specs.Prelude.{◌≡◌, Bool, true, ◌&&◌, List, ℕ, ◌<◌, ◌≤◌}
use Rattle.literals.specs.Sets.{has, minus, within}
use Rattle.program.specs.Inside.Table.{head_at, body_at, need_at, rule_count}

-- rule i is live
abbrev pub live_at : List ℕ → ℕ → ℕ → ℕ → Bool
live_at t d s i = has s (head_at t i) && within (minus (body_at t i) d) s

-- row j of u is the live rule i of t, with d cut from its body
pub record LiveRow (t : List ℕ) (d s i : ℕ) (u : List ℕ) (j : ℕ) : Type 0 where
  pub listed : i < rule_count t
  pub live : live_at t d s i ≡ true
  pub head_is : head_at u j ≡ head_at t i
  pub need_is : need_at u j ≡ need_at t i
  pub body_is : body_at u j ≡ minus (body_at t i) d

-- the rows of u are the live rules of t, in any order
pub record LiveRules (t : List ℕ) (d s : ℕ) (u : List ℕ) : Type 0 where
  pub few : rule_count u ≤ 96
  pub from : (j : ℕ) → j < rule_count u → (i : ℕ) × LiveRow t d s i u j
  pub all : (i : ℕ) → i < rule_count t → live_at t d s i ≡ true → (j : ℕ) × (j < rule_count u) × LiveRow t d s i u j
