-- Switched rules: the rows of a rule table, by themselves. Rule i has a need, a body and a head; it is on under the mask m if
-- its need is within m. Nothing here knows of programs.
use Rattle.std.specs.Prelude.{◌≡◌, Bool, true, List, ◌⊎◌, ℕ, ◌^◌, ◌<◌}
use Rattle.literals.specs.Sets.{has, within}
use Rattle.program.specs.Program.{Kind}
use Rattle.program.specs.Inside.Table.{head_at, body_at, need_at, need_of, rule_count}

-- some rule reads l or has it as its head
abbrev pub Named : List ℕ → ℕ → Type 0
Named t l = (i : ℕ) × (i < rule_count t) × ((has (body_at t i) l ≡ true) ⊎ (l ≡ head_at t i))

-- the set s has the whole body of rule i
abbrev pub BodyIn : List ℕ → ℕ → (ℕ → Bool) → Type 0
BodyIn t i s = (l : ℕ) → has (body_at t i) l ≡ true → s l ≡ true

-- the set s is closed under the rules that are on under m
abbrev pub ClosedIn : List ℕ → ℕ → (ℕ → Bool) → Type 0
ClosedIn t m s = (i : ℕ) → i < rule_count t → within (need_at t i) m ≡ true → BodyIn t i s → s (head_at t i) ≡ true

-- what each rule needs is nothing or one switch of 16
pub record NeedsOne (t : List ℕ) : Type 0 where
  pub one : (i : ℕ) → i < rule_count t → (k : Kind) × (b : ℕ) × (need_at t i ≡ need_of k b)
  pub below : (i : ℕ) → i < rule_count t → need_at t i < 2 ^ 16
