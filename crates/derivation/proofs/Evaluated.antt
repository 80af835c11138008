-- Gatherings by evaluation: a chain of three rules in the worst order and in the best, and two rules with one head.
use mathlib.Core.Path.{◌≡◌, refl}
use mathlib.Core.List.{List, [], ◌∷◌}
use Prim.Native.Nat.{ℕ}
use native.Mathlib.Omega.{arith}
use Rattle.program.specs.Program.{Rule, strict, fact}
use Rattle.derivation.specs.Closure.{round}
use Rattle.derivation.specs.Gathering.{bodies_read, Gathers, last, more}

abbrev from : ℕ → ℕ → Rule
from h b = record { kind = strict; head = h; body = b ∷ [] }

abbrev pub worst : List Rule
worst = from 4 2 ∷ from 2 0 ∷ fact 0 ∷ []

abbrev pub best : List Rule
best = fact 0 ∷ from 2 0 ∷ from 4 2 ∷ []

-- the second has its body there and its head too
abbrev pub twice : List Rule
twice = fact 0 ∷ from 0 0 ∷ []

-- as many rounds as there may be: one for each literal, and one that adds nothing
pub worst_gathers : Gathers worst 0 21 4
unfolding round
worst_gathers =
    more {s = 0} (λ e. absurd (omega (arith, e)))
    (more {s = 1} (λ e. absurd (omega (arith, e))) (more {s = 5} (λ e. absurd (omega (arith, e))) (last refl)))

pub worst_read : (bodies_read worst 0 ≡ 3) × (bodies_read worst 1 ≡ 2) × (bodies_read worst 5 ≡ 1) × (bodies_read worst 21 ≡ 0)
unfolding bodies_read
worst_read = (refl, refl, refl, refl)

pub best_gathers : Gathers best 0 21 2
unfolding round
best_gathers = more {s = 0} (λ e. absurd (omega (arith, e))) (last refl)

pub best_read : (bodies_read best 0 ≡ 3) × (bodies_read best 21 ≡ 0)
unfolding bodies_read
best_read = (refl, refl)

-- what is given counts as derived, and needs one round where it is all
pub twice_gathers : Gathers twice 0 1 2 × Gathers twice 1 1 1
unfolding round
twice_gathers = (more {s = 0} (λ e. absurd (omega (arith, e))) (last refl), last refl)

pub twice_read : (bodies_read twice 0 ≡ 1) × (bodies_read twice 1 ≡ 0)
unfolding bodies_read
twice_read = (refl, refl)
