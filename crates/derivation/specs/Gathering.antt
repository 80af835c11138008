-- Gathering (document 02, C-14): the bodies that a round reads, and the rounds, the first of which that adds nothing is the
-- last. Of any list of rules and any given literals.
use Rattle.std.specs.Prelude.{◌≡◌, List, [], ◌∷◌, ℕ, suc, ◌+◌}
use Rattle.lists.specs.Lists.{choose}
use Rattle.literals.specs.Sets.{has}
use Rattle.program.specs.Program.{Rule}
use Rattle.derivation.specs.Closure.{fire, round}

-- "bodies read in a round, exactly one for each rule of the set whose head wasn't derived when its turn came"
unfoldable pub bodies_read : List Rule → ℕ → ℕ
unfolding has fire
bodies_read [] s = 0
bodies_read (r ∷ rules) s = choose (has s r.head) 0 1 + bodies_read rules (fire r s)

-- a round from s: the set that it leaves, and the bodies that it reads
pub record Rounded (rules : List Rule) (s t read : ℕ) : Type 0 where
  pub set_is : t ≡ round rules s
  pub read_is : read ≡ bodies_read rules s

-- "end with the first round that adds no literal": from s the rounds, so many, gather r
pub data Gathers (rules : List Rule) : (s r rounds : ℕ) → Type 0 where
  last : {s : ℕ} → round rules s ≡ s → Gathers rules s s 1
  more : {s r n : ℕ} → ¬ (round rules s ≡ s) → Gathers rules (round rules s) r n → Gathers rules s r (suc n)
