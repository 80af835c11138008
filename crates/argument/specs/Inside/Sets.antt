-- A table of literal sets, two words each.
use Rattle.std.specs.Prelude.{List, ℕ, ◌+◌, ◌*◌, get_or}
use Rattle.literals.specs.Inside.Words.{joined}

-- set number i
abbrev pub set_at : List ℕ → ℕ → ℕ
set_at t i = joined (get_or t (2 * i + 1) 0) (get_or t (2 * i) 0)
