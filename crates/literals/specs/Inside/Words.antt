-- The set that two words hold.
use Rattle.std.specs.Prelude.{ℕ, ◌+◌, ◌*◌, ◌^◌}
use Rattle.literals.specs.declared.LiteralSet.{LiteralSet}

-- the high word's digits above the low word's
abbrev pub joined : ℕ → ℕ → ℕ
joined hi lo = hi * 2 ^ 64 + lo

unfoldable pub set_of : LiteralSet → ℕ
set_of s = joined s.hi s.lo
