-- Some rules as a program of their own.
use Rattle.std.specs.Prelude.{List, [], map, ℕ}
use Rattle.program.specs.Program.{strict, Rule, Program}
use Rattle.clash.specs.Clash.{among}

-- what a rule derives is the same whatever its kind
abbrev pub as_strict : Rule → Rule
as_strict r = record { kind = strict; head = r.head; body = r.body }

abbrev pub strictly : ℕ → List Rule → List Rule
strictly k rules = map as_strict (among k rules)

abbrev pub selected : ℕ → Program → Program
selected k p = record { atoms = p.atoms; rules = strictly k p.rules; pairs = [] }
