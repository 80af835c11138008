-- What a store leaves in the rule table.
use Rattle.std.specs.Prelude.{List, ℕ, ◌+◌, ◌*◌, set}
use Rattle.literals.specs.declared.LiteralSet.{LiteralSet}

-- row i holds a rule
abbrev pub with_row : List ℕ → ℕ → ℕ → LiteralSet → ℕ → List ℕ
with_row t i head body need = set (set (set (set t (4 * i) head) (4 * i + 1) body.lo) (4 * i + 2) body.hi) (4 * i + 3) need

-- bit b is the rule's
abbrev pub with_bit : List ℕ → ℕ → ℕ → List ℕ
with_bit t b rule = set t (384 + b) rule

-- the rule with bit b beats those of the mask
abbrev pub with_beaten : List ℕ → ℕ → ℕ → List ℕ
with_beaten t b mask = set t (400 + b) mask

-- the counts of rules, of defeasible rules and of atoms
abbrev pub with_counts : List ℕ → ℕ → ℕ → ℕ → List ℕ
with_counts t rules bits atoms = set (set (set t 416 rules) 417 bits) 418 atoms
