-- The program that an accepted image holds.
use Rattle.std.specs.Prelude.{List, [], ◌∷◌, ℕ, zero, suc, eqb}
use Rattle.lists.specs.Lists.{choose}
use Rattle.program.specs.Program.{strict, defeasible, Rule, Program}
use Rattle.layout.specs.Layout.{atoms_of, rules_of, pair_count_of, part_of, kind_byte, head_byte, body_bytes, first_of, second_of}

-- "a kind byte (0 strict, 1 defeasible), a head literal, then 0 to 8 body literals"
abbrev pub rule_in : List ℕ → Rule
rule_in part = record { kind = choose (eqb (kind_byte part) 1) defeasible strict; head = head_byte part; body = body_bytes part }

-- the n rules from part i on
unfoldable pub rules_in : List ℕ → ℕ → ℕ → List Rule
rules_in s i zero = []
rules_in s i (suc n) = rule_in (part_of s i) ∷ rules_in s (suc i) n

-- the n pairs from pair j on
unfoldable pub pairs_in : List ℕ → ℕ → ℕ → List (ℕ × ℕ)
pairs_in s j zero = []
pairs_in s j (suc n) = (first_of s j, second_of s j) ∷ pairs_in s (suc j) n

unfoldable pub program_in : List ℕ → Program
unfolding rules_in pairs_in
program_in s = record { atoms = atoms_of s; rules = rules_in s 0 (rules_of s); pairs = pairs_in s 0 (pair_count_of s) }
