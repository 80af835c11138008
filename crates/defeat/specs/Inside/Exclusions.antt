-- All that a call has made of a program before it looks for defeaters.
use Rattle.std.specs.Prelude.{◌≡◌, List, ℕ, ◌^◌, ◌<◌, length, get_or}
use Rattle.program.specs.Program.{Program}
use Rattle.program.specs.Limits.{Limits}
use Rattle.program.specs.Inside.Table.{Holds}
use Rattle.argument.specs.List.{argument_list}
use Rattle.excluded.specs.Inside.Exclusions.{Excluded, Conclusions}
use Rattle.closures.specs.Inside.Table.{Tells}

-- each entry is M × 128 + h with a mask of 16 rules at most
abbrev pub Numbers : (arguments : List ℕ) → Type 0
Numbers arguments = (i : ℕ) → i < length arguments → get_or arguments i 0 < 2 ^ 23

-- the rules, the rows, the exclusion table and the list are those of the program p
pub record Ready (p : Program) (u : ℕ) (table rows exclusions arguments : List ℕ) : Type 0 where
  pub limits : Limits p
  pub holds : Holds p table
  pub told : Tells p.rules rows
  pub excluded : Excluded p.rules u exclusions
  pub conclusions : Conclusions u (argument_list p.rules)
  pub listed : arguments ≡ argument_list p.rules
