-- Programs that an image can hold.
use Rattle.std.specs.Prelude.{◌≡◌, ℕ, ◌≤◌, length}
use mathlib.Core.List.{Memᴰ}
use Rattle.lists.specs.Lists.{Distinct}
use Rattle.lists.specs.Sorting.{Sorted}
use Rattle.program.specs.Program.{Rule, Program, defeasibles}
use Rattle.program.specs.Limits.{PairOf}
use Rattle.layout.specs.Causes.{accepted, part_verdict}
use Rattle.writing.specs.Image.{rule_bytes, pair_key}

-- a program that an image can hold: what the causes 2 and 4 to 13 leave
pub record Writable (p : Program) : Type 0 where
  pub few_atoms : p.atoms ≤ 64
  pub few_rules : length p.rules ≤ 96
  pub few_pairs : length p.pairs ≤ 240
  pub few_defeasible : defeasibles p.rules ≤ 16
  -- the causes 4 to 8
  pub rule_fits : (r : Rule) → Memᴰ r p.rules → part_verdict (rule_bytes r) p.atoms 0 0 ≡ accepted
  pub rules_once : Distinct p.rules
  pub pairs_name : (a b : ℕ) → Memᴰ (a, b) p.pairs → PairOf p.rules a b
  pub pairs_sorted : Sorted pair_key p.pairs
