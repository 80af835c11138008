-- Two programs with the same rules and the same listed pairs, under other rule numbers.
use Rattle.std.specs.Prelude.{◌≡◌, ℕ, ◌+◌, ◌*◌, ◌<◌, length}
use mathlib.Core.List.{Memᴰ, map}
use Rattle.lists.specs.Lists.{filter, upto}
use Rattle.literals.specs.Sets.{insert_all}
use Rattle.program.specs.Program.{Program, rule_at, bit_of, in_mask}
use Rattle.argument.specs.Argument.{mask_of, literal_of}

-- rule i of p is rule `to i` of q, and rule j of q is rule `from j` of p
pub record Renumbered (p q : Program) (to from : ℕ → ℕ) : Type 0 where
  pub to_there : (i : ℕ) → i < length p.rules → to i < length q.rules
  pub from_there : (j : ℕ) → j < length q.rules → from j < length p.rules
  pub from_to : (i : ℕ) → i < length p.rules → from (to i) ≡ i
  pub to_from : (j : ℕ) → j < length q.rules → to (from j) ≡ j
  pub rule_same : (i : ℕ) → i < length p.rules → rule_at q.rules (to i) ≡ rule_at p.rules i
  pub pairs_to : (a b : ℕ) → Memᴰ (a, b) p.pairs → Memᴰ (to a, to b) q.pairs
  pub pairs_from : (a b : ℕ) → Memᴰ (a, b) q.pairs → Memᴰ (from a, from b) p.pairs

module _ (p q : Program) (to : ℕ → ℕ) where
  -- the mask that the rules of m have in q
  unfoldable pub carried : ℕ → ℕ
  carried m = insert_all 0 (map (λ i. bit_of q.rules (to i)) (filter (in_mask p.rules m) (upto 0 (length p.rules))))

  -- an argument, M × 128 + h, with that mask
  abbrev pub carried_argument : ℕ → ℕ
  carried_argument x = carried (mask_of x) * 128 + literal_of x
