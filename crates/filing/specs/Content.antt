-- "the same atom count, the same rules and the same listed pairs between those rules" (document 02, C-12)
use Rattle.std.specs.Prelude.{◌≡◌, ℕ}
use mathlib.Core.List.{Memᴰ}
use Rattle.lists.specs.Lists.{Within}
use Rattle.program.specs.Program.{Rule, Program, rule_at}

-- a listed pair between rules: r beats s
pub record ListedPair (p : Program) (r s : Rule) : Type 0 where
  pub first : ℕ
  pub second : ℕ
  pub pair : Memᴰ (first, second) p.pairs
  pub first_is : rule_at p.rules first ≡ r
  pub second_is : rule_at p.rules second ≡ s

-- By elements, not by numbers: an accepted image has each rule and each pair once (causes 10 and 13), and its pairs name
-- rules that are there (12).
pub record SameContent (p q : Program) : Type 0 where
  pub atoms_same : p.atoms ≡ q.atoms
  pub rules_to : Within p.rules q.rules
  pub rules_from_lem : Within q.rules p.rules
  pub pairs_to : (r s : Rule) → ListedPair p r s → ListedPair q r s
  pub pairs_from : (r s : Rule) → ListedPair q r s → ListedPair p r s
