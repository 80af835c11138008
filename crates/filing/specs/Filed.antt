-- The filed form of a program (document 02, C-12) and the way back to typed order (C-16). No byte stands here.
use Rattle.std.specs.Prelude.{List, ◌∷◌, map, ℕ, length}
use Rattle.lists.specs.Lists.{upto, index_in, inverse}
use Rattle.lists.specs.Sorting.{sort_by}
use Rattle.program.specs.Program.{Rule, Program, rule_at}
use Rattle.writing.specs.Image.{kind_number, pair_key}

-- "Rules ascend by kind byte, then head, then number of body literals, then body bytes"
abbrev pub rule_key : Rule → List ℕ
rule_key r = kind_number r.kind ∷ r.head ∷ length r.body ∷ r.body

-- the numbers of all rules in that order: "the old number of each filed rule"
unfoldable pub filed_order : List Rule → List ℕ
filed_order l = sort_by (λ i. rule_key (rule_at l i)) (upto 0 (length l))

-- the program with its rules in the order of some numbers; "pairs are renumbered and sorted"
unfoldable pub ordered : Program → List ℕ → Program
ordered p order = record {
  atoms = p.atoms;
  rules = map (rule_at p.rules) order;
  pairs = sort_by pair_key (map (λ q. (index_in order q.0, index_in order q.1)) p.pairs);
}

unfoldable pub filed : Program → Program
filed p = ordered p (filed_order p.rules)

-- "with its rules in old order and its pairs sorted for it": filed rule i has place `numbers` i, so the rule at a place is the
-- one whose old number it is
unfoldable pub typed : Program → List ℕ → Program
typed p numbers = ordered p (inverse numbers)
