-- A small clash of the strict rules (document 02, C-20). A set of rules is a number, the sum of 2 ^ i over their numbers i.
use Rattle.std.specs.Prelude.{◌≡◌, true, false, ◌&&◌, List, [], ◌∷◌, map, ◌↔◌, ℕ, zero, suc, ◌^◌, ◌<◌, length}
use Rattle.lists.specs.Lists.{upto, choose, keep}
use Rattle.literals.specs.Sets.{has, insert, minus}
use Rattle.program.specs.Program.{Rule, is_defeasible, rule_at}
use Rattle.derivation.specs.Derivation.{Contradictory}
use Rattle.derivation.specs.Closure.{contradictory}

-- the rules whose numbers are in k; the first of the list has number i
unfoldable pub among_from : ℕ → ℕ → List Rule → List Rule
among_from k i [] = []
among_from k i (r ∷ l) = keep (has k i) r (among_from k (suc i) l)

abbrev pub among : ℕ → List Rule → List Rule
among k rules = among_from k 0 rules

-- k without rule n
abbrev pub without : ℕ → ℕ → ℕ
without k n = minus k (2 ^ n)

-- rule i is there, and strict; a fact is a strict rule without a body
abbrev pub StrictRule : List Rule → ℕ → Type 0
StrictRule rules i = (i < length rules) × (is_defeasible (rule_at rules i).kind ≡ false)

-- ---- published

-- "go from the highest number down, leaving out each rule without which the rest stays contradictory": of the rules kept
-- those below n are still to be looked at, and in the end `rest` remains
pub data LeavesOut (rules : List Rule) : (n kept rest : ℕ) → Type 0 where
  done : {k : ℕ} → LeavesOut rules 0 k k
  out : {n k r : ℕ} → has k n ≡ true → Contradictory (among (without k n) rules) → LeavesOut rules n (without k n) r
      → LeavesOut rules (suc n) k r
  stays : {n k r : ℕ} → ¬ ((has k n ≡ true) × Contradictory (among (without k n) rules)) → LeavesOut rules n k r
      → LeavesOut rules (suc n) k r

-- "start from all strict rules": k is "what remains"
pub record Remains (rules : List Rule) (k : ℕ) : Type 0 where
  pub start : ℕ
  pub all_strict : (i : ℕ) → (has start i ≡ true) ↔ StrictRule rules i
  pub leaves : LeavesOut rules (length rules) start k

-- "What remains is contradictory, and leaving out any single rule of it ends that."
pub record Clash (rules : List Rule) (k : ℕ) : Type 0 where
  pub strict_only : (i : ℕ) → has k i ≡ true → StrictRule rules i
  pub clashing : Contradictory (among k rules)
  pub minimal : (i : ℕ) → has k i ≡ true → ¬ Contradictory (among (without k i) rules)

-- ---- computed

-- s with the numbers of the strict rules of a list, the first of which has number i
unfoldable pub strict_from : ℕ → ℕ → List Rule → ℕ
unfolding insert
strict_from s i [] = s
strict_from s i (r ∷ l) = strict_from (choose (is_defeasible r.kind) s (insert s i)) (suc i) l

abbrev pub strict_rules : List Rule → ℕ
strict_rules rules = strict_from 0 0 rules

-- k without rule n, if it has the rule and the rest stays contradictory
abbrev pub left_out : List Rule → ℕ → ℕ → ℕ
left_out rules n k = choose (has k n && contradictory (among (without k n) rules)) (without k n) k

-- what remains of k when the rules below n have had their turns
unfoldable pub pruned : List Rule → ℕ → ℕ → ℕ
pruned rules zero k = k
pruned rules (suc n) k = pruned rules n (left_out rules n k)

unfoldable pub clash_of : List Rule → ℕ
unfolding pruned strict_from
clash_of rules = pruned rules (length rules) (strict_rules rules)

-- "One byte for each rule, 1 marked, else 0": for the n rules from rule i on
abbrev pub marks_from : ℕ → ℕ → ℕ → List ℕ
marks_from k i n = map (λ (j : ℕ). choose (has k j) 1 0) (upto i n)
