-- The rules of a set, by number.
use mathlib.Core.Path.{◌≡◌}
use mathlib.Core.Bool.{true}
use mathlib.Core.List.Memᴰ
use mathlib.Core.List.{List, [], ◌∷◌, Memᴰ}
use mathlib.Core.Logic.{⊎_elim}
use Prim.Native.Nat.{ℕ, suc}
use Rattle.lists.proofs.Lists.{T_true, keep_head, keep_tail, keep_cases}
use Rattle.literals.specs.Sets.{has, within}
use Rattle.literals.proofs.Tests.{true_T}
use Rattle.literals.proofs.Within.{within_each}
use Rattle.program.specs.Program.{Rule}
use Rattle.derivation.specs.Closure.{contradictory}
use Rattle.derivation.proofs.Contradictions.{contradictory_mono}
use Rattle.clash.specs.Clash.{among_from, among}

-- each is one of the list, and one of those of a larger set
from_rules : (k i : ℕ) (l : List Rule) (r : Rule) → Memᴰ r (among_from k i l) → Memᴰ r l
unfolding among_from
from_rules k i [] r m = absurd (Memᴰ.not-nil m)
from_rules k i (q ∷ l) r m =
    ⊎_elim (λ (e, t). Memᴰ.head e) (λ j. Memᴰ.tail (from_rules k (suc i) l r j))
    (keep_cases (has k i) q r (among_from k (suc i) l) m)

from_more : (a b : ℕ) → within a b ≡ true → (i : ℕ) (l : List Rule) (r : Rule) → Memᴰ r (among_from a i l)
    → Memᴰ r (among_from b i l)
unfolding among_from
from_more a b w i [] r m = absurd (Memᴰ.not-nil m)
from_more a b w i (q ∷ l) r m =
    ⊎_elim (λ (e, t). Memᴰ.cast e (keep_head (has b i) q (among_from b (suc i) l) (true_T (has b i) (within_each a b w i (T_true (has a i) t)))))
    (λ j. keep_tail (has b i) q (from_more a b w (suc i) l r j)) (keep_cases (has a i) q r (among_from a (suc i) l) m)

pub among_rules : (k : ℕ) (rules : List Rule) (r : Rule) → Memᴰ r (among k rules) → Memᴰ r rules
among_rules k rules = from_rules k 0 rules

-- a larger set of rules is contradictory if a smaller one is
pub among_mono : (a b : ℕ) (rules : List Rule) → within a b ≡ true → contradictory (among a rules) ≡ true
    → contradictory (among b rules) ≡ true
among_mono a b rules w = contradictory_mono (among a rules) (among b rules) (from_more a b w 0 rules)
