-- The roots of a forest.
use mathlib.Core.Path.{◌≡◌, refl}
use mathlib.Core.Bool.{Bool, true, false, not, ◌&&◌, ◌||◌}
use mathlib.Core.List.{List, [], ◌∷◌}
use Prim.Native.Nat.{ℕ}
use Rattle.lists.specs.Lists.{any}
use Rattle.defeat.specs.Tests.{Tests}
use Rattle.tree.specs.Forest.{all_defeated, replies, forest_of, undefeated_root}
use Rattle.answer.specs.Answer.{arguments_for, warranted}

-- h is warranted exactly where not every tree of its arguments has a root marked D

some_root : (t : Tests ℕ) (l : List ℕ) → any (undefeated_root t) l ≡ not (all_defeated (forest_of t l))
unfolding undefeated_root forest_of
some_root t [] = refl
some_root t (x ∷ l) = go (all_defeated (replies t (x ∷ []))) (some_root t l)
  where
    go : (b : Bool) → any (undefeated_root t) l ≡ not (all_defeated (forest_of t l))
        → (b || any (undefeated_root t) l) ≡ not (not b && all_defeated (forest_of t l))
    go true e = refl
    go false e = e

pub warranted_roots : (t : Tests ℕ) (h : ℕ) → warranted t h ≡ not (all_defeated (forest_of t (arguments_for t h)))
unfolding warranted
warranted_roots t h = some_root t (arguments_for t h)
