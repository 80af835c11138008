-- One more argument after a line, as tests that evaluate. The line was acceptable before, so it is enough to test the
-- new argument against it.
use Rattle.std.specs.Prelude.{Bool, true, false, not, ◌&&◌, ◌||◌, List, [], ◌∷◌, ℕ, zero, suc}
use Rattle.lists.specs.Lists.{all}
use Rattle.defeat.specs.Tests.{Tests, proper, blocking, kind}

-- "Supporter and objector take turns down every line": the last argument's side, and the other side
module _ {A : Type 0} where
  abbrev mutual
    pub mine : List A → List A
    mine [] = []
    mine (x ∷ l) = x ∷ theirs l

    pub theirs : List A → List A
    theirs [] = []
    theirs (x ∷ l) = mine l

-- the kind where the test passed, else 0
abbrev pub permit : ℕ → Bool → ℕ
permit zero joined = zero
permit (suc k) true = suc k
permit (suc k) false = zero

module _ {A : Type 0} (t : Tests A) where
  -- y is no sub-argument of an argument of the line
  unfoldable pub unused : List A → A → Bool
  unused l y = all (λ x. not (t.sub y x)) l

  -- y is proper if the line's last argument was blocking
  abbrev pub may_follow : List A → A → Bool
  may_follow [] y = true
  may_follow (x ∷ []) y = true
  may_follow (x ∷ w ∷ l) y = not (blocking t x w) || proper t y x

  -- y keeps the line acceptable. Its side is the one that is not the last argument's.
  unfoldable pub joins : List A → A → Bool
  joins l y = unused l y && (may_follow l y && t.concordant (y ∷ theirs l))

  -- the kind of y as a child of the node at the end of the line: 1 proper, 2 blocking, 0 where it is no child
  unfoldable pub reply_kind : List A → A → ℕ
  reply_kind [] y = 0
  reply_kind (x ∷ l) y = permit (kind t y x) (joins (x ∷ l) y)

  -- the kind of the line's last argument, 0 for a root
  abbrev pub last_kind : List A → ℕ
  last_kind [] = 0
  last_kind (x ∷ []) = 0
  last_kind (x ∷ w ∷ l) = kind t x w
