-- Every acceptable line has one mark, and it is the computed one.
use mathlib.Core.Path.{◌≡◌, refl}
use mathlib.Core.Bool.{Bool, true, false, not}
use mathlib.Core.List.{List, [], ◌∷◌, Memᴰ}
use mathlib.Core.Logic.{◌⊎◌, inl, inr, ◌↔◌, ◌≢◌}
use Prim.Native.Nat.{ℕ, zero, suc, ◌<◌}
use native.Mathlib.Omega.{arith}
use lib.Dec.{T, not_T}
use Rattle.lists.specs.Decides.{Decides}
use Rattle.lists.proofs.Lists.{T_known}
use Rattle.lists.proofs.Decides.{decides_iff}
use Rattle.defeat.specs.Frame.{Frame}
use Rattle.defeat.specs.Tests.{Tests}
use Rattle.defeat.proofs.Laws.{Laws}
use Rattle.defeat.proofs.Renders.{Renders}
use Rattle.tree.specs.Line.{AcceptableLine}
use Rattle.tree.specs.Marks.{Mark, U, D, Child, Marked, undefeated, defeated, UndefeatedRoot}
use Rattle.tree.specs.Reply.{reply_kind}
use Rattle.tree.specs.Forest.{all_defeated, mark_of, replies_to, remaining, replies, undefeated_root}
use Rattle.tree.proofs.Line.{line_last, acceptable_one}
use Rattle.tree.proofs.Reply.{reply_child}
use Rattle.tree.proofs.Forest.{from_every, from_some, remaining_falls}

-- ---- the marks as published

abbrev other : Mark → Mark
other U = D
other D = U

module _ {A : Type 0} {F : Frame A} where
  pub marked_every : {l : List A} → Marked F U l → (y : A) → Child F l y → Marked F D (y ∷ l)
  marked_every (undefeated f) = f

  pub marked_some : {l : List A} → Marked F D l → (y : A) × Child F l y × Marked F U (y ∷ l)
  marked_some (defeated y c u) = (y, c, u)

  -- down a line that had both marks the two would take turns for ever
  turns : {m : Mark} {l : List A} → Marked F m l → Marked F (other m) l → ⊥
  turns (undefeated f) (defeated y c u) = turns (f y c) u
  turns (defeated y c u) (undefeated f) = turns u (f y c)

  -- no line has both marks
  pub marked_apart : {l : List A} → Marked F U l → Marked F D l → ⊥
  marked_apart u d = turns u d

  pub marked_unique : {m n : Mark} {l : List A} → Marked F m l → Marked F n l → m ≡ n
  marked_unique (undefeated f) (undefeated g) = refl
  marked_unique (undefeated f) (defeated y c u) = absurd (marked_apart u (f y c))
  marked_unique (defeated y c u) (undefeated f) = absurd (marked_apart u (f y c))
  marked_unique (defeated y c u) (defeated z d v) = refl

module _ {A : Type 0} (F : Frame A) where
  pub child_argument : (l : List A) (y : A) → Child F l y → F.Argument y
  child_argument [] y c = absurd c
  child_argument (x ∷ l) y c = line_last c.1.line

  pub child_acceptable : (l : List A) (y : A) → Child F l y → AcceptableLine F (y ∷ l)
  child_acceptable [] y c = absurd c
  child_acceptable (x ∷ l) y c = c.1

-- ---- the computed marks

one_is : (b : Bool) → (mark_of b ≡ 1) ↔ T b
one_is true = (λ e. tt, λ h. refl)
one_is false = (λ e. absurd (omega (arith, e)), λ h. absurd h)

two_is : (b : Bool) → (mark_of b ≡ 2) ↔ T (not b)
two_is true = (λ e. absurd (omega (arith, e)), λ h. absurd h)
two_is false = (λ e. tt, λ h. refl)

-- the test passes where the node at the end of the line is U, and fails where it is D
pub record Marks {A : Type 0} (F : Frame A) (test : Bool) (l : List A) : Type 0 where
  pub if_U : Decides test (Marked F U l)
  pub if_D : Decides (not test) (Marked F D l)

module _ {A : Type 0} {F : Frame A} {t : Tests A} (L : Laws F) (R : Renders F t) where
  -- a listed argument is a sub-argument of itself, as the laws of `replies` ask
  pub itself : (x : A) → Memᴰ x t.arguments → T (t.sub x x)
  itself x i = let a = (R.argument x).1 i in (R.sub x x a a).passes (L.sub_refl x a)

  marks_to : (n : ℕ) (l : List A) → AcceptableLine F l → remaining t l < n → Marks F (all_defeated (replies_to t n l)) l
  unfolding replies_to
  marks_to zero l a h = absurd (omega arith)
  marks_to (suc n) l a h = record {
    if_U = decides_iff
        (λ e. undefeated (λ y c. e y (listed y c) ((child y (argument y c)).1 c)))
        (λ u y i k. marked_every u y ((child y ((R.argument y).1 i)).0 k))
        (from_every (reply_kind t l) (λ y. replies_to t n (y ∷ l)) (λ y. Marked F D (y ∷ l)) t.arguments
        (λ y i k. (marks_to n (y ∷ l) (next y i k) (less y i k)).if_D));
    if_D = decides_iff
        (λ s. defeated s.0 ((child s.0 ((R.argument s.0).1 s.1)).0 s.2) s.3)
        (λ d. let (y, c, u) = marked_some d in (y, listed y c, (child y (argument y c)).1 c, u))
        (from_some (reply_kind t l) (λ y. replies_to t n (y ∷ l)) (λ y. Marked F U (y ∷ l)) t.arguments
        (λ y i k. (marks_to n (y ∷ l) (next y i k) (less y i k)).if_U));
  }
    where
      child : (y : A) → F.Argument y → (reply_kind t l y ≢ 0) ↔ Child F l y
      child y ay = reply_child R l a y ay

      argument : (y : A) → Child F l y → F.Argument y
      argument = child_argument F l

      listed : (y : A) → Child F l y → Memᴰ y t.arguments
      listed y c = (R.argument y).0 (argument y c)

      -- a child's line is acceptable, and leaves fewer arguments
      next : (y : A) → Memᴰ y t.arguments → reply_kind t l y ≢ 0 → AcceptableLine F (y ∷ l)
      next y i k = child_acceptable F l y ((child y ((R.argument y).1 i)).0 k)

      less : (y : A) → Memᴰ y t.arguments → reply_kind t l y ≢ 0 → remaining t (y ∷ l) < n
      less y i k = omega (arith, remaining_falls t itself l y i k)

  module _ (l : List A) (a : AcceptableLine F l) where
    -- the mark of the node at the end of the line, computed from the replies to it
    pub replies_marks : Marks F (all_defeated (replies t l)) l
    unfolding replies
    replies_marks = marks_to (suc (remaining t l)) l a (omega arith)

    -- the same by document 01's numbers
    pub mark_U : (mark_of (all_defeated (replies t l)) ≡ 1) ↔ Marked F U l
    mark_U =
        let m = replies_marks.if_U in
        let one = one_is (all_defeated (replies t l)) in
        (λ e. m.says (one.0 e), λ u. one.1 (m.passes u))

    pub mark_D : (mark_of (all_defeated (replies t l)) ≡ 2) ↔ Marked F D l
    mark_D =
        let m = replies_marks.if_D in
        let two = two_is (all_defeated (replies t l)) in
        (λ e. m.says (two.0 e), λ d. two.1 (m.passes d))

    -- every acceptable line has a mark; `marked_unique` says that it has no other
    pub marked_either : Marked F U l ⊎ Marked F D l
    marked_either = go (T_known (all_defeated (replies t l)))
      where
        go : T (all_defeated (replies t l)) ⊎ (T (all_defeated (replies t l)) → ⊥) → Marked F U l ⊎ Marked F D l
        go (inl h) = inl (replies_marks.if_U.says h)
        go (inr n) = inr (replies_marks.if_D.says (not_T (all_defeated (replies t l)) n))

  -- a root's computed mark
  pub undefeated_renders : (a : A) → F.Argument a → Decides (undefeated_root t a) (UndefeatedRoot F a)
  unfolding undefeated_root
  undefeated_renders a h = (replies_marks (a ∷ []) (acceptable_one L h)).if_U
