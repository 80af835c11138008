-- Lines: the sides are the even and the odd positions, and what an acceptable line gives.
use mathlib.Core.Path.{◌≡◌, refl, sym, subst, ap, ◌∙◌}
use mathlib.Core.List.Memᴰ
use mathlib.Core.List.{List, [], ◌∷◌}
use mathlib.Core.Logic.{◌⊎◌, inl, inr}
use Prim.Native.Nat.{suc}
use lib.ListN.{length}
use Rattle.lists.specs.Lists.{Within}
use Rattle.lists.proofs.Lists.{within_nil, within_cons}
use Rattle.defeat.specs.Frame.{Frame}
use Rattle.defeat.specs.Defeat.{Defeater}
use Rattle.defeat.proofs.Laws.{Laws}
use Rattle.defeat.proofs.Renders.{Arguments}
use Rattle.tree.specs.Line.{if_even, at_even, at_odd, Line, root, reply, NoneWithinEarlier, ProperAfterBlocking, AcceptableLine}
use Rattle.tree.specs.Reply.{mine, theirs}

-- ---- the two sides are the even and the odd positions, counted from the root

module _ {A : Type 0} where
  -- the line's last argument stands at an odd position, and the next one's will be even
  pub record EndsOdd (l : List A) : Type 0 where
    pub mine_odd : mine l ≡ at_odd l
    pub theirs_even : theirs l ≡ at_even l
    pub next : (x : A) (m : List A) → (if_even (length l) x m ≡ x ∷ m) × (if_even (suc (length l)) x m ≡ m)

  -- the line's last argument stands at an even position, and the next one's will be odd
  pub record EndsEven (l : List A) : Type 0 where
    pub mine_even : mine l ≡ at_even l
    pub theirs_odd : theirs l ≡ at_odd l
    pub next : (x : A) (m : List A) → (if_even (length l) x m ≡ m) × (if_even (suc (length l)) x m ≡ x ∷ m)

  pub sides_positions : (l : List A) → EndsOdd l ⊎ EndsEven l
  sides_positions [] = inl (record { mine_odd = refl; theirs_even = refl; next = λ x m. (refl, refl) })
  sides_positions (x ∷ l) = turn (sides_positions l)
    where
      turn : EndsOdd l ⊎ EndsEven l → EndsOdd (x ∷ l) ⊎ EndsEven (x ∷ l)
      turn (inl o) = inr (record {
        mine_even = ap (λ s. x ∷ s) o.theirs_even ∙ sym (o.next x (at_even l)).0;
        theirs_odd = o.mine_odd ∙ sym (o.next x (at_odd l)).1;
        next = λ y m. ((o.next y m).1, (o.next y m).0);
      })
      turn (inr e) = inl (record {
        mine_odd = ap (λ s. x ∷ s) e.theirs_odd ∙ sym (e.next x (at_odd l)).1;
        theirs_even = e.mine_even ∙ sym (e.next x (at_even l)).0;
        next = λ y m. ((e.next y m).1, (e.next y m).0);
      })

  -- four arguments, the root w at position 0
  pub positions_four : (w x y z : A)
      → (at_even (z ∷ y ∷ x ∷ w ∷ []) ≡ y ∷ w ∷ []) × (at_odd (z ∷ y ∷ x ∷ w ∷ []) ≡ z ∷ x ∷ [])
  positions_four w x y z = (refl, refl)

  -- a side has arguments of the line only
  pub sides_within : (l : List A) → Within (mine l) l × Within (theirs l) l
  sides_within [] = (within_nil [], within_nil [])
  sides_within (y ∷ l) = (within_cons y (sides_within l).1, λ x i. Memᴰ.tail ((sides_within l).0 x i))

-- ---- lines of a frame

module _ {A : Type 0} {F : Frame A} where
  pub line_arguments : {l : List A} → Line F l → Arguments F l
  line_arguments (root a) x (Memᴰ.head e) = subst F.Argument (sym e) a
  line_arguments (root a) x (Memᴰ.tail i) = absurd (Memᴰ.not-nil i)
  line_arguments (reply a d r) x (Memᴰ.head e) = subst F.Argument (sym e) a
  line_arguments (reply a d r) x (Memᴰ.tail i) = line_arguments r x i

  pub line_last : {x : A} {l : List A} → Line F (x ∷ l) → F.Argument x
  line_last (root a) = a
  line_last (reply a d r) = a

  pub line_defeats : {y x : A} {l : List A} → Line F (y ∷ x ∷ l) → Defeater F y x
  line_defeats (reply a d r) = d

-- ---- acceptable lines by sides

module _ {A : Type 0} {F : Frame A} {l : List A} where
  pub acceptable_mine : AcceptableLine F l → F.Concordant (mine l)
  acceptable_mine a = go (sides_positions l)
    where
      go : EndsOdd l ⊎ EndsEven l → F.Concordant (mine l)
      go (inl o) = rw o.mine_odd a.odd
      go (inr e) = rw e.mine_even a.even

  pub acceptable_theirs : AcceptableLine F l → F.Concordant (theirs l)
  acceptable_theirs a = go (sides_positions l)
    where
      go : EndsOdd l ⊎ EndsEven l → F.Concordant (theirs l)
      go (inl o) = rw o.theirs_even a.even
      go (inr e) = rw e.theirs_odd a.odd

  pub acceptable_by_sides : Line F l → F.Concordant (mine l) → F.Concordant (theirs l)
      → NoneWithinEarlier F l → ProperAfterBlocking F l → AcceptableLine F l
  acceptable_by_sides h m t w p = go (sides_positions l)
    where
      by : F.Concordant (at_even l) → F.Concordant (at_odd l) → AcceptableLine F l
      by e o = record { line = h; even = e; odd = o; none_within = w; proper_after = p }

      go : EndsOdd l ⊎ EndsEven l → AcceptableLine F l
      go (inl o) = by (rw (← o.theirs_even) t) (rw (← o.mine_odd) m)
      go (inr e) = by (rw (← e.mine_even) m) (rw (← e.theirs_odd) t)

-- a single argument is an acceptable line
pub acceptable_one : {A : Type 0} {F : Frame A} → Laws F → {a : A} → F.Argument a → AcceptableLine F (a ∷ [])
acceptable_one L {a} h = record {
  line = root h;
  even = L.concordant_one a h;
  odd = L.concordant_fewer [] (a ∷ []) (within_nil (a ∷ [])) (L.concordant_one a h);
  none_within = (λ x i. absurd (Memᴰ.not-nil i), tt);
  proper_after = tt;
}
