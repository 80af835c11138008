-- Two arguments that exclude each other are never both undefeated roots: demand 3 over any frame and any preference.
-- Say a defeats b. Every line below b that a answers first, b and then `a, x2, .., xk`, is compared with its part from a
-- on. A reply of b's side to the longer line is one to the shorter. A reply of a's side to the shorter is one to the
-- longer. So the marks of a's tree carry over: a is U below b, and b is D.
use mathlib.Core.Path.{◌≡◌, refl, ap}
use mathlib.Core.List.Memᴰ
use mathlib.Core.List.{List, [], ◌∷◌, ◌++◌, Memᴰ}
use mathlib.Core.Logic.{◌⊎◌, inl, inr}
use Prim.Native.Nat.{ℕ}
use native.Mathlib.Omega.{arith}
use Rattle.lists.specs.Lists.{Within}
use Rattle.lists.proofs.Lists.{within_nil, within_cons}
use Rattle.defeat.specs.Frame.{Frame}
use Rattle.defeat.specs.Defeat.{Defeater}
use Rattle.defeat.proofs.Laws.{Laws}
use Rattle.defeat.proofs.Defeat.{defeater_attacks, defeater_one}
use Rattle.tree.specs.Line.{Line, root, reply, NoneWithinEarlier, ProperAfterBlocking, AcceptableLine}
use Rattle.tree.specs.Marks.{Mark, U, D, Child, Marked, undefeated, defeated, UndefeatedRoot}
use Rattle.tree.specs.Reply.{mine, theirs}
use Rattle.tree.proofs.Line.{line_last, acceptable_mine, acceptable_theirs, acceptable_by_sides, acceptable_one}
use Rattle.tree.proofs.Reply.{Joins, joins_intro, joins_found}
use Rattle.tree.proofs.Marks.{marked_apart, child_acceptable}

no_nil : {A : Type 0} {x : A} {l : List A} → (x ∷ l ≡ []) → ⊥
no_nil e = let z : ◌≡◌ {A = ℕ} 0 1 = cc in omega arith

module _ {A : Type 0} {F : Frame A} (L : Laws F) (b : A) where
  -- the line with b before its root
  abbrev below : List A → List A
  below l = l ++ (b ∷ [])

  -- ---- a line without its root is acceptable if it was

  sides_drop : (l : List A) → Within (mine l) (mine (below l)) × Within (theirs l) (theirs (below l))
  sides_drop [] = (within_nil (b ∷ []), within_nil [])
  sides_drop (x ∷ l) = (within_cons x (sides_drop l).1, (sides_drop l).0)

  line_drop : (x : A) (l : List A) → Line F (x ∷ below l) → Line F (x ∷ l)
  line_drop x [] (reply ax d r) = root ax
  line_drop x (y ∷ l) (reply ax d r) = reply ax d (line_drop y l r)

  none_within_drop : (l : List A) → NoneWithinEarlier F (below l) → NoneWithinEarlier F l
  none_within_drop [] h = tt
  none_within_drop (y ∷ l) h = (λ x i. h.0 x (Memᴰ.append_left (b ∷ []) i), none_within_drop l h.1)

  proper_after_drop : (l : List A) → ProperAfterBlocking F (below l) → ProperAfterBlocking F l
  proper_after_drop [] h = tt
  proper_after_drop (x ∷ []) h = tt
  proper_after_drop (y ∷ x ∷ []) h = tt
  proper_after_drop (z ∷ y ∷ x ∷ l) h = (h.0, proper_after_drop (y ∷ x ∷ l) h.1)

  acceptable_drop : (x : A) (l : List A) → AcceptableLine F (x ∷ below l) → AcceptableLine F (x ∷ l)
  acceptable_drop x l h = acceptable_by_sides
      (line_drop x l h.line)
      (L.concordant_fewer (mine (x ∷ l)) (mine (x ∷ below l)) (sides_drop (x ∷ l)).0 (acceptable_mine h))
      (L.concordant_fewer (theirs (x ∷ l)) (theirs (x ∷ below l)) (sides_drop (x ∷ l)).1 (acceptable_theirs h))
      (none_within_drop (x ∷ l) h.none_within)
      (proper_after_drop (x ∷ l) h.proper_after)

  -- ---- where the last argument of l is on a's side, and where it is on b's

  record Ours (l : List A) : Type 0 where
    same : mine (below l) ≡ mine l
    with_b : Memᴰ b (theirs (below l))
    keeps : AcceptableLine F (below l)

  record Others (l : List A) : Type 0 where
    same : theirs (below l) ≡ theirs l
    with_b : Memᴰ b (mine (below l))
    keeps : AcceptableLine F (below l)

  -- ---- replies of b's side to the longer line are replies to the shorter

  fewer : (l : List A) (y : A) → Ours l → Child F (below l) y → Child F l y
  fewer [] y i c = absurd (no_nil i.same)
  fewer (x ∷ l) y i c = (c.0, acceptable_drop y (x ∷ l) c.1)

  -- ---- replies of a's side to the shorter line are replies to the longer

  -- y attacks the last argument x, whose side has b too: were y a sub-argument of b, the side were not concordant
  apart : (x : A) (l : List A) (y : A) → Others (x ∷ l) → Defeater F y x → ¬ F.SubArgument y b
  apart x l y i d s =
      let (z, at) = defeater_attacks d in
      let side = acceptable_mine i.keeps in
      let here = Memᴰ.head refl in
      L.concordant_apart (mine (below (x ∷ l))) b x y z side i.with_b here s at.sub at.excludes

  more : (l : List A) (y : A) → Others l → Child F l y → Child F (below l) y
  more [] y i c = absurd c
  more (x ∷ []) y i c = absurd (no_nil i.same)
  more (x ∷ w ∷ l) y i c = (
    d,
    joins_intro i.keeps ay d (record {
      none_within = λ e m. earlier e (Memᴰ.append_cases (x ∷ w ∷ l) m);
      follows = j.follows;
      side = rw i.same j.side;
    }),
  )
    where
      d : Defeater F y x
      d = c.0

      ay : F.Argument y
      ay = line_last c.1.line

      j : Joins F (x ∷ w ∷ l) y
      j = joins_found c.1

      earlier : (e : A) → Memᴰ e (x ∷ w ∷ l) ⊎ Memᴰ e (b ∷ []) → ¬ F.SubArgument y e
      earlier e (inl m) = j.none_within e m
      earlier e (inr m) = rw (Memᴰ.eq_of_singleton m) (apart x (w ∷ l) y i d)

  -- ---- so marks carry over: U on a's side, D on b's

  abbrev On : Mark → List A → Type 0
  On U l = Ours l
  On D l = Others l

  turn_U : (l : List A) (y : A) → Ours l → Child F (below l) y → Others (y ∷ l)
  turn_U l y i c = record {
    same = i.same;
    with_b = Memᴰ.tail i.with_b;
    keeps = child_acceptable F (below l) y c;
  }

  turn_D : (l : List A) (y : A) → Others l → Child F (below l) y → Ours (y ∷ l)
  turn_D l y i c = record {
    same = ap (λ s. y ∷ s) i.same;
    with_b = i.with_b;
    keeps = child_acceptable F (below l) y c;
  }

  carry : {m : Mark} {l : List A} → Marked F m l → On m l → Marked F m (below l)
  carry (undefeated {l = l} f) i = undefeated (λ y c. carry (f y (fewer l y i c)) (turn_U l y i c))
  carry (defeated {l = l} y c u) i = let d = more l y i c in defeated y d (carry u (turn_D l y i d))

  -- ---- b, answered by a

  module _ (a : A) (aa : F.Argument a) (ab : F.Argument b) (e : F.Excludes a b) (d : Defeater F a b) where
    -- were a a sub-argument of b, then b alone were not concordant
    not_within : ¬ F.SubArgument a b
    not_within s =
        let here = Memᴰ.head refl in
        L.concordant_apart (b ∷ []) b b a b (L.concordant_one b ab) here here s (L.sub_refl b ab) e

    answer : Child F (b ∷ []) a
    answer = (
      d,
      joins_intro (acceptable_one L ab) aa d (record {
        none_within = λ x i. rw (Memᴰ.eq_of_singleton i) not_within;
        follows = tt;
        side = L.concordant_one a aa;
      }),
    )

    root_defeated : UndefeatedRoot F a → Marked F D (b ∷ [])
    root_defeated u =
        let start : Ours (a ∷ []) = record { same = refl; with_b = Memᴰ.head refl; keeps = answer.1 } in
        defeated a answer (carry u start)

pub exclusive_roots : {A : Type 0} {F : Frame A} → Laws F → (a b : A) → F.Argument a → F.Argument b → F.Excludes a b
    → UndefeatedRoot F a → UndefeatedRoot F b → ⊥
exclusive_roots L a b aa ab e u v = defeater_one L a b aa ab e
    (λ d. marked_apart v (root_defeated L b a aa ab e d u))
    (λ d. marked_apart u (root_defeated L a b ab aa (L.excludes_sym a b e) d v))
