-- No acceptable line is longer than the different masks, or than one: its masks differ, since no argument is a sub-argument of
-- an earlier one; and on a line of two or more none is empty, since an argument with an empty mask neither defeats nor is
-- defeated.
use mathlib.Core.Path.{◌≡◌, refl, sym, ap, subst, ◌∙◌}
use mathlib.Core.Bool.{true, false≢true}
use mathlib.Core.List.Memᴰ
use mathlib.Core.List.{List, [], ◌∷◌, ◌++◌, map, Memᴰ}
use mathlib.Core.Logic.{◌⊎◌, inl, inr}
use Prim.Native.Nat.{ℕ, ◌+◌, ◌*◌, ◌≤◌}
use native.Mathlib.Omega.{arith}
use lib.ListN.{length, length-map}
use Rattle.lists.specs.Lists.{Within, Distinct}
use Rattle.lists.proofs.Lists.{map_found}
use Rattle.lists.proofs.Permutations.{distinct_length}
use Rattle.literals.specs.Sets.{has}
use Rattle.literals.proofs.Members.{has_empty}
use Rattle.program.specs.Program.{Program}
use Rattle.argument.specs.Argument.{Subset, mask_of, literal_of, ArgumentList}
use Rattle.defeat.specs.Frame.{Frame}
use Rattle.defeat.specs.Defeat.{Defeater}
use Rattle.defeat.specs.OfProgram.{frame_of}
use Rattle.defeat.proofs.Laws.{Laws}
use Rattle.defeat.proofs.Defeat.{defeater_attacks}
use Rattle.defeat.proofs.OfProgram.{frame_laws}
use Rattle.tree.specs.Line.{Line, root, reply, NoneWithinEarlier, AcceptableLine}
use Rattle.tree.specs.Forest.{Forest}
use Rattle.tree.specs.Published.{Grows, node, ForestFor}
use Rattle.tree.proofs.Line.{line_arguments, line_last, acceptable_one}
use Rattle.tree.proofs.Marks.{child_acceptable}
use Rattle.tree.proofs.Published.{in_order_member}
use Rattle.bounds.specs.Masks.{LineLimit}
use Rattle.bounds.specs.Lines.{LineIn, first, below, beside}
use Rattle.bounds.proofs.Masks.{limit_least}

-- ---- of any frame

module _ {A : Type 0} {F : Frame A} (L : Laws F) where
  -- sub-arguments of one argument do not exclude each other
  one_apart : (x y z : A) → F.Argument x → F.SubArgument y x → F.SubArgument z x → F.Excludes y z → ⊥
  one_apart x y z a s t e =
      L.concordant_apart (x ∷ []) x x y z (L.concordant_one x a) (Memᴰ.head refl) (Memᴰ.head refl) s t e

  -- no defeater is a sub-argument of what it defeats
  pub defeater_apart : (y x : A) → F.Argument x → Defeater F y x → F.SubArgument y x → ⊥
  defeater_apart y x a d s =
      let (z, k) = defeater_attacks d in
      one_apart x y z a s k.sub k.excludes

module _ {A : Type 0} {F : Frame A} where
  -- the line of each node is acceptable, where each root's is
  pub grows_acceptable : {list l xs n : List A} {f : Forest A} → Grows F list l xs f
      → ((x : A) → Memᴰ x xs → AcceptableLine F (x ∷ l)) → LineIn l f n → AcceptableLine F n
  grows_acceptable {list = list} {n = n} (Rattle.tree.specs.Published.no_more {l = l}) each none = elim none [ ]
  grows_acceptable (node {x = x} k ch g rest) each first = each x (Memᴰ.head refl)
  grows_acceptable (node {l} {x = x} k ch g rest) each (below i) =
      grows_acceptable g (λ y j. child_acceptable F (x ∷ l) y ((in_order_member ch y).0 j).1) i
  grows_acceptable (node k ch g rest) each (beside i) = grows_acceptable rest (λ y j. each y (Memᴰ.tail j)) i

  -- trees with a node have a root
  pub roots_some : {list l xs n : List A} {f : Forest A} → Grows F list l xs f → LineIn l f n → (x : A) × Memᴰ x xs
  roots_some {list = list} {l = l} {n = n} Rattle.tree.specs.Published.no_more i = elim i [ ]
  roots_some (node {x = x} k ch g rest) i = (x, Memᴰ.head refl)

-- ---- of a program's

module _ (p : Program) (Pref : ℕ → ℕ → Type 0) where
  abbrev F : Frame ℕ
  F = frame_of p Pref

  L : Laws (frame_of p Pref)
  L = frame_laws p Pref

  empty_within : (n m : ℕ) → n ≡ 0 → Subset n m
  empty_within n m e b h = absurd (false≢true (sym (has_empty b) ∙ ap (λ (k : ℕ). has k b) (sym e) ∙ h))

  -- an argument with an empty mask defeats nothing
  defeater_mask : (y x : ℕ) → F.Argument y → F.Argument x → Defeater F y x → ¬ (mask_of y ≡ 0)
  defeater_mask y x ay ax d e =
      defeater_apart L y x ax d (record { argument = ay; part = empty_within (mask_of y) (mask_of x) e })

  -- and nothing defeats it: what is attacked has an empty mask, too
  defeated_mask : (y x : ℕ) → F.Argument y → Defeater F y x → ¬ (mask_of x ≡ 0)
  defeated_mask y x ay d e =
      let (z, k) = defeater_attacks d in
      one_apart L y y z ay (L.sub_refl y ay)
      (record {
        argument = k.sub.argument;
        part = λ b h. empty_within (mask_of x) (mask_of y) e b (k.sub.part b h);
      }) k.excludes

  -- on a line of two or more no mask is empty
  line_masks : {y x : ℕ} {l : List ℕ} → Line (frame_of p Pref) (y ∷ x ∷ l) → (w : ℕ) → Memᴰ w (y ∷ x ∷ l) → ¬ (mask_of w ≡ 0)
  line_masks {y} {x} (reply a d r) w (Memᴰ.head e) z = defeater_mask y x a (line_last r) d (ap mask_of (sym e) ∙ z)
  line_masks {y} {x} (reply a d (root b)) w (Memᴰ.tail (Memᴰ.head e)) z =
      defeated_mask y x a d (ap mask_of (sym e) ∙ z)
  line_masks (reply a d (root b)) w (Memᴰ.tail (Memᴰ.tail i)) z = absurd (Memᴰ.not-nil i)
  line_masks (reply a d (reply b e r)) w (Memᴰ.tail i) z = line_masks (reply b e r) w i z

  -- the masks of an acceptable line differ
  masks_differ : (l : List ℕ) → ((y : ℕ) → Memᴰ y l → F.Argument y) → NoneWithinEarlier (frame_of p Pref) l
      → Distinct (map mask_of l)
  masks_differ [] a n = tt
  masks_differ (y ∷ l) a n = (
    λ i.
        let (x, j, e) = map_found mask_of l i in
        n.0 x j (record {
          argument = a y (Memᴰ.head refl);
          part = λ b h. subst (λ (m : ℕ). has m b ≡ true) e h;
        }),
    masks_differ l (λ w i. a w (Memᴰ.tail i)) n.1,
  )

  pub line_short : (most : ℕ) (l : List ℕ) → LineLimit p.rules most → AcceptableLine (frame_of p Pref) l → length l ≤ most
  line_short most [] k a = omega (arith, limit_least p.rules k)
  line_short most (x ∷ []) k a = omega (arith, limit_least p.rules k)
  line_short most (y ∷ x ∷ l) k a =
      let own = line_arguments a.line in
      let each : Within (map mask_of (y ∷ x ∷ l)) k.masks = λ m i.
      let (w, j, e) = map_found mask_of (y ∷ x ∷ l) i in
      let w_is : mask_of w * 128 + literal_of w ≡ w = omega arith in
      k.are_masks.each m (record {
        not_empty = λ z. line_masks a.line w j (sym e ∙ z);
        argument = w;
        listed = subst (λ (v : ℕ). Memᴰ v k.list) w_is (k.is_list.has_each (mask_of w) (literal_of w) (own w j));
        mask_is = sym e;
      }) in
      let n = distinct_length (map mask_of (y ∷ x ∷ l)) k.masks (masks_differ (y ∷ x ∷ l) own a.none_within) each in
      omega (arith, length-map (y ∷ x ∷ l) mask_of, limit_least p.rules k)

  pub tree_short : (most h : ℕ) (list l : List ℕ) (f : Forest ℕ) → LineLimit p.rules most → ArgumentList p.rules list
      → ForestFor (frame_of p Pref) list h f → LineIn [] f l → length l ≤ most
  tree_short most h list l f k are g i = line_short most l k (grows_acceptable g.grows each i)
    where
      listed : (x : ℕ) → Memᴰ x g.for_literal ⊎ Memᴰ x g.for_complement → Memᴰ x list
      listed x (inl j) = ((in_order_member g.literal_in_order x).0 j).0
      listed x (inr j) = ((in_order_member g.complement_in_order x).0 j).0

      each : (x : ℕ) → Memᴰ x (g.for_literal ++ g.for_complement) → AcceptableLine (frame_of p Pref) (x ∷ [])
      each x j = acceptable_one L (are.each_is_one x (listed x (Memᴰ.append_cases g.for_literal j)))
