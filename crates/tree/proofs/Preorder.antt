-- The computed entries are the published ones, and there are no others.
use mathlib.Core.Path.{◌≡◌, refl, sym, ap, subst}
use mathlib.Core.Bool.{Bool, true, false}
use mathlib.Core.List.Memᴰ
use mathlib.Core.List.{List, [], ◌∷◌, ◌++◌, Memᴰ}
use mathlib.Core.Logic.{◌⊎◌, inl, inr, ◌↔◌}
use Prim.Native.Nat.{ℕ, suc, ◌+◌}
use lib.Dec.{T, eqb}
use Rattle.lists.specs.Lists.{choose, index_in}
use Rattle.defeat.specs.Frame.{Frame}
use Rattle.defeat.specs.Tests.{Tests}
use Rattle.defeat.proofs.Laws.{Laws}
use Rattle.defeat.proofs.Renders.{Renders, Arguments}
use Rattle.tree.specs.Line.{AcceptableLine}
use Rattle.tree.specs.Marks.{Mark, U, D, Marked}
use Rattle.tree.specs.Forest.{Forest, tree, size, all_defeated, mark_of, replies}
use Rattle.tree.specs.Entries.{Entry, entry_of, preorder, entries}
use Rattle.tree.specs.OfLiteral.{forest, forest_entries}
use Rattle.tree.specs.Published.{Children, Grows, no_more, node, IndexIn, here, later, parent_after, number_of}
use Rattle.tree.specs.Published.{InPreorder, no_entry, entry, EntriesFor}
use Rattle.tree.proofs.Line.{line_last, acceptable_one}
use Rattle.tree.proofs.Marks.{child_acceptable, mark_U, mark_D, marked_either, marked_unique}
use Rattle.tree.proofs.Published.{number_renders, in_order_member, in_order_unique, grows_unique, replies_grow}
use Rattle.tree.proofs.Published.{forest_grows, forest_unique, roots_arguments}

-- ---- an index

index_same : {A : Type 0} {l m : List A} {x y : A} {i j : ℕ} → IndexIn l x i → IndexIn m y j → l ≡ m → x ≡ y → i ≡ j
index_same here here e f = refl
index_same here (later n b) e f = absurd (n cc)
index_same (later n a) here e f = absurd (n cc)
index_same (later n a) (later m b) e f = let rest = index_same a b (cc) f in ap suc rest

pub index_unique : {A : Type 0} {l : List A} {x : A} {i j : ℕ} → IndexIn l x i → IndexIn l x j → i ≡ j
index_unique a b = index_same a b refl refl

-- the computed index of what stands in the list
pub index_found : (l : List ℕ) (x : ℕ) → Memᴰ x l → IndexIn l x (index_in l x)
index_found [] x i = absurd (Memᴰ.not-nil i)
index_found (y ∷ l) x i = go (eqb y x) refl i (index_found l x)
  where
    unlike : eqb y x ≡ false → ¬ (y ≡ x)
    unlike e h = subst T e ((number_renders y x).passes h)

    go : (b : Bool) → eqb y x ≡ b → Memᴰ x (y ∷ l) → (Memᴰ x l → IndexIn l x (index_in l x))
        → IndexIn (y ∷ l) x (choose b 0 (suc (index_in l x)))
    go true e i f = subst (λ z. IndexIn (y ∷ l) z 0) ((number_renders y x).says (rw e tt)) here
    go false e (Memᴰ.head h) f = absurd (unlike e (sym h))
    go false e (Memᴰ.tail i) f = later (unlike e) (f i)

-- ---- no two lists of entries

module _ {A : Type 0} {F : Frame A} {list : List A} where
  pub preorder_unique : {l : List A} {above at : ℕ} {f : Forest A} {es fs : List Entry}
      → InPreorder F list l above at f es → InPreorder F list l above at f fs → es ≡ fs
  preorder_unique no_entry no_entry = refl
  preorder_unique (entry i m below rest) (entry j n under others) =
      let same_index = index_unique i j in
      let same_mark = marked_unique m n in
      let first = preorder_unique below under in
      let after = preorder_unique rest others in
      rw (same_index, same_mark, first, after)

pub entries_unique : {F : Frame ℕ} {list : List ℕ} {h : ℕ} {es fs : List Entry}
    → EntriesFor F list h es → EntriesFor F list h fs → es ≡ fs
entries_unique {F} {list} {h} {es} {fs} a b =
    let same = forest_unique a.is_forest b.is_forest in
    preorder_unique a.in_preorder (subst (λ f. InPreorder F list [] 0 0 f fs) (sym same) b.in_preorder)

-- ---- the computed entries

module _ {A : Type 0} {F : Frame A} {t : Tests A} (L : Laws F) (R : Renders F t) (place : A → ℕ)
    (placed : (x : A) → F.Argument x → IndexIn t.arguments x (place x)) where
  -- a node whose children's trees are c
  module _ {l ys : List A} {x : A} {c : Forest A} (a : AcceptableLine F (x ∷ l))
      (ch : Children F t.arguments (x ∷ l) ys) (g : Grows F t.arguments (x ∷ l) ys c) where
    -- c is what is computed
    computed : replies t (x ∷ l) ≡ c
    computed =
        let b = replies_grow L R (x ∷ l) a in
        let same = in_order_unique b.all_children ch in
        grows_unique b.grows (subst (λ zs. Grows F t.arguments (x ∷ l) zs c) (sym same) g)

    mark_found : (m : Mark) × Marked F m (x ∷ l) × (mark_of (all_defeated c) ≡ number_of m)
    mark_found = go (marked_either L R (x ∷ l) a)
      where
        go : Marked F U (x ∷ l) ⊎ Marked F D (x ∷ l) → (m : Mark) × Marked F m (x ∷ l) × (mark_of (all_defeated c) ≡ number_of m)
        go (inl u) = (U, u, rw (← computed) ((mark_U L R (x ∷ l) a).1 u))
        go (inr d) = (D, d, rw (← computed) ((mark_D L R (x ∷ l) a).1 d))

    node_entered : {above at k : ℕ} {r : Forest A} {es fs : List Entry}
        → InPreorder F t.arguments (x ∷ l) at (suc at) c es
        → InPreorder F t.arguments l above (suc at + size c) r fs
        → InPreorder F t.arguments l above at (tree x k c r) (entry_of place (parent_after l above at) x k c ∷ (es ++ fs))
    node_entered below rest =
        let (m, marked, e) = mark_found in
        rw e (entry (placed x (line_last a.line)) marked below rest)

  -- the trees of children
  children_entered : {w : A} {l xs : List A} {f : Forest A} → Grows F t.arguments (w ∷ l) xs f
      → ((x : A) → Memᴰ x xs → AcceptableLine F (x ∷ w ∷ l)) → (above at : ℕ)
      → InPreorder F t.arguments (w ∷ l) above at f (preorder place at above f)
  children_entered no_more each above at = no_entry
  children_entered {w} {l} (node {x = x} {c = c} k ch g rest) each above at =
      node_entered (each x (Memᴰ.head refl)) ch g
      (children_entered g (λ y i. child_acceptable F (x ∷ w ∷ l) y ((in_order_member ch y).0 i).1) at (suc at))
      (children_entered rest (λ y i. each y (Memᴰ.tail i)) above (suc at + size c))

  -- the trees of roots
  roots_entered : {roots : List A} {f : Forest A} → Grows F t.arguments [] roots f → Arguments F roots → (above at : ℕ)
      → InPreorder F t.arguments [] above at f (entries place at f)
  roots_entered no_more each above at = no_entry
  roots_entered (node {x = x} {c = c} k ch g rest) each above at =
      node_entered (acceptable_one L (each x (Memᴰ.head refl))) ch g
      (children_entered g (λ y i. child_acceptable F (x ∷ []) y ((in_order_member ch y).0 i).1) at (suc at))
      (roots_entered rest (λ y i. each y (Memᴰ.tail i)) above (suc at + size c))

-- ---- of a literal's forest

module _ {F : Frame ℕ} {t : Tests ℕ} (L : Laws F) (R : Renders F t) (h : ℕ) where
  pub entries_in_preorder : EntriesFor F t.arguments h (forest_entries t h)
  entries_in_preorder =
      let f = forest_grows L R h in
      record {
        forest = forest t h;
        is_forest = f;
        in_preorder =
            roots_entered L R (index_in t.arguments) (λ x a. index_found t.arguments x ((R.argument x).0 a)) f.grows
            (roots_arguments R f.literal_in_order f.complement_in_order) 0 0;
      }

  pub entries_settled : (es : List Entry) → EntriesFor F t.arguments h es ↔ (es ≡ forest_entries t h)
  entries_settled es = (
    λ g. entries_unique g entries_in_preorder,
    λ e. subst (EntriesFor F t.arguments h) (sym e) entries_in_preorder,
  )
