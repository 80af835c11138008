-- The computed forest is the published one, and there is no other: so document 01's sentences alone settle its nodes and N.
use mathlib.Core.Path.{◌≡◌, refl, sym, ap, subst}
use mathlib.Core.Bool.{Bool, true, false}
use mathlib.Core.List.Memᴰ
use mathlib.Core.List.{List, [], ◌∷◌, ◌++◌, Memᴰ}
use mathlib.Core.Logic.{◌⊎◌, inl, inr, ◌↔◌, ◌≢◌}
use Prim.Native.Nat.{ℕ, zero, suc, ◌<◌}
use native.Mathlib.Omega.{arith}
use lib.Dec.{eqb, eqb→eq, eqb_refl}
use Rattle.lists.specs.Lists.{keep, filter}
use Rattle.lists.specs.Decides.{Decides}
use Rattle.derivation.specs.Derivation.{complement}
use Rattle.argument.specs.Argument.{literal_of}
use Rattle.defeat.specs.Frame.{Frame}
use Rattle.defeat.specs.Tests.{Tests}
use Rattle.defeat.proofs.Laws.{Laws}
use Rattle.defeat.proofs.Renders.{Renders, Arguments}
use Rattle.tree.specs.Line.{AcceptableLine}
use Rattle.tree.specs.Marks.{Child}
use Rattle.tree.specs.Reply.{reply_kind}
use Rattle.tree.specs.Forest.{Forest, pick, from, remaining, replies, forest_of}
use Rattle.tree.specs.OfLiteral.{arguments_for, forest}
use Rattle.tree.specs.Published.{InOrder, end, kept, passed, KindOf, root, proper, blocking}
use Rattle.tree.specs.Published.{Children, Grows, no_more, node, ForestFor}
use Rattle.tree.proofs.Line.{acceptable_one}
use Rattle.tree.proofs.Reply.{reply_bound, reply_child, reply_proper, reply_blocking}
use Rattle.tree.proofs.Forest.{replies_unroll, remaining_falls}
use Rattle.tree.proofs.Marks.{child_argument, child_acceptable, itself}

pub number_renders : (m n : ℕ) → Decides (eqb m n) (m ≡ n)
number_renders m n = record { says = eqb→eq m n; passes = λ e. rw e (eqb_refl n) }

-- ---- in list order

module _ {A : Type 0} {P : A → Type 0} where
  -- those of the list that have P, and no others
  pub in_order_member : {l ys : List A} → InOrder P l ys → (x : A) → Memᴰ x ys ↔ (Memᴰ x l × P x)
  in_order_member o x = (λ i. found o i, λ h. intro o h.0 h.1)
    where
      found : {l ys : List A} → InOrder P l ys → Memᴰ x ys → Memᴰ x l × P x
      found end i = absurd (Memᴰ.not-nil i)
      found (kept p o) (Memᴰ.head e) = (Memᴰ.head e, subst P (sym e) p)
      found (kept p o) (Memᴰ.tail i) = let f = found o i in (Memᴰ.tail f.0, f.1)
      found (passed n o) i = let f = found o i in (Memᴰ.tail f.0, f.1)

      intro : {l ys : List A} → InOrder P l ys → Memᴰ x l → P x → Memᴰ x ys
      intro end i h = absurd (Memᴰ.not-nil i)
      intro (kept p o) (Memᴰ.head e) h = Memᴰ.head e
      intro (kept p o) (Memᴰ.tail i) h = Memᴰ.tail (intro o i h)
      intro (passed n o) (Memᴰ.head e) h = absurd (n (subst P e h))
      intro (passed n o) (Memᴰ.tail i) h = intro o i h

  pub in_order_unique : {l ys zs : List A} → InOrder P l ys → InOrder P l zs → ys ≡ zs
  in_order_unique end end = refl
  in_order_unique (kept {x} p o) (kept q u) = ap (λ (l : List A). x ∷ l) (in_order_unique o u)
  in_order_unique (kept p o) (passed n u) = absurd (n p)
  in_order_unique (passed n o) (kept p u) = absurd (n p)
  in_order_unique (passed n o) (passed m u) = in_order_unique o u

  -- what a filter keeps
  pub filter_in_order : (test : A → Bool) → ((x : A) → Decides (test x) (P x)) → (l : List A) → InOrder P l (filter test l)
  filter_in_order test d [] = end
  filter_in_order test d (x ∷ l) = go (test x) (d x) (filter_in_order test d l)
    where
      go : (b : Bool) → Decides b (P x) → InOrder P l (filter test l) → InOrder P (x ∷ l) (keep b x (filter test l))
      go true e o = kept (e.says tt) o
      go false e o = passed e.passes o

-- ---- no two forests grow

module _ {A : Type 0} {F : Frame A} where
  pub kind_unique : {l : List A} {j k : ℕ} → KindOf F l j → KindOf F l k → j ≡ k
  kind_unique root root = refl
  kind_unique (proper p) (proper q) = refl
  kind_unique (proper p) (blocking b) = absurd (b.otherwise p)
  kind_unique (blocking b) (proper p) = absurd (b.otherwise p)
  kind_unique (blocking b) (blocking c) = refl

  pub grows_unique : {list l xs : List A} {f g : Forest A} → Grows F list l xs f → Grows F list l xs g → f ≡ g
  grows_unique no_more no_more = refl
  grows_unique {list} (node {l} {x = x} k ch below rest) (node {c = d} j dh under others) =
      let kinds = kind_unique k j in
      let kids = in_order_unique ch dh in
      let trees = grows_unique below (subst (λ zs. Grows F list (x ∷ l) zs d) (sym kids) under) in
      let after = grows_unique rest others in
      cc

-- ---- the computed forest grows

-- f is the trees of the children of the node at the end of the line l
pub record Grown {A : Type 0} (F : Frame A) (list l : List A) (f : Forest A) : Type 0 where
  pub children : List A
  pub all_children : Children F list l children
  pub grows : Grows F list l children f

module _ {A : Type 0} {F : Frame A} {t : Tests A} (L : Laws F) (R : Renders F t) where
  -- a child's number is its kind
  child_kind : (l : List A) → AcceptableLine F l → (x : A) → F.Argument x → (k : ℕ) → reply_kind t l x ≡ suc k
      → KindOf F (x ∷ l) (suc k)
  child_kind [] a x ax k e = absurd ((reply_child R [] a x ax).0 (λ z. omega arith))
  child_kind (w ∷ l) a x ax zero e = proper ((reply_proper R a x ax).0 e).1
  child_kind (w ∷ l) a x ax (suc zero) e = blocking ((reply_blocking R a x ax).0 e).1
  child_kind (w ∷ l) a x ax (suc (suc k)) e = let b = reply_bound t (w ∷ l) x in absurd (omega arith)

  -- the replies to each child grow
  abbrev BelowGrown : List A → Type 0
  BelowGrown l = (x : A) → F.Argument x → reply_kind t l x ≢ 0 → Grown F t.arguments (x ∷ l) (replies t (x ∷ l))

  -- the candidates one by one
  module _ (l : List A) (a : AcceptableLine F l) (below : BelowGrown l) where
    from_grows : (xs : List A) → Arguments F xs
        → (ys : List A) × InOrder (Child F l) xs ys
        × Grows F t.arguments l ys (from (reply_kind t l) (λ x. replies t (x ∷ l)) xs)
    from_grows [] ax = ([], end, no_more)
    from_grows (x ∷ xs) ax =
        go (reply_kind t l x) refl (ax x (Memᴰ.head refl)) (from_grows xs (λ y i. ax y (Memᴰ.tail i)))
      where
        rest : Forest A
        rest = from (reply_kind t l) (λ y. replies t (y ∷ l)) xs

        go : (k : ℕ) → reply_kind t l x ≡ k → F.Argument x
            → (ys : List A) × InOrder (Child F l) xs ys × Grows F t.arguments l ys rest
            → (ys : List A) × InOrder (Child F l) (x ∷ xs) ys
            × Grows F t.arguments l ys (pick k x (replies t (x ∷ l)) rest)
        go zero e y (ys, o, g) = (ys, passed (λ c. (reply_child R l a x y).1 c e) o, g)
        go (suc k) e y (ys, o, g) =
            let n : reply_kind t l x ≢ 0 = λ z. omega arith in
            let b = below x y n in
            (x ∷ ys, kept ((reply_child R l a x y).0 n) o, node (child_kind l a x y k e) b.all_children b.grows g)

  -- each reply leaves fewer arguments
  grown_to : (n : ℕ) (l : List A) → AcceptableLine F l → remaining t l < n → Grown F t.arguments l (replies t l)
  grown_to zero l a h = absurd (omega arith)
  grown_to (suc n) l a h =
      let below : BelowGrown l = λ x ax k.
      let f = remaining_falls t (itself L R) l x ((R.argument x).0 ax) k in
      grown_to n (x ∷ l) (child_acceptable F l x ((reply_child R l a x ax).0 k)) (omega arith) in
      let (ys, o, g) = from_grows l a below t.arguments (λ x i. (R.argument x).1 i) in
      record {
        children = ys;
        all_children = o;
        grows = subst (Grows F t.arguments l ys) (sym (replies_unroll t (itself L R) l)) g;
      }

  -- the replies to an acceptable line are the trees of its children
  pub replies_grow : (l : List A) → AcceptableLine F l → Grown F t.arguments l (replies t l)
  replies_grow l a = grown_to (suc (remaining t l)) l a (omega arith)

  -- the trees of any arguments as roots
  pub roots_grow : (roots : List A) → Arguments F roots → Grows F t.arguments [] roots (forest_of t roots)
  unfolding forest_of
  roots_grow [] ar = no_more
  roots_grow (x ∷ roots) ar =
      let b = replies_grow (x ∷ []) (acceptable_one L (ar x (Memᴰ.head refl))) in
      node root b.all_children b.grows (roots_grow roots (λ y i. ar y (Memᴰ.tail i)))

-- no child stands outside the list
pub children_all : {A : Type 0} {F : Frame A} {t : Tests A} → Renders F t → (l : List A) {ys : List A}
    → Children F t.arguments l ys → (y : A) → Memᴰ y ys ↔ Child F l y
children_all {F = F} R l o y =
    let m = in_order_member o y in
    (λ i. (m.0 i).1, λ c. m.1 ((R.argument y).0 (child_argument F l y c), c))

-- those of the list are arguments
pub roots_arguments : {A : Type 0} {F : Frame A} {t : Tests A} → Renders F t → {P Q : A → Type 0} {xs ys : List A}
    → InOrder P t.arguments xs → InOrder Q t.arguments ys → Arguments F (xs ++ ys)
roots_arguments {t = t} R {xs = xs} {ys = ys} o u x i = (R.argument x).1 (go (Memᴰ.append_cases xs i))
  where
    go : Memᴰ x xs ⊎ Memᴰ x ys → Memᴰ x t.arguments
    go (inl j) = ((in_order_member o x).0 j).0
    go (inr j) = ((in_order_member u x).0 j).0

-- ---- the forest of a literal

module _ {F : Frame ℕ} {list : List ℕ} {h : ℕ} where
  pub forest_unique : {f g : Forest ℕ} → ForestFor F list h f → ForestFor F list h g → f ≡ g
  forest_unique {f} {g} a b =
      let for = in_order_unique a.literal_in_order b.literal_in_order in
      let against = in_order_unique a.complement_in_order b.complement_in_order in
      let same : a.for_literal ++ a.for_complement ≡ b.for_literal ++ b.for_complement = cc in
      grows_unique a.grows (subst (λ xs. Grows F list [] xs g) (sym same) b.grows)

module _ {F : Frame ℕ} {t : Tests ℕ} (L : Laws F) (R : Renders F t) (h : ℕ) where
  for_in_order : (k : ℕ) → InOrder (λ x. literal_of x ≡ k) t.arguments (arguments_for t k)
  unfolding arguments_for
  for_in_order k = filter_in_order (λ x. eqb (literal_of x) k) (λ x. number_renders (literal_of x) k) t.arguments

  pub forest_grows : ForestFor F t.arguments h (forest t h)
  unfolding forest
  forest_grows = record {
    for_literal = arguments_for t h;
    for_complement = arguments_for t (complement h);
    literal_in_order = for_in_order h;
    complement_in_order = for_in_order (complement h);
    grows = roots_grow L R (arguments_for t h ++ arguments_for t (complement h))
        (roots_arguments R (for_in_order h) (for_in_order (complement h)));
  }

  pub forest_settled : (f : Forest ℕ) → ForestFor F t.arguments h f ↔ (f ≡ forest t h)
  forest_settled f = (
    λ g. forest_unique g forest_grows,
    λ e. subst (ForestFor F t.arguments h) (sym e) forest_grows,
  )
