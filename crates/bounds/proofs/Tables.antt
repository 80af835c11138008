-- Where entries stand in preorder, the parents' numbers lead up the line of each node, and the nodes have all lines.
use mathlib.Core.Path.{◌≡◌, refl, sym, ap, subst, ◌∙◌}
use mathlib.Core.List.{List, [], ◌∷◌, ◌++◌}
use mathlib.Core.Logic.{◌⊎◌, inl, inr}
use Prim.Native.Nat.{ℕ, zero, suc, ◌+◌, ◌-◌, ◌≤◌, ◌<◌}
use native.Mathlib.Omega.{arith}
use lib.ListN.{length, get_or, length-append, get_or-append}
use lib.Seq.{get_or-append-add}
use lib.Dec.{T, not_T, ltb, ltb→lt, nltb→le}
use Rattle.lists.proofs.Lists.{T_known}
use Rattle.defeat.specs.Frame.{Frame}
use Rattle.tree.specs.Forest.{Forest, tree, size}
use Rattle.tree.specs.Entries.{Entry}
use Rattle.tree.specs.Published.{IndexIn, here, later, parent_after, InPreorder, no_entry, entry}
use Rattle.answer.specs.Tables.{zeroed}
use Rattle.bounds.specs.Lines.{LineIn, first, below, beside, LineUp, at_root, up}

-- parents lead up one line only
pub line_unique : {A : Type 0} {parent_of : ℕ → ℕ} {argument_of : ℕ → A} {i : ℕ} {l m : List A}
    → LineUp parent_of argument_of i l → LineUp parent_of argument_of i m → l ≡ m
line_unique (at_root e) (at_root f) = refl
line_unique (at_root e) (up f q) = absurd (omega arith)
line_unique (up e q) (at_root f) = absurd (omega arith)
line_unique {argument_of = argument_of} {i = i} (up e q) (up f r) = ap (λ n. argument_of i ∷ n) (line_unique q r)

-- as many entries as nodes
preorder_size : {A : Type 0} {F : Frame A} {list l : List A} {above at : ℕ} {f : Forest A} {es : List Entry}
    → InPreorder F list l above at f es → length es ≡ size f
preorder_size no_entry = refl
preorder_size (entry {es = es} {fs} i m under rest) =
    let a = preorder_size under in
    let b = preorder_size rest in
    omega (arith, length-append es fs)

-- what has an index stands there
index_at : {A : Type 0} {l : List A} {x : A} {i : ℕ} (d : A) → IndexIn l x i → get_or l i d ≡ x
index_at d here = refl
index_at d (later n a) = index_at d a

module _ {A : Type 0} (list : List A) (d : A) (parent_of : ℕ → ℕ) (argument_of : ℕ → A) where
  -- ---- what is read of the nodes is the entries, from number `at` on

  abbrev pub Reads : ℕ → List Entry → Type 0
  Reads at es =
      (j : ℕ) → j < length es
      → (parent_of (at + j) ≡ (get_or es j zeroed).parent) × (argument_of (at + j) ≡ get_or list (get_or es j zeroed).argument d)

  -- one entry is read at a number as another at one that is the same
  reads_as : {i j : ℕ} (e f : Entry) → i ≡ j → e ≡ f
      → (parent_of j ≡ e.parent) × (argument_of j ≡ get_or list e.argument d)
      → (parent_of i ≡ f.parent) × (argument_of i ≡ get_or list f.argument d)
  reads_as e f p q r = (
    ap parent_of p ∙ r.0 ∙ ap (λ (e : Entry). e.parent) q,
    ap argument_of p ∙ r.1 ∙ ap (λ (e : Entry). get_or list e.argument d) q,
  )

  reads_rest : (at : ℕ) (e : Entry) (es : List Entry) → Reads at (e ∷ es) → Reads (suc at) es
  reads_rest at e es r j h = reads_as (get_or es j zeroed) (get_or es j zeroed) (omega arith) refl (r (suc j) (omega arith))

  reads_front : (at : ℕ) (es fs : List Entry) → Reads at (es ++ fs) → Reads at es
  reads_front at es fs r j h =
      reads_as (get_or (es ++ fs) j zeroed) (get_or es j zeroed) refl (get_or-append es fs zeroed j h)
      (r j (omega (arith, length-append es fs)))

  reads_back : (at : ℕ) (es fs : List Entry) → Reads at (es ++ fs) → Reads (at + length es) fs
  reads_back at es fs r j h =
      reads_as (get_or (es ++ fs) (length es + j) zeroed) (get_or fs j zeroed) (omega arith) (get_or-append-add es fs j zeroed)
      (r (length es + j) (omega (arith, length-append es fs)))

  -- ---- the line of each node

  -- the node that ends the line has the number `above`, below `at`, and the line leads up from it
  abbrev Above : List A → (above at : ℕ) → Type 0
  Above [] above at = Unit {0}
  Above (x ∷ l) above at = (above < at) × LineUp parent_of argument_of above (x ∷ l)

  above_later : (l : List A) (above at next : ℕ) → at ≤ next → Above l above at → Above l above next
  above_later [] above at next h a = tt
  above_later (x ∷ l) above at next h a = let b = a.0 in (omega arith, a.1)

  -- the line up from the next node
  next_line : (l : List A) (above at : ℕ) (x : A) → Above l above at → parent_of at ≡ parent_after l above at → argument_of at ≡ x
      → LineUp parent_of argument_of at (x ∷ l)
  next_line [] above at x a e k = subst (λ y. LineUp parent_of argument_of at (y ∷ [])) k (at_root e)
  next_line (z ∷ l) above at x a e k =
      let b = a.0 in
      subst (λ y. LineUp parent_of argument_of at (y ∷ z ∷ l)) k
      (up (omega (arith, e)) (subst (λ n. LineUp parent_of argument_of n (z ∷ l)) (sym e) a.1))

  -- the line of a node of f, which leads up from node i
  pub record Led (l : List A) (f : Forest A) (i : ℕ) : Type 0 where
    pub line : List A
    pub of_node : LineIn l f line
    pub leads : LineUp parent_of argument_of i line

  -- of a larger forest, under another number that is the same
  renumbered : {l m : List A} {f g : Forest A} {i j : ℕ} → i ≡ j → ((n : List A) → LineIn l f n → LineIn m g n)
      → Led l f i → Led m g j
  renumbered e there k = record {
    line = k.line;
    of_node = there k.line k.of_node;
    leads = subst (λ n. LineUp parent_of argument_of n k.line) e k.leads;
  }

  -- what is known of a first node, of those below it and of those beside it
  record Steps (l : List A) (x : A) (above at : ℕ) (es fs : List Entry) (c : Forest A) : Type 0 where
    own : LineUp parent_of argument_of at (x ∷ l)
    under : Reads (suc at) es
    past : Above l above (suc at + size c)
    others : Reads (suc at + size c) fs

  steps : (l : List A) (x : A) (above at : ℕ) (es fs : List Entry) (c : Forest A) (e : Entry) → length es ≡ size c
      → get_or list e.argument d ≡ x → e.parent ≡ parent_after l above at → Above l above at → Reads at (e ∷ (es ++ fs))
      → Steps l x above at es fs c
  steps l x above at es fs c e sz k q a r =
      let z : at ≡ at + 0 = omega arith in
      let read = reads_as e e z refl (r 0 (omega arith)) in
      let rest = reads_rest at e (es ++ fs) r in
      record {
        own = next_line l above at x a (read.0 ∙ q) (read.1 ∙ k);
        under = reads_front (suc at) es fs rest;
        past = above_later l above at (suc at + size c) (omega arith) a;
        others = subst (λ n. Reads (suc at + n) fs) sz (reads_back (suc at) es fs rest);
      }

module _ {A : Type 0} {F : Frame A} {list : List A} (d : A) (parent_of : ℕ → ℕ) (argument_of : ℕ → A) where
  -- from each number the line of a node leads up
  pub preorder_led : {l : List A} {above at : ℕ} {f : Forest A} {es : List Entry} → InPreorder F list l above at f es
      → Above list d parent_of argument_of l above at → Reads list d parent_of argument_of at es
      → (j : ℕ) → j < length es → Led list d parent_of argument_of l f (at + j)
  preorder_led no_entry a r j h = absurd (omega arith)
  preorder_led (entry {l} {above} {at} {k = kind} {x = x} {c = c} {r = others} {es = es} {fs} i m under rest) a r j h =
      let s = steps list d parent_of argument_of l x above at es fs c _ (preorder_size under) (index_at d i) refl a r in
      go j h (T_known (ltb (j - 1) (length es))) s.own
      (λ n h. preorder_led under (omega arith, s.own) s.under n h)
      (λ n h. preorder_led rest s.past s.others n h)
    where
      go : (j : ℕ) → j < suc (length (es ++ fs)) → T (ltb (j - 1) (length es)) ⊎ (T (ltb (j - 1) (length es)) → ⊥)
          → LineUp parent_of argument_of at (x ∷ l)
          → ((n : ℕ) → n < length es → Led list d parent_of argument_of (x ∷ l) c (suc at + n))
          → ((n : ℕ) → n < length fs → Led list d parent_of argument_of l others (suc at + size c + n))
          → Led list d parent_of argument_of l (tree x kind c others) (at + j)
      go zero h t own f g =
          let e : at ≡ at + 0 = omega arith in
          record { line = x ∷ l; of_node = first; leads = subst (λ n. LineUp parent_of argument_of n (x ∷ l)) e own }
      go (suc j) h (inl t) own f g =
          let k = ltb→lt (suc j - 1) (length es) t in
          renumbered list d parent_of argument_of (omega arith) (λ n i. below i) (f j (omega arith))
      go (suc j) h (inr t) own f g =
          let k = nltb→le (suc j - 1) (length es) (not_T (ltb (suc j - 1) (length es)) t) in
          renumbered list d parent_of argument_of (omega (arith, preorder_size under)) (λ n i. beside i)
          (g (j - length es) (omega (arith, length-append es fs)))

  -- and the line of each node leads up from some number
  pub preorder_has : {l n : List A} {above at : ℕ} {f : Forest A} {es : List Entry} → InPreorder F list l above at f es
      → Above list d parent_of argument_of l above at → Reads list d parent_of argument_of at es → LineIn l f n
      → (j : ℕ) × (j < length es) × LineUp parent_of argument_of (at + j) n
  preorder_has {n = n} (no_entry {l = l} {above = above} {at = at}) a r none = elim none [ ]
  preorder_has (entry {l} {above} {at} {x = x} {c = c} {es = es} {fs} i m under rest) a r first =
      let s = steps list d parent_of argument_of l x above at es fs c _ (preorder_size under) (index_at d i) refl a r in
      let e : at ≡ at + 0 = omega arith in
      (0, omega arith, subst (λ n. LineUp parent_of argument_of n (x ∷ l)) e s.own)
  preorder_has {n = n} (entry {l} {above} {at} {x = x} {c = c} {es = es} {fs} i m under rest) a r (below k) =
      let s = steps list d parent_of argument_of l x above at es fs c _ (preorder_size under) (index_at d i) refl a r in
      let (j, h, q) = preorder_has under (omega arith, s.own) s.under k in
      let e : suc at + j ≡ at + suc j = omega arith in
      (suc j, omega (arith, length-append es fs), subst (λ z. LineUp parent_of argument_of z n) e q)
  preorder_has {n = n} (entry {l} {above} {at} {x = x} {c = c} {es = es} {fs} i m under rest) a r (beside k) =
      let s = steps list d parent_of argument_of l x above at es fs c _ (preorder_size under) (index_at d i) refl a r in
      let (j, h, q) = preorder_has rest s.past s.others k in
      let e : suc at + size c + j ≡ at + suc (length es + j) = omega (arith, preorder_size under) in
      (suc (length es + j), omega (arith, length-append es fs), subst (λ z. LineUp parent_of argument_of z n) e q)
