-- The tree that grows from a line. Each reply leaves fewer arguments, so the depth to which it is grown does not matter.
use mathlib.Core.Path.{◌≡◌, refl, ap, ◌∙◌}
use mathlib.Core.Bool.{Bool, true, false, not, ◌&&◌, ◌||◌}
use mathlib.Core.List.Memᴰ
use mathlib.Core.List.{List, [], ◌∷◌, Memᴰ}
use mathlib.Core.Logic.{◌⊎◌, inl, inr, ⊎_elim, ◌≢◌}
use Prim.Native.Nat.{ℕ, zero, suc, ◌<◌}
use native.Mathlib.Omega.{arith}
use lib.ListN.{length, get_or, drop}
use lib.Seq.{drop-cons}
use lib.Dec.{T, T_not}
use Rattle.lists.specs.Decides.{Decides}
use Rattle.lists.proofs.Lists.{and_both, filter_lt}
use Rattle.lists.proofs.Decides.{decides_iff, decides_and, decides_or}
use Rattle.defeat.specs.Tests.{Tests}
use Rattle.tree.specs.Reply.{unused, reply_kind}
use Rattle.tree.specs.Forest.{Forest, tree, all_defeated, pick, from, replies_to, remaining, replies}
use Rattle.tree.proofs.Reply.{reply_unused}

-- ---- trees of the candidates that pass

module _ {A : Type 0} (test : A → ℕ) where
  -- what is below matters at children only
  pub from_same : (f g : A → Forest A) (l : List A)
      → ((x : A) → Memᴰ x l → test x ≢ 0 → f x ≡ g x) → from test f l ≡ from test g l
  from_same f g [] h = refl
  from_same f g (x ∷ l) h = go (test x) (h x (Memᴰ.head refl)) (from_same f g l (λ y i. h y (Memᴰ.tail i)))
    where
      go : (k : ℕ) → (k ≢ 0 → f x ≡ g x) → from test f l ≡ from test g l
          → pick k x (f x) (from test f l) ≡ pick k x (g x) (from test g l)
      go zero e r = r
      go (suc k) e r = let s = e (λ z. omega arith) in cc

  module _ (below : A → Forest A) where
    -- a candidate that is no child is passed over
    pub from_skip : (x : A) (l : List A) → test x ≡ 0 → from test below (x ∷ l) ≡ from test below l
    from_skip x l e = rw e

    -- a child's tree stands before the others
    pub from_take : (x : A) (l : List A) → test x ≢ 0
        → from test below (x ∷ l) ≡ tree x (test x) (below x) (from test below l)
    from_take x l n = go (test x) n
      where
        go : (k : ℕ) → k ≢ 0 → pick k x (below x) (from test below l) ≡ tree x k (below x) (from test below l)
        go zero m = absurd (m refl)
        go (suc k) m = refl

    -- the same at a position of the list, for a loop over it; d stands for an element past its end
    module _ (l : List A) (i : ℕ) (d : A) (h : i < length l) where
      pub from_skip_at : test (get_or l i d) ≡ 0 → from test below (drop i l) ≡ from test below (drop (suc i) l)
      from_skip_at e = ap (from test below) (drop-cons l i d h) ∙ from_skip (get_or l i d) (drop (suc i) l) e

      pub from_take_at : test (get_or l i d) ≢ 0
          → from test below (drop i l)
          ≡ tree (get_or l i d) (test (get_or l i d)) (below (get_or l i d)) (from test below (drop (suc i) l))
      from_take_at n = ap (from test below) (drop-cons l i d h) ∙ from_take (get_or l i d) (drop (suc i) l) n

-- ---- their marks: all are D exactly if every child is D, and not all are D exactly if some child is U

not_and : (a b : Bool) → not (not a && b) ≡ a || not b
not_and true b = refl
not_and false b = refl

module _ {A : Type 0} (test : A → ℕ) (below : A → Forest A) (P : A → Type 0) where
  -- every child has P
  abbrev Every : List A → Type 0
  Every l = (x : A) → Memᴰ x l → test x ≢ 0 → P x

  every_cons : {x : A} {l : List A} → (test x ≢ 0 → P x) → Every l → Every (x ∷ l)
  every_cons f g y (Memᴰ.head e) n = rw e (f (λ z. n (rw e z)))
  every_cons f g y (Memᴰ.tail i) n = g y i n

  every_tail : {x : A} {l : List A} → Every (x ∷ l) → Every l
  every_tail f y i = f y (Memᴰ.tail i)

  pub from_every : (l : List A)
      → ((x : A) → Memᴰ x l → test x ≢ 0 → Decides (not (all_defeated (below x))) (P x))
      → Decides (all_defeated (from test below l)) (Every l)
  from_every [] d = record { says = λ h x i. absurd (Memᴰ.not-nil i); passes = λ h. tt }
  from_every (x ∷ l) d = go (test x) refl (from_every l (λ y i. d y (Memᴰ.tail i)))
    where
      go : (k : ℕ) → test x ≡ k → Decides (all_defeated (from test below l)) (Every l)
          → Decides (all_defeated (pick k x (below x) (from test below l))) (Every (x ∷ l))
      go zero e r = decides_iff (every_cons (λ n. absurd (n e))) every_tail r
      go (suc k) e r =
          let child : test x ≢ 0 = λ z. omega arith in
          decides_iff
          (λ b. every_cons (λ n. b.0) b.1)
          (λ f. (f x (Memᴰ.head refl) child, every_tail f))
          (decides_and (d x (Memᴰ.head refl) child) r)

  -- some child has P
  abbrev Some : List A → Type 0
  Some l = (x : A) × Memᴰ x l × (test x ≢ 0) × P x

  some_tail : {x : A} {l : List A} → Some l → Some (x ∷ l)
  some_tail s = (s.0, Memᴰ.tail s.1, s.2, s.3)

  some_cases : (x : A) (l : List A) → Some (x ∷ l) → ((test x ≢ 0) × P x) ⊎ Some l
  some_cases x l s = go (Memᴰ.cases_cons s.1)
    where
      go : (s.0 ≡ x) ⊎ Memᴰ s.0 l → ((test x ≢ 0) × P x) ⊎ Some l
      go (inl e) = inl (rw e at s.2, rw e at s.3)
      go (inr i) = inr (s.0, i, s.2, s.3)

  pub from_some : (l : List A)
      → ((x : A) → Memᴰ x l → test x ≢ 0 → Decides (all_defeated (below x)) (P x))
      → Decides (not (all_defeated (from test below l))) (Some l)
  from_some [] d = record { says = λ h. absurd h; passes = λ s. Memᴰ.not-nil s.1 }
  from_some (x ∷ l) d = go (test x) refl (from_some l (λ y i. d y (Memᴰ.tail i)))
    where
      go : (k : ℕ) → test x ≡ k → Decides (not (all_defeated (from test below l))) (Some l)
          → Decides (not (all_defeated (pick k x (below x) (from test below l)))) (Some (x ∷ l))
      go zero e r = decides_iff some_tail (λ s. ⊎_elim (λ h. absurd (h.0 e)) (λ i. i) (some_cases x l s)) r
      go (suc k) e r =
          let child : test x ≢ 0 = λ z. omega arith in
          rw (not_and (all_defeated (below x)) (all_defeated (from test below l)))
          (decides_iff
          (⊎_elim (λ p. (x, Memᴰ.head refl, child, p)) some_tail)
          (λ s. ⊎_elim (λ h. inl h.1) inr (some_cases x l s))
          (decides_or (d x (Memᴰ.head refl) child) r))

-- ---- the replies to a line, without a depth: each listed argument is a sub-argument of itself

module _ {A : Type 0} (t : Tests A) (itself : (x : A) → Memᴰ x t.arguments → T (t.sub x x)) where
  -- a child was unused before it stood on the line, and is not after
  pub remaining_falls : (l : List A) (y : A) → Memᴰ y t.arguments → reply_kind t l y ≢ 0
      → remaining t (y ∷ l) < remaining t l
  unfolding remaining unused
  remaining_falls l y i n = filter_lt (unused t (y ∷ l)) (unused t l)
      (λ x h. (and_both (not (t.sub x y)) (unused t l x) h).1)
      t.arguments i (reply_unused t l y n)
      (λ h. T_not (t.sub y y) (and_both (not (t.sub y y)) (unused t l y) h).0 (itself y i))

  replies_depth : (n m : ℕ) (l : List A) → remaining t l < n → remaining t l < m → replies_to t n l ≡ replies_to t m l
  unfolding replies_to
  replies_depth zero m l a b = absurd (omega arith)
  replies_depth (suc n) zero l a b = absurd (omega arith)
  replies_depth (suc n) (suc m) l a b =
      from_same (reply_kind t l) (λ x. replies_to t n (x ∷ l)) (λ x. replies_to t m (x ∷ l)) t.arguments
      (λ x i k.
      let f = remaining_falls l x i k in
      replies_depth n m (x ∷ l) (omega arith) (omega arith))

  -- Definition 7: the replies to a line are its children in list order, each with the replies to it
  pub replies_unroll : (l : List A) → replies t l ≡ from (reply_kind t l) (λ x. replies t (x ∷ l)) t.arguments
  unfolding replies replies_to
  replies_unroll l =
      from_same (reply_kind t l) (λ x. replies_to t (remaining t l) (x ∷ l)) (λ x. replies t (x ∷ l)) t.arguments
      (λ x i k.
      let f = remaining_falls l x i k in
      replies_depth (remaining t l) (suc (remaining t (x ∷ l))) (x ∷ l) f (omega arith))
