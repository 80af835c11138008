-- Trees over tests that are the same after a renaming: they have the same size and the same marks. Siblings may stand in
-- another order, so the trees differ; a size is a sum over the siblings and a mark a test of all of them.
use mathlib.Core.Path.{◌≡◌, refl, sym, ap, ap₂, ◌∙◌}
use mathlib.Core.Bool.{Bool, true, not, ◌&&◌, ◌||◌}
use mathlib.Core.List.Memᴰ
use mathlib.Core.List.{List, [], ◌∷◌, map, Memᴰ}
use mathlib.Core.List.{Permᴰ}
use mathlib.Core.Logic.{⊎_elim}
use Prim.Native.Nat.{ℕ, zero, suc, ◌+◌}
use native.Mathlib.Omega.{arith}
use Rattle.lists.specs.Lists.{Within}
use Rattle.lists.proofs.Lists.{any_filter, within_cons}
use Rattle.lists.proofs.Permutations.{fold, fold_match, any_match, filter_match, all_map, and_swap}
use Rattle.defeat.specs.Tests.{Tests, kind_of, attacked, proper, neither, blocking, kind}
use Rattle.tree.specs.Reply.{mine, theirs, permit, unused, may_follow, joins, reply_kind}
use Rattle.tree.specs.Forest.{Forest, size, all_defeated, pick, from, replies_to, remaining, replies, forest_of, undefeated_root}
use Rattle.renaming.specs.Inside.Tests.{SameTests}

-- ---- the candidates' trees: sum and conjunction

-- one child's nodes before the others'
abbrev grow : ℕ → ℕ → ℕ → ℕ
grow zero s n = n
grow (suc k) s n = suc (s + n)

abbrev spare : ℕ → Bool → Bool → Bool
spare zero d c = c
spare (suc k) d c = not d && c

grow_swap : (j k a b n : ℕ) → grow j a (grow k b n) ≡ grow k b (grow j a n)
grow_swap zero k a b n = refl
grow_swap (suc j) zero a b n = refl
grow_swap (suc j) (suc k) a b n = omega arith

spare_swap : (j k : ℕ) (a b c : Bool) → spare j a (spare k b c) ≡ spare k b (spare j a c)
spare_swap zero k a b c = refl
spare_swap (suc j) zero a b c = refl
spare_swap (suc j) (suc k) a b c = and_swap (not a) (not b) c

module _ {A : Type 0} (test : A → ℕ) (below : A → Forest A) where
  from_size : (l : List A) → size (from test below l) ≡ fold (λ x. grow (test x) (size (below x))) 0 l
  from_size [] = refl
  from_size (x ∷ l) = go (test x) (from_size l)
    where
      go : (k : ℕ) → size (from test below l) ≡ fold (λ y. grow (test y) (size (below y))) 0 l
          → size (pick k x (below x) (from test below l)) ≡ grow k (size (below x)) (fold (λ y. grow (test y) (size (below y))) 0 l)
      go zero e = e
      go (suc k) e = ap (λ n. suc (size (below x) + n)) e

  from_defeated : (l : List A)
      → all_defeated (from test below l) ≡ fold (λ x. spare (test x) (all_defeated (below x))) true l
  from_defeated [] = refl
  from_defeated (x ∷ l) = go (test x) (from_defeated l)
    where
      go : (k : ℕ) → all_defeated (from test below l) ≡ fold (λ y. spare (test y) (all_defeated (below y))) true l
          → all_defeated (pick k x (below x) (from test below l))
          ≡ spare k (all_defeated (below x)) (fold (λ y. spare (test y) (all_defeated (below y))) true l)
      go zero e = e
      go (suc k) e = ap (λ c. not (all_defeated (below x)) && c) e

-- ---- sides of a line

module _ {A B : Type 0} (f : A → B) where
  sides_map : (l : List A) → (mine (map f l) ≡ map f (mine l)) × (theirs (map f l) ≡ map f (theirs l))
  sides_map [] = (refl, refl)
  sides_map (x ∷ l) = let r = sides_map l in (ap (λ k. f x ∷ k) r.1, r.0)

sides_within : {A : Type 0} (l : List A) → Within (mine l) l × Within (theirs l) l
sides_within [] = (λ x i. i, λ x i. i)
sides_within (x ∷ l) = let r = sides_within l in (within_cons x r.1, λ y i. Memᴰ.tail (r.0 y i))

-- ---- one reply

module _ {A B : Type 0} (t : Tests A) (u : Tests B) (f : A → B) (s : SameTests t u f) where
  abbrev Listed : A → Type 0
  Listed x = Memᴰ x t.arguments

  module _ (x y : A) (i : Listed x) (j : Listed y) where
    attacks_same : (z : A) → Listed z → (t.sub z y && t.excludes x z) ≡ (u.sub (f z) (f y) && u.excludes (f x) (f z))
    attacks_same z k = ap₂ ◌&&◌ (s.sub_same z y k j) (s.excludes_same x z i k)

    pub proper_same : proper t x y ≡ proper u (f x) (f y)
    unfolding proper attacked
    proper_same =
        any_filter (λ z. t.preferred x z) (λ z. t.sub z y && t.excludes x z) t.arguments
        ∙ any_match f s.listed (λ z. (t.sub z y && t.excludes x z) && t.preferred x z)
        (λ z. (u.sub z (f y) && u.excludes (f x) z) && u.preferred (f x) z)
        (λ z k. ap₂ ◌&&◌ (attacks_same z k) (s.preferred_same x z i k))
        ∙ sym (any_filter (λ z. u.preferred (f x) z) (λ z. u.sub z (f y) && u.excludes (f x) z) u.arguments)

    neither_same : neither t x y ≡ neither u (f x) (f y)
    unfolding neither attacked
    neither_same =
        any_filter (λ z. not (t.preferred x z) && not (t.preferred z x)) (λ z. t.sub z y && t.excludes x z) t.arguments
        ∙ any_match f s.listed
        (λ z. (t.sub z y && t.excludes x z) && (not (t.preferred x z) && not (t.preferred z x)))
        (λ z. (u.sub z (f y) && u.excludes (f x) z) && (not (u.preferred (f x) z) && not (u.preferred z (f x))))
        (λ z k.
        ap₂ ◌&&◌ (attacks_same z k)
        (ap₂ (λ (a b : Bool). not a && not b) (s.preferred_same x z i k) (s.preferred_same z x k i)))
        ∙ sym
        (any_filter (λ z. not (u.preferred (f x) z) && not (u.preferred z (f x)))
        (λ z. u.sub z (f y) && u.excludes (f x) z) u.arguments)

    pub kind_same : kind t x y ≡ kind u (f x) (f y)
    unfolding kind
    kind_same = ap₂ kind_of proper_same neither_same

    blocking_same : blocking t x y ≡ blocking u (f x) (f y)
    unfolding blocking
    blocking_same = ap₂ (λ (a b : Bool). not a && b) proper_same neither_same

  module _ (l : List A) (w : Within l t.arguments) (y : A) (j : Listed y) where
    unused_same : unused t l y ≡ unused u (map f l) (f y)
    unfolding unused
    unused_same = all_map f l (λ x. not (t.sub y x)) (λ x. not (u.sub (f y) x)) (λ x i. ap not (s.sub_same y x j (w x i)))

    concordant_theirs : t.concordant (y ∷ theirs l) ≡ u.concordant (f y ∷ theirs (map f l))
    concordant_theirs =
        s.concordant_same (y ∷ theirs l)
        (λ x i. ⊎_elim (λ e. Memᴰ.cast e j) (λ k. w x ((sides_within l).1 x k)) (Memᴰ.cases_cons i))
        ∙ ap (λ k. u.concordant (f y ∷ k)) (sym (sides_map f l).1)

  follow_same : (l : List A) → Within l t.arguments → (y : A) → Listed y → may_follow t l y ≡ may_follow u (map f l) (f y)
  follow_same [] w y j = refl
  follow_same (x ∷ []) w y j = refl
  follow_same (x ∷ v ∷ l) w y j =
      let i : Listed x = w x (Memᴰ.head refl) in
      ap₂ (λ (a b : Bool). not a || b) (blocking_same x v i (w v (Memᴰ.tail (Memᴰ.head refl)))) (proper_same y x j i)

  joins_same : (l : List A) → Within l t.arguments → (y : A) → Listed y → joins t l y ≡ joins u (map f l) (f y)
  unfolding joins
  joins_same l w y j = ap₂ ◌&&◌ (unused_same l w y j) (ap₂ ◌&&◌ (follow_same l w y j) (concordant_theirs l w y j))

  pub reply_same : (l : List A) → Within l t.arguments → (y : A) → Listed y → reply_kind t l y ≡ reply_kind u (map f l) (f y)
  unfolding reply_kind
  reply_same [] w y j = refl
  reply_same (x ∷ l) w y j =
      ap₂ permit (kind_same y x j (w x (Memᴰ.head refl))) (joins_same (x ∷ l) w y j)

  -- ---- the tree below a line

  pub replies_to_same : (n : ℕ) (l : List A) → Within l t.arguments
      → (size (replies_to t n l) ≡ size (replies_to u n (map f l)))
      × (all_defeated (replies_to t n l) ≡ all_defeated (replies_to u n (map f l)))
  unfolding replies_to
  replies_to_same zero l w = (refl, refl)
  replies_to_same (suc n) l w = (
    from_size (reply_kind t l) (λ x. replies_to t n (x ∷ l)) t.arguments
        ∙ fold_match f (λ x. grow (reply_kind t l x) (size (replies_to t n (x ∷ l))))
        (λ y. grow (reply_kind u (map f l) y) (size (replies_to u n (y ∷ map f l)))) 0
        (λ x y c. grow_swap (reply_kind u (map f l) x) (reply_kind u (map f l) y) (size (replies_to u n (x ∷ map f l))) (size (replies_to u n (y ∷ map f l))) c)
        s.listed
        (λ x i c. ap₂ (λ (k m : ℕ). grow k m c) (reply_same l w x i) (replies_to_same n (x ∷ l) (longer x i)).0)
        ∙ sym (from_size (reply_kind u (map f l)) (λ x. replies_to u n (x ∷ map f l)) u.arguments),
    from_defeated (reply_kind t l) (λ x. replies_to t n (x ∷ l)) t.arguments
        ∙ fold_match f (λ x. spare (reply_kind t l x) (all_defeated (replies_to t n (x ∷ l))))
        (λ y. spare (reply_kind u (map f l) y) (all_defeated (replies_to u n (y ∷ map f l)))) true
        (λ x y c. spare_swap (reply_kind u (map f l) x) (reply_kind u (map f l) y) (all_defeated (replies_to u n (x ∷ map f l))) (all_defeated (replies_to u n (y ∷ map f l))) c)
        s.listed
        (λ x i c. ap₂ (λ (k : ℕ) (m : Bool). spare k m c) (reply_same l w x i) (replies_to_same n (x ∷ l) (longer x i)).1)
        ∙ sym (from_defeated (reply_kind u (map f l)) (λ x. replies_to u n (x ∷ map f l)) u.arguments),
  )
    where
      longer : (x : A) → Listed x → Within (x ∷ l) t.arguments
      longer x i y k = ⊎_elim (λ e. Memᴰ.cast e i) (w y) (Memᴰ.cases_cons k)

  remaining_same : (l : List A) → Within l t.arguments → remaining t l ≡ remaining u (map f l)
  unfolding remaining
  remaining_same l w = filter_match f s.listed (unused t l) (unused u (map f l)) (λ y j. unused_same l w y j)

  module _ (l : List A) (w : Within l t.arguments) where
    pub replies_size_same : size (replies t l) ≡ size (replies u (map f l))
    unfolding replies
    replies_size_same =
        (replies_to_same (suc (remaining t l)) l w).0
        ∙ ap (λ n. size (replies_to u (suc n) (map f l))) (remaining_same l w)

    pub replies_defeated_same : all_defeated (replies t l) ≡ all_defeated (replies u (map f l))
    unfolding replies
    replies_defeated_same =
        (replies_to_same (suc (remaining t l)) l w).1
        ∙ ap (λ n. all_defeated (replies_to u (suc n) (map f l))) (remaining_same l w)

  alone : (x : A) → Listed x → Within (x ∷ []) t.arguments
  alone x i y k = ⊎_elim (λ e. Memᴰ.cast e i) (λ n. absurd (Memᴰ.not-nil n)) (Memᴰ.cases_cons k)

  -- ---- roots

  pub root_same : (x : A) → Listed x → undefeated_root t x ≡ undefeated_root u (f x)
  unfolding undefeated_root
  root_same x i = replies_defeated_same (x ∷ []) (alone x i)

  forest_fold : {C : Type 0} (v : Tests C) (l : List C) → size (forest_of v l) ≡ fold (λ x n. suc (size (replies v (x ∷ [])) + n)) 0 l
  unfolding forest_of
  forest_fold v [] = refl
  forest_fold v (x ∷ l) = ap (λ n. suc (size (replies v (x ∷ [])) + n)) (forest_fold v l)

  pub forest_same : (l : List A) (m : List B) → Within l t.arguments → Permᴰ (map f l) m
      → size (forest_of t l) ≡ size (forest_of u m)
  forest_same l m w p =
      forest_fold t l
      ∙ fold_match f (λ x n. suc (size (replies t (x ∷ [])) + n)) (λ y n. suc (size (replies u (y ∷ [])) + n)) 0
      (λ x y n. swap (size (replies u (x ∷ []))) (size (replies u (y ∷ []))) n) p
      (λ x i n. ap (λ k. suc (k + n)) (replies_size_same (x ∷ []) (alone x (w x i))))
      ∙ sym (forest_fold u m)
    where
      swap : (a b n : ℕ) → suc (a + suc (b + n)) ≡ suc (b + suc (a + n))
      swap a b n = omega arith
