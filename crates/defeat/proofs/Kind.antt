-- A defeater's kind as document 01's number: 1 proper, 2 blocking, and no other but 0 for none.
use mathlib.Core.Path.{◌≡◌, refl}
use mathlib.Core.Bool.{Bool, true, false, not, ◌&&◌}
use mathlib.Core.Logic.{◌⊎◌, inl, inr, ◌↔◌, ◌≢◌}
use Prim.Native.Nat.{◌≤◌}
use native.Mathlib.Omega.{arith}
use lib.Dec.{T, eqb}
use Rattle.defeat.specs.Frame.{Frame}
use Rattle.defeat.specs.Defeat.{ProperDefeater, BlockingDefeater, Defeater}
use Rattle.defeat.specs.Tests.{Tests, proper, neither, blocking, kind, kind_of}
use Rattle.defeat.specs.declared.kinds.Kind.{Kind}
use Rattle.defeat.specs.declared.kinds.Kind.TheVariants.{Proper, Blocking}
use Rattle.defeat.specs.Inside.Kinds.{number_of}
use Rattle.defeat.proofs.Renders.{Renders}
use Rattle.defeat.proofs.Defeat.{proper_renders, blocking_renders}

-- ---- of any two tests

one_is : (p n : Bool) → (kind_of p n ≡ 1) ↔ T p
one_is true n = (λ e. tt, λ h. refl)
one_is false true = (λ e. absurd (omega (arith, e)), λ h. absurd h)
one_is false false = (λ e. absurd (omega (arith, e)), λ h. absurd h)

two_is : (p n : Bool) → (kind_of p n ≡ 2) ↔ T (not p && n)
two_is true n = (λ e. absurd (omega (arith, e)), λ h. absurd h)
two_is false true = (λ e. tt, λ h. refl)
two_is false false = (λ e. absurd (omega (arith, e)), λ h. absurd h)

one_test : (p n : Bool) → eqb (kind_of p n) 1 ≡ p
one_test true n = refl
one_test false true = refl
one_test false false = refl

two_test : (p n : Bool) → eqb (kind_of p n) 2 ≡ not p && n
two_test true n = refl
two_test false true = refl
two_test false false = refl

cases : (p n : Bool) → (kind_of p n ≡ 0) ⊎ ((kind_of p n ≡ 1) ⊎ (kind_of p n ≡ 2))
cases true n = inr (inl refl)
cases false true = inr (inr refl)
cases false false = inl refl

-- ---- of the computed kind

module _ {A : Type 0} (t : Tests A) (x y : A) where
  pub kind_cases : (kind t x y ≡ 0) ⊎ ((kind t x y ≡ 1) ⊎ (kind t x y ≡ 2))
  unfolding kind
  kind_cases = cases (proper t x y) (neither t x y)

  pub kind_bound : kind t x y ≤ 2
  kind_bound = go kind_cases
    where
      go : (kind t x y ≡ 0) ⊎ ((kind t x y ≡ 1) ⊎ (kind t x y ≡ 2)) → kind t x y ≤ 2
      go (inl e) = omega arith
      go (inr (inl e)) = omega arith
      go (inr (inr e)) = omega arith

  -- for code that keeps a node's kind and not the two tests
  pub kind_one_test : eqb (kind t x y) 1 ≡ proper t x y
  unfolding kind
  kind_one_test = one_test (proper t x y) (neither t x y)

  pub kind_two_test : eqb (kind t x y) 2 ≡ blocking t x y
  unfolding kind blocking
  kind_two_test = two_test (proper t x y) (neither t x y)

-- ---- of the engine's kind

pub number_some : (k : Kind) → number_of k ≢ 0
number_some Proper e = absurd (omega (arith, e))
number_some Blocking e = absurd (omega (arith, e))

-- ---- as published

module _ {A : Type 0} {F : Frame A} {t : Tests A} (R : Renders F t)
    (x y : A) (ax : F.Argument x) (ay : F.Argument y) where
  pub kind_proper : (kind t x y ≡ 1) ↔ ProperDefeater F x y
  unfolding kind
  kind_proper =
      let d = proper_renders R x y ax ay in
      let one = one_is (proper t x y) (neither t x y) in
      (λ e. d.says (one.0 e), λ p. one.1 (d.passes p))

  pub kind_blocking : (kind t x y ≡ 2) ↔ BlockingDefeater F x y
  unfolding kind blocking
  kind_blocking =
      let d = blocking_renders R x y ax ay in
      let two = two_is (proper t x y) (neither t x y) in
      (λ e. d.says (two.0 e), λ b. two.1 (d.passes b))

  pub kind_defeater : (kind t x y ≢ 0) ↔ Defeater F x y
  kind_defeater = (λ n. to n (kind_cases t x y), of)
    where
      to : kind t x y ≢ 0 → (kind t x y ≡ 0) ⊎ ((kind t x y ≡ 1) ⊎ (kind t x y ≡ 2)) → Defeater F x y
      to n (inl e) = absurd (n e)
      to n (inr (inl e)) = inl (kind_proper.0 e)
      to n (inr (inr e)) = inr (kind_blocking.0 e)

      of : Defeater F x y → kind t x y ≢ 0
      of (inl p) e = let k = kind_proper.1 p in absurd (omega arith)
      of (inr b) e = let k = kind_blocking.1 b in absurd (omega arith)
