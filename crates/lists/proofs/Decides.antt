-- Tests that decide statements: by connective, then by list function.
use mathlib.Core.Path.{◌≡◌}
use mathlib.Core.Bool.{Bool, true, false, not, ◌&&◌, ◌||◌}
use mathlib.Core.List.{List, Memᴰ}
use mathlib.Core.Logic.{◌⊎◌, inl, inr}
use lib.Dec.{T, T_not, not_T}
use Rattle.lists.specs.Decides.{Decides}
use Rattle.lists.specs.Lists.{any, all}
use Rattle.lists.proofs.Lists.{and_intro, and_both, or_left, or_right, or_either, any_intro, any_found, all_intro, all_at, T_known, T_same}

module _ {P : Type 0} where
  -- what a test decides is so or not so
  pub decides_known : {b : Bool} → Decides b P → Dec P
  decides_known {b} d = go b d
    where
      go : (c : Bool) → Decides c P → Dec P
      go true e = yes (e.says tt)
      go false e = no e.passes

  -- a test that fails says that it is not so
  pub decides_not : {b : Bool} → Decides b P → Decides (not b) (¬ P)
  decides_not {b} d = record {
    says = λ h p. T_not b h (d.passes p);
    passes = λ f. not_T b (λ h. f (d.says h));
  }

  -- one test for two statements that are the same
  pub decides_iff : {Q : Type 0} {b : Bool} → (P → Q) → (Q → P) → Decides b P → Decides b Q
  decides_iff f g d = record { says = λ h. f (d.says h); passes = λ q. d.passes (g q) }

  -- two tests of one statement are one
  pub decides_same : {a b : Bool} → Decides a P → Decides b P → a ≡ b
  decides_same {a} {b} d e = T_same a b (λ h. e.passes (d.says h)) (λ h. d.passes (e.says h))

module _ {P Q : Type 0} {a b : Bool} (d : Decides a P) (e : Decides b Q) where
  pub decides_and : Decides (a && b) (P × Q)
  decides_and = record {
    says = λ h. let k = and_both a b h in (d.says k.0, e.says k.1);
    passes = λ p. and_intro a b (d.passes p.0) (e.passes p.1);
  }

  pub decides_or : Decides (a || b) (P ⊎ Q)
  decides_or = record {
    says = λ h. to (or_either a b h);
    passes = from;
  }
    where
      to : T a ⊎ T b → P ⊎ Q
      to (inl h) = inl (d.says h)
      to (inr h) = inr (e.says h)

      from : P ⊎ Q → T (a || b)
      from (inl p) = or_left a b (d.passes p)
      from (inr q) = or_right a b (e.passes q)

  -- "if the first, then the second"
  pub decides_imp : Decides (not a || b) (P → Q)
  decides_imp = record {
    says = λ h. to (or_either (not a) b h);
    passes = λ f. from f (T_known a);
  }
    where
      to : T (not a) ⊎ T b → P → Q
      to (inl h) p = absurd (T_not a h (d.passes p))
      to (inr h) p = e.says h

      from : (P → Q) → T a ⊎ (T a → ⊥) → T (not a || b)
      from f (inl h) = or_right (not a) b (e.passes (f (d.says h)))
      from f (inr n) = or_left (not a) b (not_T a n)

-- each element's test decides a statement of it
module _ {A : Type 0} (P : A → Type 0) (test : A → Bool) (l : List A)
    (d : (x : A) → Memᴰ x l → Decides (test x) (P x)) where
  pub decides_any : Decides (any test l) ((x : A) × Memᴰ x l × P x)
  decides_any = record {
    says = λ h. let r = any_found test l h in (r.0, r.1, (d r.0 r.1).says r.2);
    passes = λ r. any_intro test l r.1 ((d r.0 r.1).passes r.2);
  }

  pub decides_all : Decides (all test l) ((x : A) → Memᴰ x l → P x)
  decides_all = record {
    says = λ h x i. (d x i).says (all_at test l h i);
    passes = λ f. all_intro test l (λ x i. (d x i).passes (f x i));
  }
