-- The frame of a program obeys the five laws, whatever the program and the preference; and the tests of a program whose
-- heads are below 128 answer what its frame states.
use mathlib.Core.Path.{◌≡◌, sym, subst}
use mathlib.Core.Bool.{Bool, true, false}
use mathlib.Core.List.Memᴰ
use mathlib.Core.List.{List, [], ◌∷◌, Memᴰ}
use Prim.Native.Nat.{ℕ}
use native.Mathlib.Omega.{arith}
use Rattle.lists.specs.Lists.{Within}
use Rattle.lists.specs.Decides.{Decides}
use Rattle.lists.proofs.Lists.{T_true, any_intro, any_found}
use Rattle.lists.proofs.Decides.{decides_not}
use Rattle.literals.specs.Sets.{has, within}
use Rattle.literals.proofs.Tests.{true_T}
use Rattle.literals.proofs.Within.{within_each, each_within}
use Rattle.program.specs.Program.{Rule, Program, fact, Π_mask, Π}
use Rattle.derivation.specs.Derivation.{Derives, Contradictory, HeadsBelow}
use Rattle.derivation.specs.Closure.{contradictory, excludes}
use Rattle.derivation.proofs.Rounds.{ClosedUnder}
use Rattle.derivation.proofs.Chains.{derives_ind, derives_rule, derives_mono}
use Rattle.derivation.proofs.Contradictions.{contradictory_sound, contradictory_complete, excludes_sound}
use Rattle.derivation.proofs.Contradictions.{excludes_complete}
use Rattle.derivation.proofs.Choices.{Π_with_mono, Π_with_rules}
use Rattle.argument.specs.Argument.{Subset, mask_of, literal_of}
use Rattle.argument.proofs.Lists.{list_sound, list_complete}
use Rattle.defeat.specs.Frame.{Frame}
use Rattle.defeat.specs.OfProgram.{in_some, Π_all, frame_of, tests_of}
use Rattle.defeat.proofs.Laws.{Laws}
use Rattle.defeat.proofs.Renders.{Renders}

-- ---- sets of rules

-- what is contradictory stays so with more rules
pub contradictory_more : (rules more : List Rule) → Within rules more → Contradictory rules → Contradictory more
contradictory_more rules more w (l, d, e) = (l, derives_mono rules more w l d, derives_mono rules more w _ e)

-- facts that are derived add nothing
pub contradictory_derived : (rules more : List Rule) (a b : ℕ) → Within rules more → Derives more a → Derives more b
    → Contradictory (fact a ∷ fact b ∷ rules) → Contradictory more
contradictory_derived rules more a b w da db (l, d, e) = (l, each l d, each _ e)
  where
    kept : ClosedUnder (fact a ∷ fact b ∷ rules) (Derives more)
    kept r (Memᴰ.head e) f = subst (λ (q : Rule). Derives more q.head) (sym e) da
    kept r (Memᴰ.tail (Memᴰ.head e)) f = subst (λ (q : Rule). Derives more q.head) (sym e) db
    kept r (Memᴰ.tail (Memᴰ.tail i)) f = derives_rule more r (w r i) f

    each : (h : ℕ) → Derives (fact a ∷ fact b ∷ rules) h → Derives more h
    each = derives_ind (fact a ∷ fact b ∷ rules) (Derives more) kept

pub excludes_swap : (rules : List Rule) (a b : ℕ) → Contradictory (fact a ∷ fact b ∷ rules)
    → Contradictory (fact b ∷ fact a ∷ rules)
excludes_swap rules a b = contradictory_more (fact a ∷ fact b ∷ rules) (fact b ∷ fact a ∷ rules) swap
  where
    swap : Within (fact a ∷ fact b ∷ rules) (fact b ∷ fact a ∷ rules)
    swap r (Memᴰ.head e) = Memᴰ.tail (Memᴰ.head e)
    swap r (Memᴰ.tail (Memᴰ.head e)) = Memᴰ.head e
    swap r (Memᴰ.tail (Memᴰ.tail i)) = Memᴰ.tail (Memᴰ.tail i)

-- ---- Π with all masks of some arguments

in_some_lem : (l : List ℕ) (x b : ℕ) → Memᴰ x l → has (mask_of x) b ≡ true → in_some l b ≡ true
in_some_lem l x b i h = T_true (in_some l b) (any_intro (λ y. has (mask_of y) b) l i (true_T (has (mask_of x) b) h))

some_in : (l : List ℕ) (b : ℕ) → in_some l b ≡ true → (x : ℕ) × Memᴰ x l × (has (mask_of x) b ≡ true)
some_in l b h =
    let f = any_found (λ y. has (mask_of y) b) l (true_T (in_some l b) h) in
    (f.0, f.1, T_true (has (mask_of f.0) b) f.2)

module _ (rules : List Rule) where
  -- one more argument's rules are among them
  pub all_mask : (l : List ℕ) (x m : ℕ) → Memᴰ x l → Subset m (mask_of x) → Within (Π_mask m rules) (Π_all l rules)
  all_mask l x m i w = Π_with_mono rules (has m) (in_some l) (λ b h. in_some_lem l x b i (w b h))

  all_fewer : (l m : List ℕ) → Within l m → Within (Π_all l rules) (Π_all m rules)
  all_fewer l m w = Π_with_mono rules (in_some l) (in_some m)
      (λ b h. let f = some_in l b h in in_some_lem m f.0 b (w f.0 f.1) f.2)

  all_one : (x : ℕ) → Within (Π_all (x ∷ []) rules) (Π_mask (mask_of x) rules)
  all_one x = Π_with_mono rules (in_some (x ∷ [])) (has (mask_of x))
      (λ b h. let f = some_in (x ∷ []) b h in rw (← Memᴰ.eq_of_singleton f.1) f.2)

  all_strict : (l : List ℕ) → Within (Π rules) (Π_all l rules)
  all_strict l = Π_with_mono rules (λ _. false) (in_some l) (λ b h. absurd (nothing h))
    where
      nothing : false ≡ true → ⊥
      nothing e = let z : ◌≡◌ {A = ℕ} 0 1 = cc in omega arith

-- ---- the five laws

module _ (p : Program) (Preferred : ℕ → ℕ → Type 0) where
  abbrev F : Frame ℕ
  F = frame_of p Preferred

  -- the literal of a sub-argument of one of them is derived from all
  sub_derived : (l : List ℕ) (x y : ℕ) → Memᴰ x l → F.SubArgument y x
      → Derives (Π_all l p.rules) (literal_of y)
  sub_derived l x y i s =
      derives_mono (Π_mask (mask_of y) p.rules) (Π_all l p.rules) (all_mask p.rules l x (mask_of y) i s.part) (literal_of y)
      s.argument.derived

  pub frame_laws : Laws (frame_of p Preferred)
  frame_laws = record {
    concordant_fewer = λ l m w c d.
        c (contradictory_more (Π_all l p.rules) (Π_all m p.rules) (all_fewer p.rules l m w) d);
    concordant_one = λ x a d.
        a.coherent (contradictory_more (Π_all (x ∷ []) p.rules) (Π_mask (mask_of x) p.rules) (all_one p.rules x) d);
    sub_refl = λ x a. record { argument = a; part = λ b h. h };
    concordant_apart = λ l x w y z c i j s t e.
        c (contradictory_derived (Π p.rules) (Π_all l p.rules) (literal_of y) (literal_of z) (all_strict p.rules l)
        (sub_derived l x y i s) (sub_derived l w z j t) e);
    excludes_sym = λ x y. excludes_swap (Π p.rules) (literal_of x) (literal_of y);
  }

-- ---- the tests

-- a test that is true where a statement holds
by_test : {P : Type 0} (b : Bool) → (b ≡ true → P) → (P → b ≡ true) → Decides b P
by_test b f g = record { says = λ h. f (T_true b h); passes = λ q. true_T b (g q) }

module _ (p : Program) (heads : HeadsBelow 128 p.rules) (Preferred : ℕ → ℕ → Type 0) (preferred : ℕ → ℕ → Bool)
    (decides : (m n : ℕ) → Decides (preferred m n) (Preferred m n)) where
  contradictory_renders : (l : List ℕ) → Decides (contradictory (Π_all l p.rules)) (Contradictory (Π_all l p.rules))
  contradictory_renders l =
      by_test (contradictory (Π_all l p.rules))
      (contradictory_sound (Π_all l p.rules))
      (contradictory_complete (Π_all l p.rules) (λ r i. heads r (Π_with_rules p.rules (in_some l) r i)))

  pub frame_renders : Renders (frame_of p Preferred) (tests_of p preferred)
  unfolding tests_of
  frame_renders = record {
    argument = λ x. (list_complete p.rules heads x, list_sound p.rules heads x);
    sub_argument = λ z y s. s.argument;
    sub = λ z y az ay.
        by_test (within (mask_of z) (mask_of y))
        (λ e. record { argument = az; part = within_each (mask_of z) (mask_of y) e })
        (λ s. each_within (mask_of z) (mask_of y) s.part);
    excludes = λ x z ax az.
        by_test (excludes p.rules (literal_of x) (literal_of z)) (excludes_sound p.rules (literal_of x) (literal_of z))
        (excludes_complete p.rules heads (literal_of x) (literal_of z) (omega arith) (omega arith));
    preferred = λ x z ax az. decides (mask_of x) (mask_of z);
    concordant = λ l al. decides_not (contradictory_renders l);
  }
