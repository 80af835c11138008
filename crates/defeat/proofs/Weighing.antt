-- The kind by those of a list that are attacked, a law for each turn of the search and for each way out, over any tests.
use mathlib.Core.Path.{◌≡◌, refl, sym, ap, ap₂, ◌∙◌}
use mathlib.Core.Bool.{Bool, true, false, not, ◌&&◌, ◌||◌, false≢true}
use mathlib.Core.List.{List, [], ◌∷◌, Memᴰ}
use Prim.Native.Nat.{ℕ}
use Rattle.lists.specs.Lists.{any}
use Rattle.lists.proofs.Lists.{T_true, any_intro, any_filter}
use Rattle.literals.proofs.Tests.{true_T, not_true_false}
use Rattle.defeat.specs.Tests.{Tests, attacked, proper, neither, kind, kind_of}
use Rattle.defeat.specs.Inside.Steps.{kind_among}

-- ---- searches in a list

module _ {A : Type 0} where
  pub any_same : (f g : A → Bool) (l : List A) → ((z : A) → Memᴰ z l → f z ≡ g z) → any f l ≡ any g l
  any_same f g [] e = refl
  any_same f g (x ∷ l) e =
      ap₂ (λ (a b : Bool). a || b) (e x (Memᴰ.head refl)) (any_same f g l (λ z i. e z (Memᴰ.tail i)))

  pub any_none : (f : A → Bool) (l : List A) → ((z : A) → Memᴰ z l → f z ≡ false) → any f l ≡ false
  any_none f [] e = refl
  any_none f (x ∷ l) e =
      ap₂ (λ (a b : Bool). a || b) (e x (Memᴰ.head refl)) (any_none f l (λ z i. e z (Memᴰ.tail i)))

  none_any : (f : A → Bool) (l : List A) → any f l ≡ false → (z : A) → Memᴰ z l → f z ≡ false
  none_any f l e z i =
      not_true_false (f z) (λ h. false≢true (sym e ∙ T_true (any f l) (any_intro f l i (true_T (f z) h))))

-- ---- the kind by the attacked ones of a list

module _ (attack over under : ℕ → Bool) where
  abbrev proper_at : ℕ → Bool
  proper_at z = attack z && over z

  abbrev neither_at : ℕ → Bool
  neither_at z = attack z && (not (over z) && not (under z))

  -- with what the ones before have said
  abbrev kind_from : Bool → Bool → ℕ → ℕ
  kind_from true n found = 1
  kind_from false true found = 2
  kind_from false false found = found

  -- the kind, where `found` is the kind by those before l
  abbrev pub kind_left : ℕ → List ℕ → ℕ
  kind_left found l = kind_from (any proper_at l) (any neither_at l) found

  pub left_start : (l : List ℕ) → kind_left 0 l ≡ kind_among attack over under l
  left_start l = go (any proper_at l) (any neither_at l)
    where
      go : (p n : Bool) → kind_from p n 0 ≡ kind_of p n
      go true n = refl
      go false true = refl
      go false false = refl

  pub left_none : (found : ℕ) (l : List ℕ) → ((z : ℕ) → Memᴰ z l → attack z ≡ false) → kind_left found l ≡ found
  left_none found l e =
      ap₂ (λ (p n : Bool). kind_from p n found) (any_none proper_at l (λ z i. ap (λ (t : Bool). t && over z) (e z i)))
      (any_none neither_at l (λ z i. ap (λ (t : Bool). t && (not (over z) && not (under z))) (e z i)))

  -- a turn at z
  module _ (found z : ℕ) (l : List ℕ) where
    turn : (a o u : Bool) → attack z ≡ a → over z ≡ o → under z ≡ u
        → kind_left found (z ∷ l)
        ≡ kind_from ((a && o) || any proper_at l) ((a && (not o && not u)) || any neither_at l) found
    turn a o u p q r =
        ap₂ (λ (x y : Bool). kind_from x y found) (ap₂ (λ (s t : Bool). (s && t) || any proper_at l) p q)
        (ap₂ (λ (s t : Bool). (s && t) || any neither_at l) p (ap₂ (λ (s t : Bool). not s && not t) q r))

    pub left_skip : attack z ≡ false → kind_left found (z ∷ l) ≡ kind_left found l
    left_skip p = turn false (over z) (under z) p refl refl

    pub left_proper : attack z ≡ true → over z ≡ true → kind_left found (z ∷ l) ≡ 1
    left_proper p q = turn true true (under z) p q refl

    pub left_under : attack z ≡ true → over z ≡ false → under z ≡ true → kind_left found (z ∷ l) ≡ kind_left found l
    left_under p q r = turn true false true p q r

    pub left_neither : attack z ≡ true → over z ≡ false → under z ≡ false → kind_left found (z ∷ l) ≡ kind_left 2 l
    left_neither p q r = turn true false false p q r ∙ go (any proper_at l) (any neither_at l)
      where
        go : (x y : Bool) → kind_from x true found ≡ kind_from x y 2
        go true y = refl
        go false true = refl
        go false false = refl

  pub among_none : (l : List ℕ) → any attack l ≡ false → kind_among attack over under l ≡ 0
  among_none l e = sym (left_start l) ∙ left_none 0 l (none_any attack l e)

pub among_same : (f g over under : ℕ → Bool) (l : List ℕ) → ((z : ℕ) → Memᴰ z l → f z ≡ g z)
    → kind_among f over under l ≡ kind_among g over under l
among_same f g over under l e =
    ap₂ kind_of (any_same (λ z. f z && over z) (λ z. g z && over z) l (λ z i. ap (λ (t : Bool). t && over z) (e z i)))
    (any_same (λ z. f z && rest z) (λ z. g z && rest z) l (λ z i. ap (λ (t : Bool). t && rest z) (e z i)))
  where
    rest : ℕ → Bool
    rest z = not (over z) && not (under z)

-- the defined kind
pub kind_among_lem : (t : Tests ℕ) (x y : ℕ)
    → kind t x y ≡ kind_among (λ z. t.sub z y && t.excludes x z) (t.preferred x) (λ z. t.preferred z x) t.arguments
unfolding kind proper neither attacked
kind_among_lem t x y =
    ap₂ kind_of (any_filter (t.preferred x) (λ z. t.sub z y && t.excludes x z) t.arguments)
    (any_filter (λ z. not (t.preferred x z) && not (t.preferred z x)) (λ z. t.sub z y && t.excludes x z) t.arguments)
