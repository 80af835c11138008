-- The masks of a side as one, and the tests of a candidate that the closure table and the line answer.
use mathlib.Core.Path.{◌≡◌, refl, sym, ap, ◌∙◌}
use mathlib.Core.Bool.{Bool, true, false, not, ◌&&◌, ◌||◌}
use mathlib.Core.List.{List, [], ◌∷◌, Memᴰ}
use mathlib.Core.Logic.{⊎_elim, ◌≢◌}
use Prim.Native.Nat.{ℕ, zero, suc, ◌^◌, ◌<◌}
use native.Mathlib.Omega.{arith}
use lib.Dec.{eqb}
use borrow.Author.Tests.{eq-eqb, ne_eqb}
use Rattle.lists.specs.Lists.{any, all}
use Rattle.literals.specs.Sets.{has, union}
use Rattle.literals.proofs.Tests.{or_cases}
use Rattle.literals.proofs.Members.{has_empty, has_union, has_bound, members_below}
use Rattle.program.specs.Program.{Rule, Program, Π_mask}
use Rattle.derivation.specs.Closure.{contradictory}
use Rattle.derivation.proofs.Choices.{Π_with_ext}
use Rattle.argument.specs.Argument.{mask_of}
use Rattle.closures.specs.Inside.Table.{tells, Tells}
use Rattle.defeat.specs.Tests.{Tests, kind}
use Rattle.defeat.specs.OfProgram.{in_some, Π_all, tests_of}
use Rattle.tree.specs.Reply.{theirs, permit, unused, may_follow, joins, reply_kind, last_kind}
use Rattle.tree.specs.Inside.Steps.{masks_of}
use Rattle.tree.proofs.Reply.{may_follow_kinds}

-- ---- masks of several arguments

swap_or : (a b : Bool) → (a || b) ≡ (b || a)
swap_or true true = refl
swap_or true false = refl
swap_or false true = refl
swap_or false false = refl

masks_has : (l : List ℕ) (b : ℕ) → has (masks_of l) b ≡ in_some l b
masks_has [] b = has_empty b
masks_has (x ∷ l) b =
    has_union (masks_of l) (mask_of x) b
    ∙ ap (λ (t : Bool). t || has (mask_of x) b) (masks_has l b)
    ∙ swap_or (in_some l b) (has (mask_of x) b)

pub masks_all : (rules : List Rule) (l : List ℕ) → Π_mask (masks_of l) rules ≡ Π_all l rules
masks_all rules l = Π_with_ext rules (has (masks_of l)) (in_some l) (masks_has l)

pub masks_below : (n : ℕ) (l : List ℕ) → ((x : ℕ) → Memᴰ x l → mask_of x < 2 ^ n) → masks_of l < 2 ^ n
masks_below n [] h = members_below n 0 (λ b e. absurd (nothing (sym (has_empty b) ∙ e)))
  where
    nothing : false ≡ true → ⊥
    nothing e = let z : ◌≡◌ {A = ℕ} 0 1 = cc in omega arith
masks_below n (x ∷ l) h = members_below n (union (masks_of l) (mask_of x)) (λ b e.
    ⊎_elim (has_bound (masks_of l) n b (masks_below n l (λ y i. h y (Memᴰ.tail i))))
    (has_bound (mask_of x) n b (h x (Memᴰ.head refl)))
    (or_cases (has (masks_of l) b) (has (mask_of x) b) (sym (has_union (masks_of l) (mask_of x) b) ∙ e)))

-- ---- the table of rows says whether a side is concordant

pub side_concordant : (p : Program) (preferred : ℕ → ℕ → Bool) (rows l : List ℕ) → Tells p.rules rows
    → (tests_of p preferred).concordant l ≡ not (tells rows 128 (masks_of l))
unfolding tests_of
side_concordant p preferred rows l told =
    ap (λ (r : List Rule). not (contradictory r)) (sym (masks_all p.rules l)) ∙ ap not (sym (told.clashing (masks_of l)))

-- ---- a candidate's number from the tests, in the order in which they are made

not_any : (test : ℕ → Bool) (l : List ℕ) → all (λ x. not (test x)) l ≡ not (any test l)
not_any test [] = refl
not_any test (x ∷ l) = go (test x) (not_any test l)
  where
    go : (b : Bool) → all (λ x. not (test x)) l ≡ not (any test l) → (not b && all (λ x. not (test x)) l) ≡ not (b || any test l)
    go true e = refl
    go false e = e

permit_none : (k : ℕ) → permit k false ≡ 0
permit_none zero = refl
permit_none (suc k) = refl

permit_some : (k : ℕ) → permit k true ≡ k
permit_some zero = refl
permit_some (suc k) = refl

-- the rule on blocking defeaters, by the kind of the last argument
module _ (last k : ℕ) where
  pub follow_any : last ≢ 2 → permit k (not (eqb last 2) || eqb k 1) ≡ k
  follow_any n = rw (ne_eqb last 2 n) (permit_some k)

  pub follow_proper : last ≡ 2 → k ≡ 1 → permit k (not (eqb last 2) || eqb k 1) ≡ 1
  follow_proper e p = rw (eq-eqb last 2 e, p)

  pub follow_none : last ≡ 2 → k ≢ 1 → permit k (not (eqb last 2) || eqb k 1) ≡ 0
  follow_none e n = rw (eq-eqb last 2 e, ne_eqb k 1 n) (permit_none k)

module _ (t : Tests ℕ) (x y : ℕ) (l : List ℕ) where
  abbrev used : Bool
  used = any (λ z. t.sub y z) (x ∷ l)

  and_false : (a : Bool) → (a && false) ≡ false
  and_false true = refl
  and_false false = refl

  pub reply_apart : kind t y x ≡ 0 → reply_kind t (x ∷ l) y ≡ 0
  unfolding reply_kind
  reply_apart e = ap (λ (k : ℕ). permit k (joins t (x ∷ l) y)) e

  pub reply_discordant : t.concordant (y ∷ theirs (x ∷ l)) ≡ false → reply_kind t (x ∷ l) y ≡ 0
  unfolding reply_kind joins
  reply_discordant e = rw (e, and_false, and_false) (permit_none (kind t y x))

  pub reply_used : used ≡ true → reply_kind t (x ∷ l) y ≡ 0
  unfolding reply_kind joins unused
  reply_used e = rw (not_any (λ z. t.sub y z) (x ∷ l), e) (permit_none (kind t y x))

  and_true : (a : Bool) → (a && true) ≡ a
  and_true true = refl
  and_true false = refl

  joins_free : t.concordant (y ∷ theirs (x ∷ l)) ≡ true → used ≡ false → joins t (x ∷ l) y ≡ may_follow t (x ∷ l) y
  unfolding joins unused
  joins_free c u = rw (not_any (λ z. t.sub y z) (x ∷ l), u, c) (and_true (may_follow t (x ∷ l) y))

  pub reply_free : t.concordant (y ∷ theirs (x ∷ l)) ≡ true → used ≡ false
      → reply_kind t (x ∷ l) y ≡ permit (kind t y x) (not (eqb (last_kind t (x ∷ l)) 2) || eqb (kind t y x) 1)
  unfolding reply_kind
  reply_free c u = ap (permit (kind t y x)) (joins_free c u ∙ may_follow_kinds t x l y)
