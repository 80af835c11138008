-- The test of one more argument is the definition of a child: what was acceptable stays so exactly if the new argument
-- passes.
use mathlib.Core.Path.{◌≡◌, refl, sym, subst, ◌∙◌}
use mathlib.Core.Bool.{Bool, true, false, not, ◌&&◌, ◌||◌}
use mathlib.Core.List.{List, [], ◌∷◌, Memᴰ}
use mathlib.Core.Logic.{◌↔◌, ◌≢◌}
use Prim.Native.Nat.{ℕ, zero, suc, ◌≤◌}
use native.Mathlib.Omega.{arith}
use lib.Dec.{T, eqb}
use Rattle.lists.specs.Decides.{Decides}
use Rattle.lists.proofs.Lists.{and_both}
use Rattle.lists.proofs.Decides.{decides_not, decides_iff, decides_and, decides_imp, decides_all}
use Rattle.defeat.specs.Frame.{Frame}
use Rattle.defeat.specs.Defeat.{ProperDefeater, BlockingDefeater, Defeater}
use Rattle.defeat.specs.Tests.{Tests, kind}
use Rattle.defeat.proofs.Renders.{Renders, Arguments}
use Rattle.defeat.proofs.Defeat.{proper_renders, blocking_renders}
use Rattle.defeat.proofs.Kind.{kind_bound, kind_one_test, kind_two_test, kind_proper, kind_blocking, kind_defeater}
use Rattle.tree.specs.Line.{reply, ProperAfterBlocking, AcceptableLine}
use Rattle.tree.specs.Marks.{Child}
use Rattle.tree.specs.Reply.{theirs, permit, unused, may_follow, joins, reply_kind, last_kind}
use Rattle.tree.proofs.Line.{sides_within, line_arguments, line_last, acceptable_mine, acceptable_by_sides}

-- ---- what an acceptable line asks of one more argument: the conditions on the shorter line are known

module _ {A : Type 0} (F : Frame A) where
  -- the rule on blocking defeaters
  abbrev Follows : List A → A → Type 0
  Follows [] y = Unit {0}
  Follows (x ∷ []) y = Unit {0}
  Follows (x ∷ w ∷ l) y = BlockingDefeater F x w → ProperDefeater F y x

  follows_intro : (l : List A) (y : A) → Follows l y → ProperAfterBlocking F l → ProperAfterBlocking F (y ∷ l)
  follows_intro [] y f p = tt
  follows_intro (x ∷ []) y f p = tt
  follows_intro (x ∷ w ∷ l) y f p = (f, p)

  follows_found : (l : List A) (y : A) → ProperAfterBlocking F (y ∷ l) → Follows l y
  follows_found [] y p = tt
  follows_found (x ∷ []) y p = tt
  follows_found (x ∷ w ∷ l) y p = p.0

  pub record Joins (l : List A) (y : A) : Type 0 where
    pub none_within : (x : A) → Memᴰ x l → ¬ F.SubArgument y x
    pub follows : Follows l y
    pub side : F.Concordant (y ∷ theirs l)

module _ {A : Type 0} {F : Frame A} {y x : A} {l : List A} where
  pub joins_intro : AcceptableLine F (x ∷ l) → F.Argument y → Defeater F y x → Joins F (x ∷ l) y
      → AcceptableLine F (y ∷ x ∷ l)
  joins_intro a ay d j = acceptable_by_sides
      (reply ay d a.line)
      j.side
      (acceptable_mine a)
      (j.none_within, a.none_within)
      (follows_intro F (x ∷ l) y j.follows a.proper_after)

  pub joins_found : AcceptableLine F (y ∷ x ∷ l) → Joins F (x ∷ l) y
  joins_found b = record {
    none_within = b.none_within.0;
    follows = follows_found F (x ∷ l) y b.proper_after;
    side = acceptable_mine b;
  }

-- ---- the test by the kinds that a tree's nodes have

pub may_follow_kinds : {A : Type 0} (t : Tests A) (x : A) (l : List A) (y : A)
    → may_follow t (x ∷ l) y ≡ not (eqb (last_kind t (x ∷ l)) 2) || eqb (kind t y x) 1
may_follow_kinds t x [] y = refl
may_follow_kinds t x (w ∷ l) y = rw (kind_two_test t x w, kind_one_test t y x)

-- ---- the number of a candidate

permit_passed : (k : ℕ) (b : Bool) → T b → permit k b ≡ k
permit_passed zero b h = refl
permit_passed (suc k) true h = refl
permit_passed (suc k) false h = absurd h

permit_both : (k : ℕ) (b : Bool) → permit k b ≢ 0 → (k ≢ 0) × T b
permit_both zero b n = absurd (n refl)
permit_both (suc k) true n = (n, tt)
permit_both (suc k) false n = absurd (n refl)

permit_bound : (k : ℕ) (b : Bool) → permit k b ≤ k
permit_bound zero b = omega arith
permit_bound (suc k) true = omega arith
permit_bound (suc k) false = omega arith

module _ {A : Type 0} (t : Tests A) where
  pub reply_bound : (l : List A) (y : A) → reply_kind t l y ≤ 2
  unfolding reply_kind
  reply_bound [] y = omega arith
  reply_bound (x ∷ l) y = omega (arith, permit_bound (kind t y x) (joins t (x ∷ l) y), kind_bound t y x)

  -- a child was not used before: this is what ends a line
  pub reply_unused : (l : List A) (y : A) → reply_kind t l y ≢ 0 → T (unused t l y)
  unfolding reply_kind joins
  reply_unused [] y n = absurd (n refl)
  reply_unused (x ∷ l) y n =
      let h = (permit_both (kind t y x) (joins t (x ∷ l) y) n).1 in
      (and_both (unused t (x ∷ l) y) (may_follow t (x ∷ l) y && t.concordant (y ∷ theirs (x ∷ l))) h).0

  -- a child's number is the kind that it has as the last argument of its line
  pub reply_last : (l : List A) (y : A) → reply_kind t l y ≢ 0 → reply_kind t l y ≡ last_kind t (y ∷ l)
  unfolding reply_kind
  reply_last [] y n = absurd (n refl)
  reply_last (x ∷ l) y n =
      permit_passed (kind t y x) (joins t (x ∷ l) y) (permit_both (kind t y x) (joins t (x ∷ l) y) n).1

-- ---- each test of a candidate, for a line of arguments

module _ {A : Type 0} {F : Frame A} {t : Tests A} (R : Renders F t) where
  follows_renders : (l : List A) → Arguments F l → (y : A) → F.Argument y → Decides (may_follow t l y) (Follows F l y)
  follows_renders [] al y ay = record { says = λ h. tt; passes = λ h. tt }
  follows_renders (x ∷ []) al y ay = record { says = λ h. tt; passes = λ h. tt }
  follows_renders (x ∷ w ∷ l) al y ay =
      let ax = al x (Memᴰ.head refl) in
      let aw = al w (Memᴰ.tail (Memᴰ.head refl)) in
      decides_imp (blocking_renders R x w ax aw) (proper_renders R y x ay ax)

  module _ (l : List A) (al : Arguments F l) (y : A) (ay : F.Argument y) where
    unused_renders : Decides (unused t l y) ((x : A) → Memᴰ x l → ¬ F.SubArgument y x)
    unfolding unused
    unused_renders =
        decides_all (λ x. ¬ F.SubArgument y x) (λ x. not (t.sub y x)) l (λ x i. decides_not (R.sub y x ay (al x i)))

    side_renders : Decides (t.concordant (y ∷ theirs l)) (F.Concordant (y ∷ theirs l))
    side_renders = R.concordant (y ∷ theirs l) each
      where
        each : Arguments F (y ∷ theirs l)
        each x (Memᴰ.head e) = subst F.Argument (sym e) ay
        each x (Memᴰ.tail i) = al x ((sides_within l).1 x i)

    pub joins_test : Decides (joins t l y) (Joins F l y)
    unfolding joins
    joins_test = decides_iff
        (λ k. record { none_within = k.0; follows = k.1.0; side = k.1.1 })
        (λ j. (j.none_within, (j.follows, j.side)))
        (decides_and unused_renders (decides_and (follows_renders l al y ay) side_renders))

  -- ---- the candidate y after an acceptable line that ends in x

  module _ {x : A} {l : List A} (a : AcceptableLine F (x ∷ l)) (y : A) (ay : F.Argument y) where
    pub joins_renders : Defeater F y x → Decides (joins t (x ∷ l) y) (AcceptableLine F (y ∷ x ∷ l))
    joins_renders d = decides_iff (joins_intro a ay d) joins_found (joins_test (x ∷ l) (line_arguments a.line) y ay)

    reply_found : reply_kind t (x ∷ l) y ≢ 0 → Child F (x ∷ l) y
    unfolding reply_kind
    reply_found n =
        let k = permit_both (kind t y x) (joins t (x ∷ l) y) n in
        let d = (kind_defeater R y x ay (line_last a.line)).0 k.0 in
        (d, (joins_renders d).says k.1)

    -- a child's number is its kind as a defeater
    pub reply_kind_lem : Child F (x ∷ l) y → reply_kind t (x ∷ l) y ≡ kind t y x
    unfolding reply_kind
    reply_kind_lem c = permit_passed (kind t y x) (joins t (x ∷ l) y) ((joins_renders c.0).passes c.1)

    reply_intro : Child F (x ∷ l) y → reply_kind t (x ∷ l) y ≢ 0
    reply_intro c e = (kind_defeater R y x ay (line_last a.line)).1 c.0 (sym (reply_kind_lem c) ∙ e)

    pub reply_proper : (reply_kind t (x ∷ l) y ≡ 1) ↔ (Child F (x ∷ l) y × ProperDefeater F y x)
    reply_proper =
        let k = kind_proper R y x ay (line_last a.line) in (
          λ e. let c = reply_found (λ z. omega arith) in (c, k.0 (sym (reply_kind_lem c) ∙ e)),
          λ c. reply_kind_lem c.0 ∙ k.1 c.1,
        )

    pub reply_blocking : (reply_kind t (x ∷ l) y ≡ 2) ↔ (Child F (x ∷ l) y × BlockingDefeater F y x)
    reply_blocking =
        let k = kind_blocking R y x ay (line_last a.line) in (
          λ e. let c = reply_found (λ z. omega arith) in (c, k.0 (sym (reply_kind_lem c) ∙ e)),
          λ c. reply_kind_lem c.0 ∙ k.1 c.1,
        )

  -- a listed argument is a child exactly if its number is not 0
  pub reply_child : (l : List A) → AcceptableLine F l → (y : A) → F.Argument y → (reply_kind t l y ≢ 0) ↔ Child F l y
  unfolding reply_kind
  reply_child [] a y ay = (λ n. n refl, λ c. absurd c)
  reply_child (x ∷ l) a y ay = (reply_found a y ay, reply_intro a y ay)
