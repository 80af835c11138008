-- Rows read against each other: what crosses by an atom, what has both of an atom, and what touches a body.
use mathlib.Core.Path.{◌≡◌, refl, sym, ap, ap₂, ◌∙◌, subst}
use mathlib.Core.Bool.{Bool, true, false, not, ◌&&◌, ◌||◌, false≢true}
use mathlib.Core.List.{List}
use mathlib.Core.Logic.{◌⊎◌, inl, inr, ⊎_elim}
use Prim.Native.Nat.{ℕ, ◌+◌, ◌*◌, ◌^◌, ◌<◌, ◌≤◌}
use native.Mathlib.Nat.{eq-or-lt_of_le}
use native.Mathlib.Decide.{ℕ_discrete}
use native.Mathlib.Omega.{arith}
use lib.Dec.{eqb}
use lib.ListN.{length, get_or, set}
use lib.Seq.{get_or-set_same, get_or-set_other}
use borrow.Author.Tests.{ne_eqb, eqb-true}
use Rattle.literals.specs.Sets.{has, minus, union, meets, LowestBelow}
use Rattle.literals.specs.Inside.Words.{joined}
use Rattle.literals.proofs.Tests.{and_intro, and_left, and_right, or_left, or_right, or_cases}
use Rattle.literals.proofs.Members.{has_empty, has_bound, has_cases, has_minus, has_minus_power, has_union}
use Rattle.literals.proofs.Within.{both_meets}
use Rattle.program.specs.Inside.Table.{head_at, body_at, rule_count}
use Rattle.excluded.specs.Inside.Exclusions.{excluded_by}
use Rattle.excluded.specs.Inside.Rows.{reaches, Read, Added}
use Rattle.excluded.specs.Inside.Joint.{crosses, CrossAt, Crossed, Coherent, Spread, Unspread, Touches, PairAt, Pairs}

-- what neither test has
pub neither : (a b : Bool) → (a || b) ≡ false → (a ≡ false) × (b ≡ false)
neither true b e = absurd (false≢true (sym e))
neither false b e = (refl, e)

-- ---- an atom after the other
crossed_none : (c e : List ℕ) → ((n : ℕ) → get_or e n 0 ≡ 0) → Crossed c 0 e
crossed_none c e zeros = record {
  found = λ a b small h.
      absurd (false≢true (sym (has_empty b) ∙ ap (λ (z : ℕ). has z b) (sym (ap₂ joined (zeros (2 * a + 1)) (zeros (2 * a)))) ∙ h));
  each = λ a b k small fits l. absurd (omega arith);
}

module _ (c : List ℕ) (k p q : ℕ) (first : Read c (2 * k) p) (second : Read c (2 * k + 1) q) where
  -- the two rows, where a and b cross
  rows_cross : (a b : ℕ) → a < 128 → b < 128 → crosses c k a b ≡ true → ((has p a && has q b) || (has q a && has p b)) ≡ true
  rows_cross a b small fits h = rw (first.bits a small, second.bits b fits, second.bits a small, first.bits b fits) h

  cross_rows : (a b : ℕ) → a < 128 → b < 128 → ((has p a && has q b) || (has q a && has p b)) ≡ true → crosses c k a b ≡ true
  cross_rows a b small fits h = rw (sym (first.bits a small), sym (second.bits b fits), sym (second.bits a small), sym (first.bits b fits)) h

  at_first : (n a b : ℕ) → CrossAt c n a b → CrossAt c (n + 1) a b
  at_first n a b w = record { atom = w.atom; below = omega (arith, w.below); small = w.small; at = w.at }

  module _ (e : List ℕ) (before : Crossed c k e) where
    -- an atom of which one literal has no row
    crossed_skip : (eqb p 0 || eqb q 0) ≡ true → Crossed c (k + 1) e
    crossed_skip none = record {
      found = λ a b small h. at_first k a b (before.found a b small h);
      each = λ a b j small fits l h.
          ⊎_elim (λ z. absurd (nothing a b (rows_cross a b small fits (subst (λ (n : ℕ). crosses c n a b ≡ true) z h))))
          (λ z. before.each a b j small fits z h) (eq-or-lt_of_le {n = j} {m = k} (omega arith));
    }
      where
        lacks : (s x : ℕ) → eqb s 0 ≡ true → has s x ≡ true → ⊥
        lacks s x z h = false≢true (sym (has_empty x) ∙ ap (λ (y : ℕ). has y x) (sym (eqb-true s 0 z)) ∙ h)

        nothing : (a b : ℕ) → ((has p a && has q b) || (has q a && has p b)) ≡ true → ⊥
        nothing a b h =
            ⊎_elim
            (λ z.
            ⊎_elim (λ w. lacks p a z (and_left (has p a) (has q b) w)) (λ w. lacks p b z (and_right (has q a) (has p b) w))
            (or_cases (has p a && has q b) (has q a && has p b) h))
            (λ z.
            ⊎_elim (λ w. lacks q b z (and_right (has p a) (has q b) w)) (λ w. lacks q a z (and_left (has q a) (has p b) w))
            (or_cases (has p a && has q b) (has q a && has p b) h))
            (or_cases (eqb p 0) (eqb q 0) none)

    crossed_more : (f g : List ℕ) → Added p q e f → Added q p f g → Crossed c (k + 1) g
    crossed_more f g one two = record {
      found = λ a b small h.
          ⊎_elim
          (λ z.
          ⊎_elim (λ y. at_first k a b (before.found a b small y))
          (λ y.
          new a b small (has_bound q 128 b second.below (and_right (has p a) (has q b) y))
          (or_left (has p a && has q b) (has q a && has p b) y))
          (or_cases (has (excluded_by e a) b) (has p a && has q b) (sym (one a b small) ∙ z)))
          (λ z.
          new a b small (has_bound p 128 b first.below (and_right (has q a) (has p b) z))
          (or_right (has p a && has q b) (has q a && has p b) z))
          (or_cases (has (excluded_by f a) b) (has q a && has p b) (sym (two a b small) ∙ h));
      each = λ a b j small fits l h.
          ⊎_elim (λ z. here a b small (rows_cross a b small fits (subst (λ (n : ℕ). crosses c n a b ≡ true) z h)))
          (λ z. later a b small (earlier a b small (before.each a b j small fits z h))) (eq-or-lt_of_le {n = j} {m = k} (omega arith));
    }
      where
        new : (a b : ℕ) → a < 128 → b < 128 → ((has p a && has q b) || (has q a && has p b)) ≡ true → CrossAt c (k + 1) a b
        new a b small fits h = record { atom = k; below = omega arith; small = fits; at = cross_rows a b small fits h }

        earlier : (a b : ℕ) → a < 128 → has (excluded_by e a) b ≡ true → has (excluded_by f a) b ≡ true
        earlier a b small h = one a b small ∙ or_left (has (excluded_by e a) b) (has p a && has q b) h

        later : (a b : ℕ) → a < 128 → has (excluded_by f a) b ≡ true → has (excluded_by g a) b ≡ true
        later a b small h = two a b small ∙ or_left (has (excluded_by f a) b) (has q a && has p b) h

        here : (a b : ℕ) → a < 128 → ((has p a && has q b) || (has q a && has p b)) ≡ true → has (excluded_by g a) b ≡ true
        here a b small h =
            ⊎_elim (λ z. later a b small (one a b small ∙ or_right (has (excluded_by e a) b) (has p a && has q b) z))
            (λ z. two a b small ∙ or_right (has (excluded_by f a) b) (has q a && has p b) z)
            (or_cases (has p a && has q b) (has q a && has p b) h)

  -- no literal has both rows
  coherent_more : Coherent c k → meets p q ≡ false → Coherent c (k + 1)
  coherent_more before apart j a l small h i =
      ⊎_elim
      (λ z.
      false≢true
      (sym apart
      ∙ both_meets p q a (first.bits a small ∙ subst (λ (n : ℕ). reaches c (2 * n) a ≡ true) z h)
      (second.bits a small ∙ subst (λ (n : ℕ). reaches c (2 * n + 1) a ≡ true) z i)))
      (λ z. before j a z small h i) (eq-or-lt_of_le {n = j} {m = k} (omega arith))

  coherent_skip : Coherent c k → (eqb p 0 || eqb q 0) ≡ true → Coherent c (k + 1)
  coherent_skip before none j a l small h i =
      ⊎_elim
      (λ z.
      ⊎_elim
      (λ y. lacks p a y (first.bits a small ∙ subst (λ (n : ℕ). reaches c (2 * n) a ≡ true) z h))
      (λ y. lacks q a y (second.bits a small ∙ subst (λ (n : ℕ). reaches c (2 * n + 1) a ≡ true) z i))
      (or_cases (eqb p 0) (eqb q 0) none))
      (λ z. before j a z small h i) (eq-or-lt_of_le {n = j} {m = k} (omega arith))
    where
      lacks : (s x : ℕ) → eqb s 0 ≡ true → has s x ≡ true → ⊥
      lacks s x z m = false≢true (sym (has_empty x) ∙ ap (λ (y : ℕ). has y x) (sym (eqb-true s 0 z)) ∙ m)

  -- those that have both
  pub pairs_more : (s m n t : ℕ) → m ≡ minus p q → n ≡ minus p m → t ≡ union s n → Pairs c k s → Pairs c (k + 1) t
  pairs_more s m n t em en et before = record {
    found = λ b h.
        ⊎_elim (λ z. let w = before.found b z in record {
          atom = w.atom;
          below = omega (arith, w.below);
          small = w.small;
          positive = w.positive;
          negative = w.negative;
        })
        (λ z. new b (both (has p b) (has q b) (sym (parts b) ∙ z))) (or_cases (has s b) (has n b) (sym (has_union s n b) ∙ ap (λ (y : ℕ). has y b) (sym et) ∙ h));
    each = λ b j small l h i.
        ap (λ (y : ℕ). has y b) et ∙ has_union s n b
        ∙ ⊎_elim
        (λ z.
        or_right (has s b) (has n b)
        (parts b
        ∙ whole (has p b) (has q b) (first.bits b small ∙ subst (λ (n : ℕ). reaches c (2 * n) b ≡ true) z h)
        (second.bits b small ∙ subst (λ (n : ℕ). reaches c (2 * n + 1) b ≡ true) z i)))
        (λ z. or_left (has s b) (has n b) (before.each b j small z h i)) (eq-or-lt_of_le {n = j} {m = k} (omega arith));
  }
    where
      parts : (b : ℕ) → has n b ≡ (has p b && not (has p b && not (has q b)))
      parts b =
          ap (λ (y : ℕ). has y b) en ∙ has_minus p m b
          ∙ ap (λ (y : Bool). has p b && not y) (ap (λ (y : ℕ). has y b) em ∙ has_minus p q b)

      both : (x y : Bool) → (x && not (x && not y)) ≡ true → (x ≡ true) × (y ≡ true)
      both true true e = (refl, refl)
      both true false e = absurd (false≢true e)
      both false y e = absurd (false≢true e)

      whole : (x y : Bool) → x ≡ true → y ≡ true → (x && not (x && not y)) ≡ true
      whole true true e f = refl
      whole true false e f = absurd (false≢true f)
      whole false y e f = absurd (false≢true e)

      new : (b : ℕ) → (has p b ≡ true) × (has q b ≡ true) → PairAt c (k + 1) b
      new b (h, i) =
          let small = has_bound p 128 b first.below h in
          record { atom = k; below = omega arith; small = small; positive = sym (first.bits b small) ∙ h; negative = sym (second.bits b small) ∙ i }

pub pairs_none : (c : List ℕ) (s : ℕ) → s ≡ 0 → Pairs c 0 s
pairs_none c s e = record {
  found = λ b h. absurd (false≢true (sym (has_empty b) ∙ ap (λ (z : ℕ). has z b) (sym e) ∙ h));
  each = λ b k small l. absurd (omega arith);
}

-- what the loop over the atoms keeps
pub record Crossing (c after : List ℕ) (n : ℕ) (clashes : Bool) : Type 0 where
  pub crossed : Crossed c n after
  pub coherent : clashes ≡ false → Coherent c n

pub crossing_none : (c e : List ℕ) → ((n : ℕ) → get_or e n 0 ≡ 0) → Crossing c e 0 false
crossing_none c e zeros = record {
  crossed = crossed_none c e zeros;
  coherent = λ z k a l. absurd (omega arith);
}

module _ (c e : List ℕ) (k p q : ℕ) (clashes : Bool) (first : Read c (2 * k) p) (second : Read c (2 * k + 1) q)
    (so : Crossing c e k clashes) where
  pub crossing_skip : (x y : Bool) → x ≡ eqb p 0 → y ≡ eqb q 0 → (x || y) ≡ true → Crossing c e (k + 1) clashes
  crossing_skip x y ex ey none =
      let empty : (eqb p 0 || eqb q 0) ≡ true = rw (sym ex, sym ey) none in
      record {
        crossed = crossed_skip c k p q first second e so.crossed empty;
        coherent = λ z. coherent_skip c k p q first second (so.coherent z) empty;
      }

  pub crossing_more : (f g : List ℕ) (m : Bool) → m ≡ meets p q → Added p q e f → Added q p f g → Crossing c g (k + 1) (clashes || m)
  crossing_more f g m em one two = record {
    crossed = crossed_more c k p q first second e so.crossed f g one two;
    coherent = λ z.
        let parts = neither clashes m z in
        coherent_more c k p q first second (so.coherent parts.0) (sym em ∙ parts.1);
  }

-- ---- what touches a body
-- all that derive a literal of s are found, but for those of literals that are left
abbrev pub Touching : List ℕ → ℕ → ℕ → ℕ → Type 0
Touching c s left r = (l a : ℕ) → has s l ≡ true → a < 128 → reaches c l a ≡ true → (has left l ≡ true) ⊎ (has r a ≡ true)

pub touching_more : (c : List ℕ) (s left b next r t n : ℕ) → LowestBelow 128 left b × (next ≡ minus left (2 ^ b)) → Read c b t → n ≡ union r t
    → Touching c s left r → Touching c s next n
touching_more c s left b next r t n (lowest, en) read er so l a m small h = rw (en, er) (go (ℕ_discrete l b) (so l a m small h))
  where
    go : Dec (l ≡ b) → (has left l ≡ true) ⊎ (has r a ≡ true) → (has (minus left (2 ^ b)) l ≡ true) ⊎ (has (union r t) a ≡ true)
    go (yes z) w =
        inr (has_union r t a ∙ or_right (has r a) (has t a) (read.bits a small ∙ subst (λ (k : ℕ). reaches c k a ≡ true) z h))
    go (no z) (inl w) = inl (has_minus_power left b l ∙ and_intro (has left l) (not (eqb l b)) w (ap not (ne_eqb l b z)))
    go (no z) (inr w) = inr (has_union r t a ∙ or_left (has r a) (has t a) w)

pub touching_all : (c : List ℕ) (s left r : ℕ) → left ≡ 0 → Touching c s left r → Touches c s r
touching_all c s left r e so l a m small h =
    ⊎_elim (λ w. absurd (false≢true (sym (has_empty l) ∙ ap (λ (z : ℕ). has z l) (sym e) ∙ w))) (λ w. w) (so l a m small h)

-- those that touch the body of rule i and do not have its head
pub spread_law : (t c : List ℕ) (i s z h k r : ℕ) → s ≡ body_at t i → Touches c s z
    → h ≡ head_at t i → Read c h k → r ≡ minus z k → (a : ℕ) → a < 128 → has r a ≡ false → Spread t c i a
spread_law t c i s z h k r body_is touches eh read er a small out solid x below listed on body = go (has_cases z a)
  where
    touched : (l : ℕ) → has (body_at t i) l ≡ true → reaches c l a ≡ true → has z a ≡ true
    touched l m w = touches l a (ap (λ (j : ℕ). has j l) body_is ∙ m) small w

    known : (b d : Bool) → (b && not d) ≡ false → b ≡ true → d ≡ true
    known true true q m = refl
    known true false q m = absurd (false≢true (sym q))
    known false d q m = absurd (false≢true m)

    go : (has z a ≡ true) ⊎ (has z a ≡ false) → (reaches c (head_at t i) a || reaches c (head_at t i) x) ≡ true
    go (inl m) =
        or_left (reaches c (head_at t i) a) (reaches c (head_at t i) x)
        (ap (λ (j : ℕ). reaches c j a) (sym eh) ∙ sym (read.bits a small)
        ∙ known (has z a) (has k a) (sym (has_minus z k a) ∙ ap (λ (s : ℕ). has s a) (sym er) ∙ out) m)
    go (inr n) =
        or_right (reaches c (head_at t i) a) (reaches c (head_at t i) x)
        (solid x below i listed on (λ l m.
        ⊎_elim (λ w. absurd (false≢true (sym n ∙ touched l m w))) (λ w. w) (or_cases (reaches c l a) (reaches c l x) (body l m))))

-- rule after rule
abbrev pub SpreadTo : List ℕ → List ℕ → ℕ → ℕ → Type 0
SpreadTo t c n s = (a : ℕ) → a < 128 → has s a ≡ false → (i : ℕ) → i < n → Spread t c i a

pub spread_none : (t c : List ℕ) (s : ℕ) → SpreadTo t c 0 s
spread_none t c s a small out i l = absurd (omega arith)

pub spread_more : (t c : List ℕ) (n s r f : ℕ) → f ≡ union s r → SpreadTo t c n s → ((a : ℕ) → a < 128 → has r a ≡ false → Spread t c n a)
    → SpreadTo t c (n + 1) f
spread_more t c n s r f ef before here a small out i l =
    let parts = neither (has s a) (has r a) (sym (has_union s r a) ∙ ap (λ (z : ℕ). has z a) (sym ef) ∙ out) in
    ⊎_elim (λ z. subst (λ (j : ℕ). Spread t c j a) (sym z) (here a small parts.1)) (λ z. before a small parts.0 i z)
    (eq-or-lt_of_le {n = i} {m = n} (omega arith))

pub spread_all : (t c : List ℕ) (n s : ℕ) → rule_count t ≤ n → SpreadTo t c n s → (a : ℕ) → a < 128 → has s a ≡ false → Unspread t c a
spread_all t c n s l before a small out solid x below i listed on body =
    before a small out i (let z : i < n = omega arith in z) solid x below listed on body

-- doubles stored
pub doubles_more : (d : List ℕ) (n : ℕ) → n < length d → ((k : ℕ) → k < n → get_or d k 0 ≡ 2 * k) → (k : ℕ) → k < n + 1 → get_or (set d n (2 * n)) k 0 ≡ 2 * k
doubles_more d n small so k l =
    ⊎_elim (λ z. subst (λ (j : ℕ). get_or (set d n (2 * n)) j 0 ≡ 2 * j) (sym z) (get_or-set_same d n (2 * n) 0 small))
    (λ z. get_or-set_other d n k (2 * n) 0 (λ e. omega arith) ∙ so k z) (eq-or-lt_of_le {n = k} {m = n} (omega arith))
