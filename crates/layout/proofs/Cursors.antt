-- What a cursor's step says of the image, for each of its answers.
use mathlib.Core.Path.{◌≡◌, refl, sym, ap, ◌∙◌}
use mathlib.Core.Bool.{Bool, true, false, ◌&&◌, false≢true}
use mathlib.Core.List.{List}
use Rattle.std.specs.Prelude.{Option, None, Some}
use Prim.Native.Nat.{ℕ, ◌+◌, ◌*◌, ◌<◌, ◌≤◌}
use native.Mathlib.Omega.{arith}
use lib.ListN.{length, get_or}
use lib.Dec.{leb, eqb}
use borrow.Author.Tests.{le-leb, lt-leb, leb-true, leb-false, eq-eqb, eqb-true}
use Rattle.lists.specs.Lists.{choose}
use Rattle.literals.proofs.Tests.{and_intro, and_left, and_right, not_true_false}
use Rattle.layout.specs.declared.cursor.Cursor.{Cursor}
use Rattle.layout.specs.Layout.{number_at}
use Rattle.layout.specs.Inside.Steps.{cursor_at, byte_from, pair_from, number_from, numbers_from, follow_from}

-- ---- a test that lets a value through, or none
module _ {A : Type 0} (v : A) where
  passed : (b : Bool) → b ≡ true → Some v ≡ choose b (Some v) None
  passed b e = rw e refl

  failed : (b : Bool) → b ≡ false → None ≡ choose b (Some v) None
  failed b e = rw e refl

  -- and back: what an answer tells
  not_passed : (b : Bool) → choose b (Some v) None ≡ None → b ≡ false
  not_passed true e = cc
  not_passed false e = refl

  has_passed : (b : Bool) (w : A) → choose b (Some v) None ≡ Some w → (b ≡ true) × (v ≡ w)
  has_passed true w e = (refl, cc)
  has_passed false w e = cc

-- ---- a step that reads so many bytes, whatever it makes of them
module _ {A : Type 0} (read : A) (s : List ℕ) (at width : ℕ) where
  abbrev step : Option A
  step = choose (leb (at + width) (length s)) (Some read) None

  step_past : length s < at + width → None ≡ step
  step_past h = failed read _ (lt-leb (at + width) (length s) h)

  step_read : at + width ≤ length s → Some read ≡ step
  step_read h = passed read _ (le-leb (at + width) (length s) h)

  step_ended : step ≡ None → length s < at + width
  step_ended e = leb-false _ _ (not_passed read _ e)

  step_is : (v : A) → step ≡ Some v → (at + width ≤ length s) × (read ≡ v)
  step_is v e = let h = has_passed read _ v e in (leb-true _ _ h.0, h.1)

-- ---- a byte
module _ (s : List ℕ) (at : ℕ) where
  pub byte_past : length s ≤ at → None ≡ byte_from s at
  unfolding byte_from
  byte_past h = step_past _ s at 1 (omega arith)

  pub byte_read : at < length s → Some (get_or s at 0, cursor_at (at + 1)) ≡ byte_from s at
  unfolding byte_from
  byte_read h = step_read _ s at 1 (omega arith)

  pub byte_ended : byte_from s at ≡ None → length s ≤ at
  unfolding byte_from
  byte_ended e = let h = step_ended (get_or s at 0, cursor_at (at + 1)) s at 1 e in omega arith

  pub record Byte-is (v : ℕ) (c : Cursor) : Type 0 where
    pub room : at < length s
    pub value : v ≡ get_or s at 0
    pub next : c.at ≡ at + 1

  pub byte_is : (v : ℕ) (c : Cursor) → byte_from s at ≡ Some (v, c) → Byte-is v c
  unfolding byte_from
  byte_is v c e =
      let r = step_is (get_or s at 0, cursor_at (at + 1)) s at 1 (v, c) e in
      let h = r.0 in
      record { room = omega arith; value = sym (ap (λ (p : ℕ × Cursor). p.0) r.1); next = sym (ap (λ (p : ℕ × Cursor). p.1.at) r.1) }

-- ---- two bytes
module _ (s : List ℕ) (at : ℕ) where
  pub pair_past : length s < at + 2 → None ≡ pair_from s at
  unfolding pair_from
  pair_past = step_past _ s at 2

  pub pair_read : (first second : ℕ) (middle next : Cursor) → Byte-is s at first middle → Byte-is s middle.at second next → Some (first, second, next) ≡ pair_from s at
  unfolding pair_from
  pair_read first second middle next a b =
      let m = a.next in
      let z : second ≡ get_or s (at + 1) 0 = b.value ∙ ap (λ (n : ℕ). get_or s n 0) m in
      let n : next.at ≡ at + 2 = omega arith in
      let q : next ≡ cursor_at (at + 2) = ap cursor_at n in
      rw (a.value, z, q) (step_read _ s at 2 (omega arith))

  pub pair_ended : pair_from s at ≡ None → length s < at + 2
  unfolding pair_from
  pair_ended e = step_ended (get_or s at 0, get_or s (at + 1) 0, cursor_at (at + 2)) s at 2 e

  pub record Pair-is (first second : ℕ) (c : Cursor) : Type 0 where
    pub room : at + 2 ≤ length s
    pub first_is : first ≡ get_or s at 0
    pub second_is : second ≡ get_or s (at + 1) 0
    pub next : c.at ≡ at + 2

  pub pair_is : (first second : ℕ) (c : Cursor) → pair_from s at ≡ Some (first, second, c) → Pair-is first second c
  unfolding pair_from
  pair_is first second c e =
      let r = step_is (get_or s at 0, get_or s (at + 1) 0, cursor_at (at + 2)) s at 2 (first, second, c) e in
      let q = sym r.1 in
      record {
        room = r.0;
        first_is = ap (λ (p : ℕ × ℕ × Cursor). p.0) q;
        second_is = ap (λ (p : ℕ × ℕ × Cursor). p.1) q;
        next = ap (λ (p : ℕ × ℕ × Cursor). p.2.at) q;
      }

-- ---- a number
module _ (s : List ℕ) (at : ℕ) where
  pub number_joined : (low high : ℕ) → low ≡ get_or s at 0 → high ≡ get_or s (at + 1) 0 → low + 256 * high ≡ number_at s at
  unfolding number_at
  number_joined low high l g = rw (l, g) refl

  pub number_past : length s < at + 2 → None ≡ number_from s at
  unfolding number_from
  number_past = step_past _ s at 2

  pub number_read : (v : ℕ) (c : Cursor) → at + 2 ≤ length s → v ≡ number_at s at → c.at ≡ at + 2 → Some (v, c) ≡ number_from s at
  unfolding number_from
  number_read v c h e n = let q : c ≡ cursor_at (at + 2) = ap cursor_at n in rw (e, q) (step_read _ s at 2 h)

  pub number_ended : number_from s at ≡ None → length s < at + 2
  unfolding number_from
  number_ended e = step_ended (number_at s at, cursor_at (at + 2)) s at 2 e

  pub record Number-is (v : ℕ) (c : Cursor) : Type 0 where
    pub room : at + 2 ≤ length s
    pub value : v ≡ number_at s at
    pub next : c.at ≡ at + 2

  pub number_is : (v : ℕ) (c : Cursor) → number_from s at ≡ Some (v, c) → Number-is v c
  unfolding number_from
  number_is v c e =
      let r = step_is (number_at s at, cursor_at (at + 2)) s at 2 (v, c) e in
      record { room = r.0; value = sym (ap (λ (p : ℕ × Cursor). p.0) r.1); next = sym (ap (λ (p : ℕ × Cursor). p.1.at) r.1) }

-- ---- two numbers
module _ (s : List ℕ) (at : ℕ) where
  pub numbers_past : length s < at + 4 → None ≡ numbers_from s at
  unfolding numbers_from
  numbers_past = step_past _ s at 4

  pub numbers_read : (first second : ℕ) (middle next : Cursor) → Number-is s at first middle → Number-is s middle.at second next → Some (first, second, next) ≡ numbers_from s at
  unfolding numbers_from
  numbers_read first second middle next a b =
      let m = a.next in
      let z : second ≡ number_at s (at + 2) = b.value ∙ ap (number_at s) m in
      let n : next.at ≡ at + 4 = omega arith in
      let q : next ≡ cursor_at (at + 4) = ap cursor_at n in
      rw (a.value, z, q) (step_read _ s at 4 (omega arith))

  pub numbers_ended : numbers_from s at ≡ None → length s < at + 4
  unfolding numbers_from
  numbers_ended e = step_ended (number_at s at, number_at s (at + 2), cursor_at (at + 4)) s at 4 e

  pub record Numbers-is (first second : ℕ) (c : Cursor) : Type 0 where
    pub room : at + 4 ≤ length s
    pub first_is : first ≡ number_at s at
    pub second_is : second ≡ number_at s (at + 2)
    pub next : c.at ≡ at + 4

  pub numbers_is : (first second : ℕ) (c : Cursor) → numbers_from s at ≡ Some (first, second, c) → Numbers-is first second c
  unfolding numbers_from
  numbers_is first second c e =
      let r = step_is (number_at s at, number_at s (at + 2), cursor_at (at + 4)) s at 4 (first, second, c) e in
      let q = sym r.1 in
      record {
        room = r.0;
        first_is = ap (λ (p : ℕ × ℕ × Cursor). p.0) q;
        second_is = ap (λ (p : ℕ × ℕ × Cursor). p.1) q;
        next = ap (λ (p : ℕ × ℕ × Cursor). p.2.at) q;
      }

-- ---- the end of the part that an entry names
module _ (s : List ℕ) (at ends : ℕ) where
  -- the entry's part begins there and lies within the image
  pub record Follows : Type 0 where
    pub room : at + 4 ≤ length s
    pub begins : number_at s at ≡ ends
    pub inside : ends + number_at s (at + 2) ≤ length s

  abbrev follows : Bool
  follows = leb (at + 4) (length s) && (eqb (number_at s at) ends && leb (ends + number_at s (at + 2)) (length s))

  follows_says : follows ≡ true → Follows
  follows_says e =
      let more = and_right (leb (at + 4) (length s)) _ e in
      record {
        room = leb-true _ _ (and_left (leb (at + 4) (length s)) _ e);
        begins = eqb-true _ _ (and_left (eqb (number_at s at) ends) _ more);
        inside = leb-true _ _ (and_right (eqb (number_at s at) ends) _ more);
      }

  says_follows : Follows → follows ≡ true
  says_follows f = and_intro _ _ (le-leb _ _ f.room) (and_intro _ _ (eq-eqb _ _ f.begins) (le-leb _ _ f.inside))

  abbrev the_end : ℕ × Cursor
  the_end = (ends + number_at s (at + 2), cursor_at (at + 4))

  pub follow_broken : (Follows → ⊥) → None ≡ follow_from s at ends
  unfolding follow_from
  follow_broken n = failed the_end follows (not_true_false follows (λ e. n (follows_says e)))

  pub follow_read : (to : ℕ) (next : Cursor) → Follows → to ≡ ends + number_at s (at + 2) → next.at ≡ at + 4 → Some (to, next) ≡ follow_from s at ends
  unfolding follow_from
  follow_read to next f t n = let q : next ≡ cursor_at (at + 4) = ap cursor_at n in rw (t, q) (passed the_end follows (says_follows f))

  -- and back: what an answer tells
  pub broken_is : follow_from s at ends ≡ None → Follows → ⊥
  unfolding follow_from
  broken_is e f = false≢true (sym (not_passed the_end follows e) ∙ says_follows f)

  pub record Follow-is (to : ℕ) (c : Cursor) : Type 0 where
    pub follows_so : Follows
    pub to_is : to ≡ ends + number_at s (at + 2)
    pub next : c.at ≡ at + 4

  pub follow_is : (to : ℕ) (c : Cursor) → follow_from s at ends ≡ Some (to, c) → Follow-is to c
  unfolding follow_from
  follow_is to c e =
      let r = has_passed the_end follows (to, c) e in
      record { follows_so = follows_says r.0; to_is = sym (ap (λ (p : ℕ × Cursor). p.0) r.1); next = sym (ap (λ (p : ℕ × Cursor). p.1.at) r.1) }
