-- What a rule makes of one word of its head's row, and what rules make of the rows one after the other.
use mathlib.Core.Path.{◌≡◌, refl, sym, ap, ◌∙◌, subst}
use mathlib.Core.Bool.{Bool, true, false, ◌&&◌, ◌||◌, false≢true}
use mathlib.Core.List.{List}
use mathlib.Core.Logic.{◌⊎◌, inl, inr, ⊎_elim}
use Prim.Native.Nat.{ℕ, ◌+◌, ◌*◌, ◌/◌, ◌^◌, ◌<◌, ◌≤◌}
use native.Mathlib.Nat.{le_trans, lt_of_lt_of_le, lt_of_le_of_lt}
use native.Mathlib.Decide.{ℕ_discrete, dec_lt}
use native.Mathlib.Omega.{arith}
use lib.Bits.{bit_and, and_le_r}
use lib.ListN.{length, get_or, set, length-set}
use lib.Seq.{get_or-set_same, get_or-set_other}
use borrow.Author.Tests.{eqb-true}
use Rattle.literals.specs.Sets.{has, union, within}
use Rattle.literals.proofs.Tests.{and_left, or_right, or_cases, not_true_false}
use Rattle.literals.proofs.Members.{has_union}
use Rattle.literals.proofs.Within.{within_each, within_refl, within_trans, within_le, within_union_left, within_union_right}
use Rattle.program.specs.Inside.Table.{head_at, body_at, need_at, rule_count}
use Rattle.rows.specs.Switched.{Named, ClosedIn}
use Rattle.rows.specs.Layout.{word_of, HeadWord, Placed, Bearing}
use Rattle.rows.specs.Steps.{Met, BodyAt, Ready, Idle, SoundAt, Readable, Decoded, Fires, OneWord, Above, Rounds}
use Rattle.rows.proofs.Patterns.{need_word, mask_more}
use Rattle.rows.specs.Span.{Greatest}
use Rattle.rows.proofs.Meets.{ready_met}
use Rattle.rows.proofs.Words.{slack_set, union_more}
use Rattle.rows.proofs.Views.{view_cut, cut_within_left}

-- the literals of rule j's body are not h
apart_body : (t : List ℕ) (j h l : ℕ) → has (body_at t j) h ≡ false → has (body_at t j) l ≡ true → l ≡ h → ⊥
apart_body t j h l lacks d e = false≢true (sym lacks ∙ ap (has (body_at t j)) (sym e) ∙ d)

-- a rule that does not read the row that changes stays idle
pub idle_kept : (t keep base c d : List ℕ) (h : ℕ)
    → ((v l : ℕ) → Named t l → (l ≡ h → ⊥) → word_of keep base d v l ≡ word_of keep base c v l)
    → ((n : ℕ) → within (get_or c n 0) (get_or d n 0) ≡ true)
    → (j v : ℕ) → j < rule_count t → has (body_at t j) h ≡ false
    → Idle t v (word_of keep base c v) j → Idle t v (word_of keep base d v) j
idle_kept t keep base c d h others more j v inside lacks idle k l chosen body =
    within_each (word_of keep base c v (head_at t j)) (word_of keep base d v (head_at t j))
    (more (get_or base (head_at t j) 0 + bit_and v (get_or keep (head_at t j) 0))) k
    (idle k l chosen (λ b m.
    ap (λ (x : ℕ). has x k) (sym (others v b (j, inside, inl m) (apart_body t j h b lacks m))) ∙ body b m))

-- rule i, for the masks from 64 w on; x has those in which it is ready
module _ (t keep base : List ℕ) (i w : ℕ) (c : List ℕ) (x : ℕ) (placed : Placed t keep base (length c))
    (ready : Ready t i w (word_of keep base c w) x) (listed : i < rule_count t)
    (kept : within w (get_or keep (head_at t i) 0) ≡ true) where
  abbrev h : ℕ
  h = head_at t i

  named : Named t h
  named = (i, listed, inr refl)

  abbrev at : ℕ
  at = get_or base h 0 + w

  abbrev old : ℕ
  old = get_or c at 0

  cut_here : bit_and w (get_or keep h 0) ≡ w
  cut_here = eqb-true (bit_and w (get_or keep h 0)) w kept

  view_here : word_of keep base c w h ≡ old
  view_here = ap (λ (n : ℕ). get_or c (get_or base h 0 + n) 0) cut_here

  inside_here : get_or base h 0 + w < length c
  inside_here = omega (arith, placed.inside h named, within_le w (get_or keep h 0) kept)

  idle_here : (d : List ℕ) → ((k : ℕ) → has x k ≡ true → has (word_of keep base d w h) k ≡ true)
      → ((k : ℕ) → BodyAt t i (word_of keep base d w) k → BodyAt t i (word_of keep base c w) k)
      → (v : ℕ) → v ≡ w → Idle t v (word_of keep base d v) i
  idle_here d there back v e =
      subst (λ (n : ℕ). Idle t n (word_of keep base d n) i) (sym e) (λ k l chosen body.
      there k (ready.passes k l chosen (back k body)))

  pub word_none : union (get_or c (get_or base (head_at t i) 0 + w) 0) x ≡ get_or c (get_or base (head_at t i) 0 + w) 0 → Fires t keep base i (OneWord w) c c false
  word_none e = record {
    sized = refl;
    sound = λ bearing v k r s closed sound. sound;
    lower = omega arith;
    fell = λ z. absurd (false≢true z);
    same = λ z. refl;
    others = λ v l q n. refl;
    more = λ n. within_refl (get_or c n 0);
    changed = λ n. inl refl;
    settled = λ z inside. idle_here c
        (λ k g. ap (λ (y : ℕ). has y k) (view_here ∙ sym e) ∙ has_union old x k ∙ or_right (has old k) (has x k) g)
        (λ k body. body);
  }

  pub word_more : (union (get_or c (get_or base (head_at t i) 0 + w) 0) x ≡ get_or c (get_or base (head_at t i) 0 + w) 0 → ⊥)
      → union (get_or c (get_or base (head_at t i) 0 + w) 0) x < 2 ^ 64
      → Fires t keep base i (OneWord w) c (set c (get_or base (head_at t i) 0 + w) (union (get_or c (get_or base (head_at t i) 0 + w) 0) x)) true
  word_more n fits =
      let less = slack_set c at (union old x) inside_here (union_more old x n) fits in
      record {
        sized = length-set c at (union old x);
        sound = λ bearing v k r s closed sound l q e.
            sound_at bearing v k r s closed sound l q e (ℕ_discrete (get_or base l 0 + bit_and v (get_or keep l 0)) at);
        lower = omega arith;
        fell = λ z. less;
        same = λ z. absurd (false≢true (sym z));
        others = λ v l q o. stays v l q o;
        more = λ n. grows n (ℕ_discrete n at);
        changed = λ n. changes n (ℕ_discrete n at);
        settled = λ z inside. ⊎_elim (λ y. absurd (false≢true (sym y))) apart_idle z;
      }
    where
      stays : (v l : ℕ) → Named t l → (l ≡ h → ⊥) → word_of keep base (set c at (union old x)) v l ≡ word_of keep base c v l
      stays v l q o =
          get_or-set_other c at (get_or base l 0 + bit_and v (get_or keep l 0)) (union old x) 0 (λ z.
          o (placed.apart l h (bit_and v (get_or keep l 0)) w q named (and_le_r v (get_or keep l 0)) (within_le w (get_or keep h 0) kept) z))

      grows : (n : ℕ) → Dec (n ≡ at) → within (get_or c n 0) (get_or (set c at (union old x)) n 0) ≡ true
      grows n (yes o) =
          subst (λ (k : ℕ). within (get_or c k 0) (get_or (set c at (union old x)) k 0) ≡ true) (sym o)
          (subst (λ (y : ℕ). within old y ≡ true) (sym (get_or-set_same c at (union old x) 0 inside_here)) (within_union_left old x))
      grows n (no o) =
          subst (λ (y : ℕ). within (get_or c n 0) y ≡ true) (sym (get_or-set_other c at n (union old x) 0 o)) (within_refl (get_or c n 0))

      changes : (n : ℕ) → Dec (n ≡ at) → (get_or (set c at (union old x)) n 0 ≡ get_or c n 0) ⊎ HeadWord t keep base n
      changes n (yes o) = inr (i, w, listed, within_le w (get_or keep h 0) kept, o)
      changes n (no o) = inl (get_or-set_other c at n (union old x) 0 o)

      apart_idle : has (body_at t i) (head_at t i) ≡ false → (v : ℕ) → v ≡ w → Idle t v (word_of keep base (set c at (union old x)) v) i
      apart_idle lacks =
          idle_here (set c at (union old x))
          (λ k g.
          ap (λ (n : ℕ). has (get_or (set c at (union old x)) (get_or base h 0 + n) 0) k) cut_here
          ∙ ap (λ (y : ℕ). has y k) (get_or-set_same c at (union old x) 0 inside_here) ∙ has_union old x k ∙ or_right (has old k) (has x k) g)
          (λ k body l d.
          ap (λ (y : ℕ). has y k) (sym (stays w l (i, listed, inl d) (apart_body t i (head_at t i) l lacks d))) ∙ body l d)

      sound_at : Bearing t keep → (v k : ℕ) → k < 64 → (s : ℕ → Bool) → ClosedIn t (64 * v + k) s → SoundAt t keep base c v k s
          → (l : ℕ) → Named t l → has (word_of keep base (set c at (union old x)) v l) k ≡ true
          → Dec (get_or base l 0 + bit_and v (get_or keep l 0) ≡ at) → s l ≡ true
      sound_at bearing v k r s closed sound l q e (no o) =
          sound l q
          (ap (λ (y : ℕ). has y k) (sym (get_or-set_other c at (get_or base l 0 + bit_and v (get_or keep l 0)) (union old x) 0 o)) ∙ e)
      sound_at bearing v k r s closed sound l q e (yes o) = ⊎_elim before now (or_cases (has old k) (has x k) (sym (has_union old x k) ∙ whole))
        where
          same : l ≡ h
          same =
              placed.apart l h (bit_and v (get_or keep l 0)) w q named (and_le_r v (get_or keep l 0)) (within_le w (get_or keep h 0) kept) o

          cut : bit_and v (get_or keep h 0) ≡ w
          cut =
              let z : get_or base h 0 + bit_and v (get_or keep h 0) ≡ get_or base h 0 + w
              = subst (λ (n : ℕ). get_or base n 0 + bit_and v (get_or keep n 0) ≡ get_or base h 0 + w) same o in
              omega arith

          whole : has (union old x) k ≡ true
          whole =
              ap (λ (y : ℕ). has y k) (sym (get_or-set_same c at (union old x) 0 inside_here))
              ∙ ap (λ (n : ℕ). has (get_or (set c at (union old x)) n 0) k) (sym o) ∙ e

          before : has old k ≡ true → s l ≡ true
          before g = sound l q (ap (λ (n : ℕ). has (get_or c n 0) k) o ∙ g)

          lower_word : within w v ≡ true
          lower_word = subst (λ (n : ℕ). within n v ≡ true) cut (cut_within_left v (get_or keep h 0))

          there : (b : ℕ) → has (body_at t i) b ≡ true → word_of keep base c w b ≡ word_of keep base c v b
          there b d =
              ap (λ (n : ℕ). word_of keep base c n b) (sym cut) ∙ view_cut keep base c v h b (bearing.body i b listed d)

          now : has x k ≡ true → s l ≡ true
          now g =
              ap s same
              ∙ closed i listed
              (within_trans (need_at t i) (64 * w + k) (64 * v + k) (ready.chosen k r g) (mask_more w v k r lower_word))
              (λ b d. sound b (i, listed, inl d) (ap (λ (y : ℕ). has y k) (sym (there b d)) ∙ ready.body k r g b d))

-- a word whose number lacks something of the need
pub word_skip : (t keep base : List ℕ) (i w : ℕ) (c : List ℕ) → within (need_at t i / 64) w ≡ false → Fires t keep base i (OneWord w) c c false
word_skip t keep base i w c e = record {
  sized = refl;
  sound = λ bearing v k r s closed sound. sound;
  lower = omega arith;
  fell = λ z. absurd (false≢true z);
  same = λ z. refl;
  others = λ v l q o. refl;
  more = λ n. within_refl (get_or c n 0);
  changed = λ n. inl refl;
  settled = λ z inside v q. subst (λ (n : ℕ). Idle t n (word_of keep base c n) i) (sym q) (λ k h chosen body.
      absurd (false≢true (sym e ∙ need_word (need_at t i) w k h chosen)));
}

-- one word, of a rule taken apart
module _ (t keep base : List ℕ) (i w : ℕ) (c : List ℕ) (body low must to : ℕ) (decoded : Decoded t base i body low must to)
    (placed : Placed t keep base (length c)) where
  pub apart_reads : Readable keep base (length c) body
  apart_reads l e =
      let d : has (body_at t i) l ≡ true = ap (λ (x : ℕ). has x l) (sym decoded.body_is) ∙ e in
      (placed.small l (i, decoded.listed, inl d), placed.inside l (i, decoded.listed, inl d))

  module _ (x : ℕ) (kept : within w (get_or keep (head_at t i) 0) ≡ true) (needed : within must w ≡ true)
      (met : Met (word_of keep base c w) body low x) where
    is_ready : Ready t i w (word_of keep base c w) x
    is_ready =
        ready_met t i w (word_of keep base c w) body decoded.body_is low x decoded.low_is
        (ap (λ (m : ℕ). within m w) (sym decoded.must_is) ∙ needed) met

    pub apart_none : union (get_or c (to + w) 0) x ≡ get_or c (to + w) 0 → Fires t keep base i (OneWord w) c c false
    apart_none e =
        word_none t keep base i w c x placed is_ready decoded.listed kept
        (subst (λ (b : ℕ). union (get_or c (b + w) 0) x ≡ get_or c (b + w) 0) decoded.to_is e)

    pub apart_more : (union (get_or c (to + w) 0) x ≡ get_or c (to + w) 0 → ⊥) → union (get_or c (to + w) 0) x < 2 ^ 64
        → Fires t keep base i (OneWord w) c (set c (to + w) (union (get_or c (to + w) 0) x)) true
    apart_more =
        subst
        (λ (b : ℕ). (union (get_or c (b + w) 0) x ≡ get_or c (b + w) 0 → ⊥) → union (get_or c (b + w) 0) x < 2 ^ 64
        → Fires t keep base i (OneWord w) c (set c (b + w) (union (get_or c (b + w) 0) x)) true) (sym decoded.to_is) (λ n fits.
        word_more t keep base i w c x placed is_ready decoded.listed kept n fits)

pub apart_inside : (t keep base : List ℕ) (i w n body low must to : ℕ) → Decoded t base i body low must to → Placed t keep base n
    → within w (get_or keep (head_at t i) 0) ≡ true → to + w < n
apart_inside t keep base i w n body low must to decoded placed kept =
    omega (arith, decoded.to_is, placed.inside (head_at t i) (i, decoded.listed, inr refl), within_le w (get_or keep (head_at t i) 0) kept)

-- a word after two changes
pub changed_then : {A : Type 0} {x y z : ℕ} → (y ≡ x) ⊎ A → (z ≡ y) ⊎ A → (z ≡ x) ⊎ A
changed_then (inl e) (inl q) = inl (q ∙ e)
changed_then (inr a) (inl q) = inr a
changed_then e (inr a) = inr a

-- nothing, some words after others, and fewer
pub fires_none : (t keep base : List ℕ) (i : ℕ) (Words : ℕ → Type 0) (c : List ℕ) → ((w : ℕ) → Words w → ⊥) → Fires t keep base i Words c c false
fires_none t keep base i Words c n = record {
  sized = refl;
  sound = λ bearing v k r s closed sound. sound;
  lower = omega arith;
  fell = λ z. absurd (false≢true z);
  same = λ z. refl;
  others = λ v l q o. refl;
  more = λ n. within_refl (get_or c n 0);
  changed = λ n. inl refl;
  settled = λ z inside v d. absurd (n v d);
}

module _ {t keep base : List ℕ} {i : ℕ} {A B : ℕ → Type 0} (Words : ℕ → Type 0) {c d f : List ℕ} {g h : Bool}
    (split : (w : ℕ) → Words w → A w ⊎ B w) (first : Fires t keep base i A c d g) (second : Fires t keep base i B d f h) where
  pub fires_then : Fires t keep base i Words c f (g || h)
  fires_then = record {
    sized = second.sized ∙ first.sized;
    sound = λ bearing v k r s closed sound. second.sound bearing v k r s closed (first.sound bearing v k r s closed sound);
    lower = le_trans second.lower first.lower;
    fell = λ z.
        ⊎_elim (λ q. lt_of_le_of_lt second.lower (first.fell q)) (λ q. lt_of_lt_of_le (second.fell q) first.lower) (or_cases g h z);
    same = λ z. second.same (later g h z) ∙ first.same (earlier g h z);
    others = λ v l q o. second.others v l q o ∙ first.others v l q o;
    more = λ n. within_trans (get_or c n 0) (get_or d n 0) (get_or f n 0) (first.more n) (second.more n);
    changed = λ n. changed_then (first.changed n) (second.changed n);
    settled = λ z inside v q. ⊎_elim (λ a. carried z inside v a) (λ b. second.settled (after z) inside v b) (split v q);
  }
    where
      earlier : (x y : Bool) → (x || y) ≡ false → x ≡ false
      earlier true y z = z
      earlier false y z = refl

      later : (x y : Bool) → (x || y) ≡ false → y ≡ false
      later true y z = absurd (false≢true (sym z))
      later false y z = z

      after : ((g || h) ≡ false) ⊎ (has (body_at t i) (head_at t i) ≡ false) → (h ≡ false) ⊎ (has (body_at t i) (head_at t i) ≡ false)
      after (inl z) = inl (later g h z)
      after (inr z) = inr z

      carried : ((g || h) ≡ false) ⊎ (has (body_at t i) (head_at t i) ≡ false) → i < rule_count t
          → (v : ℕ) → A v → Idle t v (word_of keep base f v) i
      carried (inl z) inside v a =
          subst (λ (y : List ℕ). Idle t v (word_of keep base y v) i) (sym (second.same (later g h z)))
          (first.settled (inl (earlier g h z)) inside v a)
      carried (inr z) inside v a =
          idle_kept t keep base d f (head_at t i) second.others second.more i v inside z
          (first.settled (inr z) inside v a)

-- the words from e on, and w, the next below them
pub above_cases : (t keep : List ℕ) (i e w v : ℕ) → Greatest (get_or keep (head_at t i) 0) e w → Above t keep i w v
    → Above t keep i e v ⊎ OneWord w v
above_cases t keep i e w v next (q, l) = go (ℕ_discrete v w) (dec_lt v e)
  where
    go : Dec (v ≡ w) → Dec (v < e) → Above t keep i e v ⊎ OneWord w v
    go (yes z) d = inr z
    go (no z) (yes d) = absurd (omega (arith, next.greatest v q d))
    go (no z) (no d) = inl (q, omega arith)

-- above all that is kept there is nothing
pub none_above : (t keep : List ℕ) (i v : ℕ) → Above t keep i (get_or keep (head_at t i) 0 + 1) v → ⊥
none_above t keep i v (q, l) = omega (arith, within_le v (get_or keep (head_at t i) 0) q)

-- ---- a round
pub rounds_none : (t keep base : List ℕ) (seen : ℕ) (c : List ℕ) → Rounds t keep base 0 seen c c false
rounds_none t keep base seen c = record {
  sized = refl;
  sound = λ bearing v k r s closed sound. sound;
  lower = omega arith;
  fell = λ z. absurd (false≢true z);
  read = λ j l. absurd (omega arith);
  more = λ n. within_refl (get_or c n 0);
  changed = λ n. inl refl;
  settled = λ z j v l. absurd (omega arith);
}

-- one rule more: late exactly if it changed a row that had been read, its own body included
module _ {t keep base : List ℕ} {i seen : ℕ} {c d f : List ℕ} {late grown : Bool} (now : ℕ) (now_is : now ≡ union seen (body_at t i))
    (round : Rounds t keep base i seen c d late) (fired : Fires t keep base i (Above t keep i 0) d f grown) where
  pub rounds_more : Rounds t keep base (i + 1) now c f (late || (grown && has now (head_at t i)))
  rounds_more = record {
    sized = fired.sized ∙ round.sized;
    sound = λ bearing v k r s closed sound. fired.sound bearing v k r s closed (round.sound bearing v k r s closed sound);
    more = λ n. within_trans (get_or c n 0) (get_or d n 0) (get_or f n 0) (round.more n) (fired.more n);
    changed = λ n. changed_then (round.changed n) (fired.changed n);
    lower = le_trans fired.lower round.lower;
    fell = λ z.
        ⊎_elim (λ q. lt_of_le_of_lt fired.lower (round.fell q))
        (λ q. lt_of_lt_of_le (fired.fell (and_left grown (has now (head_at t i)) q)) round.lower)
        (or_cases late (grown && has now (head_at t i)) z);
    read = λ j l. read_it j (ℕ_discrete j i) l;
    settled = λ z j v l inside q. settled_it z j v inside q (ℕ_discrete j i) l;
  }
    where
      read_it : (j : ℕ) → Dec (j ≡ i) → j < i + 1 → within (body_at t j) now ≡ true
      read_it j (yes e) l =
          ap (λ (n : ℕ). within (body_at t n) now) e ∙ ap (within (body_at t i)) now_is ∙ within_union_right seen (body_at t i)
      read_it j (no e) l =
          ap (within (body_at t j)) now_is
          ∙ within_trans (body_at t j) seen (union seen (body_at t i)) (round.read j (omega arith)) (within_union_left seen (body_at t i))

      -- what a failed test says
      parts : (x y z : Bool) → (x || (y && z)) ≡ false → (x ≡ false) × ((y ≡ false) ⊎ (z ≡ false))
      parts true y z e = absurd (false≢true (sym e))
      parts false true z e = (refl, inr e)
      parts false false z e = (refl, inl refl)

      -- a body that was read lacks what was not
      lacking : (j : ℕ) → j < i + 1 → has now (head_at t i) ≡ false → has (body_at t j) (head_at t i) ≡ false
      lacking j l e =
          not_true_false (has (body_at t j) (head_at t i)) (λ q.
          false≢true (sym e ∙ within_each (body_at t j) now (read_it j (ℕ_discrete j i) l) (head_at t i) q))

      settled_it : (late || (grown && has now (head_at t i))) ≡ false → (j v : ℕ) → j < rule_count t
          → within v (get_or keep (head_at t j) 0) ≡ true → Dec (j ≡ i) → j < i + 1 → Idle t v (word_of keep base f v) j
      settled_it z j v inside q (yes e) l =
          subst (λ (n : ℕ). Idle t v (word_of keep base f v) n) (sym e)
          (fired.settled
          (⊎_elim (λ y. inl y) (λ y. inr (lacking i (let r : i < i + 1 = omega arith in r) y)) (parts late grown (has now (head_at t i)) z).1)
          (subst (λ (n : ℕ). n < rule_count t) e inside) v
          (subst (λ (n : ℕ). within v (get_or keep (head_at t n) 0) ≡ true) e q, let r : 0 ≤ v = omega arith in r))
      settled_it z j v inside q (no e) l =
          let known = parts late grown (has now (head_at t i)) z in
          let old = round.settled known.0 j v (let r : j < i = omega arith in r) inside q in
          ⊎_elim (λ y. subst (λ (b : List ℕ). Idle t v (word_of keep base b v) j) (sym (fired.same y)) old)
          (λ y. idle_kept t keep base d f (head_at t i) fired.others fired.more j v inside (lacking j l y) old)
          known.1

-- all rules
pub rounds_whole : (t : List ℕ) (i : ℕ) → i ≡ rule_count t → {keep base : List ℕ} {seen : ℕ} {c d : List ℕ} {g : Bool}
    → Rounds t keep base i seen c d g → Rounds t keep base (rule_count t) seen c d g
rounds_whole t i e {keep} {base} {seen} {c} {d} {g} round = subst (λ (n : ℕ). Rounds t keep base n seen c d g) e round

-- the same, with the test as it was made
pub rounds_step : {t keep base : List ℕ} {i seen : ℕ} {c d f : List ℕ} {late grown : Bool} (now h : ℕ) (tested : Bool)
    → now ≡ union seen (body_at t i) → h ≡ head_at t i → tested ≡ has now h → Rounds t keep base i seen c d late
    → Fires t keep base i (Above t keep i 0) d f grown → Rounds t keep base (i + 1) now c f (late || (grown && tested))
rounds_step {t} {keep} {base} {i} {seen} {c} {d} {f} {late} {grown} now h tested e eh et round fired =
    subst (λ (b : Bool). Rounds t keep base (i + 1) now c f (late || (grown && b))) (sym (et ∙ ap (has now) eh))
    (rounds_more now e round fired)
