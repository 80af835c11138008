-- Rows to which no rule adds anything are closed.
use mathlib.Core.Path.{◌≡◌, refl, sym, ap, ◌∙◌, subst}
use mathlib.Core.Bool.{Bool, true, false}
use mathlib.Core.List.{List}
use mathlib.Core.Logic.{◌⊎◌, inl}
use Prim.Native.Nat.{ℕ, ◌+◌, ◌*◌, ◌/◌, ◌%◌, ◌<◌}
use native.Mathlib.Omega.{arith}
use lib.Bits.{bit_and}
use lib.ListN.{length, get_or}
use Rattle.literals.specs.Sets.{has, within}
use Rattle.literals.proofs.Within.{within_refl, within_each, within_trans}
use Rattle.program.specs.Inside.Table.{head_at, need_at, rule_count}
use Rattle.rows.specs.Switched.{ClosedIn}
use Rattle.rows.specs.Layout.{word_of, HeadWord, Rows, Bearing}
use Rattle.rows.specs.Steps.{Idle, Sound, Rounds}
use Rattle.rows.proofs.Firings.{changed_then}
use Rattle.rows.proofs.Patterns.{need_cut}
use Rattle.rows.proofs.Views.{view_cut, cut_within}

-- what rounds make of the rows c, so far
pub record Grown (t keep base c d : List ℕ) : Type 0 where
  pub sized : length d ≡ length c
  pub sound : Sound t keep base c d
  pub more : (n : ℕ) → within (get_or c n 0) (get_or d n 0) ≡ true
  pub changed : (n : ℕ) → (get_or d n 0 ≡ get_or c n 0) ⊎ HeadWord t keep base n

pub grown_none : (t keep base c : List ℕ) → Grown t keep base c c
grown_none t keep base c = record {
  sized = refl;
  sound = λ bearing v k r s closed sound. sound;
  more = λ n. within_refl (get_or c n 0);
  changed = λ n. inl refl;
}

pub grown_more : {t keep base : List ℕ} {n seen : ℕ} {c d f : List ℕ} {late : Bool} → Grown t keep base c d
    → Rounds t keep base n seen d f late → Grown t keep base c f
grown_more {t} {keep} {base} {n} {seen} {c} {d} {f} grown round = record {
  sized = round.sized ∙ grown.sized;
  sound = λ bearing v k r s closed sound. round.sound bearing v k r s closed (grown.sound bearing v k r s closed sound);
  more = λ n. within_trans (get_or c n 0) (get_or d n 0) (get_or f n 0) (grown.more n) (round.more n);
  changed = λ n. changed_then (grown.changed n) (round.changed n);
}

module _ (t keep base c d : List ℕ) (bearing : Bearing t keep) (grown : Grown t keep base c d)
    (idle : (i v : ℕ) → i < rule_count t → i < rule_count t → within v (get_or keep (head_at t i) 0) ≡ true → Idle t v (word_of keep base d v) i) where
  -- a rule that adds nothing to a word of its head's row adds nothing for the masks that are cut down to it
  idle_uncut : (i w : ℕ) → i < rule_count t → Idle t w (word_of keep base d w) i
  idle_uncut i w listed k h chosen body =
      ap (λ (x : ℕ). has x k) (sym (view_cut keep base d w head head (within_refl (get_or keep head 0))))
      ∙ idle i v listed listed (cut_within w (get_or keep head 0)) k h
      (need_cut (need_at t i) w (get_or keep head 0) k h (bearing.need i listed) chosen)
      (λ l e. ap (λ (x : ℕ). has x k) (view_cut keep base d w head l (bearing.body i l listed e)) ∙ body l e)
    where
      head : ℕ
      head = head_at t i

      v : ℕ
      v = bit_and w (get_or keep head 0)

  whole : (m : ℕ) → 64 * (m / 64) + m % 64 ≡ m
  whole m = omega arith

  pub rows_are : Rows t keep base c d
  rows_are = record {
    starts = λ m l e.
        within_each (word_of keep base c (m / 64) l) (word_of keep base d (m / 64) l)
        (grown.more (get_or base l 0 + bit_and (m / 64) (get_or keep l 0))) (m % 64) e;
    others = grown.changed;
    closed = λ m i listed on body.
        idle_uncut i (m / 64) listed (m % 64) (omega arith) (subst (λ (n : ℕ). within (need_at t i) n ≡ true) (sym (whole m)) on) body;
    least = λ m s closed start l q e.
        grown.sound bearing (m / 64) (m % 64) (omega arith) s (subst (λ (n : ℕ). ClosedIn t n s) (sym (whole m)) closed) start l q e;
  }

-- after a round in which no row changed that had been read
pub round_fills : {t keep base : List ℕ} {seen : ℕ} {c d f : List ℕ} {late : Bool} → Bearing t keep → Grown t keep base c d
    → Rounds t keep base (rule_count t) seen d f late → late ≡ false → Rows t keep base c f
round_fills {t} {keep} {base} {seen} {c} {d} {f} {late} bearing grown round e =
    rows_are t keep base c f bearing (grown_more grown round) (λ i v l inside q. round.settled e i v l inside q)
