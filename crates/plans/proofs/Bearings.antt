-- What bears on each literal.
use mathlib.Core.Path.{◌≡◌, refl, sym, ap, ◌∙◌, subst}
use mathlib.Core.Bool.{Bool, true, false, not, ◌||◌, false≢true}
use mathlib.Core.List.{List}
use mathlib.Core.Logic.{⊎_elim}
use Prim.Native.Nat.{ℕ, ◌+◌, ◌/◌, ◌^◌, ◌<◌, ◌≤◌}
use native.Mathlib.Nat.{le_trans, lt_of_lt_of_le, lt_of_le_of_lt}
use native.Mathlib.Decide.{ℕ_discrete, dec_lt}
use native.Mathlib.Omega.{arith}
use lib.Bits.{or_lt}
use lib.Dec.{eqb}
use lib.ListN.{length, get_or, set, length-set}
use lib.Seq.{get_or-set_same, get_or-set_other}
use borrow.Author.Tests.{ne_eqb}
use Rattle.literals.specs.Sets.{has, minus, union, within}
use Rattle.literals.proofs.Tests.{and_intro, or_cases}
use Rattle.literals.proofs.Members.{has_empty, has_minus_power}
use Rattle.literals.proofs.Within.{within_refl, within_trans, within_union_left, within_union_right}
use Rattle.program.specs.Inside.Table.{head_at, body_at, need_at, rule_count}
use Rattle.rows.proofs.Words.{slack_set, union_more}
use Rattle.rows.specs.Switched.{NeedsOne}
use Rattle.plans.specs.Steps.{Small, Joined, BearsAt, Bears}

-- no literal left, and one more
pub joined_none : (keep : List ℕ) (literals s : ℕ) → literals ≡ 0 → Joined keep literals s s
joined_none keep literals s e = rw e (record {
  started = within_refl s;
  each = λ l m. absurd (false≢true (sym (has_empty l) ∙ m));
  small = λ f h. h;
})

module _ (keep : List ℕ) (literals s b : ℕ) where
  abbrev here : ℕ
  here = get_or keep b 0

  pub joined_more : (x : ℕ) → Joined keep (minus literals (2 ^ b)) (union s (get_or keep b 0)) x → Joined keep literals s x
  joined_more x m = record {
    started = within_trans s (union s here) x (within_union_left s here) m.started;
    each = λ j g. at j g (ℕ_discrete j b);
    small = λ f h. m.small f (or_lt 10 s here h (f b));
  }
    where
      at : (j : ℕ) → has literals j ≡ true → Dec (j ≡ b) → within (get_or keep j 0) x ≡ true
      at j g (yes e) =
          ap (λ (i : ℕ). within (get_or keep i 0) x) e
          ∙ within_trans here (union s here) x (within_union_right s here) m.started
      at j g (no n) =
          m.each j (has_minus_power literals b j ∙ and_intro (has literals j) (not (eqb j b)) g (ap not (ne_eqb j b n)))

-- rule i: y has what it needs and what bears on its body
module _ (t : List ℕ) (i : ℕ) (c : List ℕ) (body n y h : ℕ) (body_is : body ≡ body_at t i)
    (need_is : n ≡ need_at t i) (needs : NeedsOne t) (listed : i < rule_count t) (join : Joined c body (n / 64) y)
    (head_is : h ≡ head_at t i) where
  abbrev old : ℕ
  old = get_or c h 0

  need_in : within (need_at t i / 64) y ≡ true
  need_in = ap (λ (m : ℕ). within (m / 64) y) (sym need_is) ∙ join.started

  body_in : (l : ℕ) → has (body_at t i) l ≡ true → within (get_or c l 0) y ≡ true
  body_in l e = join.each l (ap (λ (s : ℕ). has s l) body_is ∙ e)

  pub bears_none : union (get_or c h 0) y ≡ get_or c h 0 → Bears t i (i + 1) c c false
  bears_none e = record {
    sized = refl;
    small = λ f. f;
    lower = omega arith;
    fell = λ z. absurd (false≢true z);
    same = λ z. refl;
    borne = λ z j a l. subst (BearsAt t c) (let q : i ≡ j = omega arith in q) all;
  }
    where
      inside : within y old ≡ true
      inside = subst (λ (m : ℕ). within y m ≡ true) e (within_union_right old y)

      all : BearsAt t c i
      all = record {
        need = ap (λ (m : ℕ). within (need_at t i / 64) (get_or c m 0)) (sym head_is) ∙ within_trans (need_at t i / 64) y old need_in inside;
        body = λ l g. ap (λ (m : ℕ). within (get_or c l 0) (get_or c m 0)) (sym head_is) ∙ within_trans (get_or c l 0) y old (body_in l g) inside;
      }

  pub bears_more : (union (get_or c h 0) y ≡ get_or c h 0 → ⊥) → h < length c → union (get_or c h 0) y < 2 ^ 64
      → Bears t i (i + 1) c (set c h (union (get_or c h 0) y)) true
  bears_more differs inside fits =
      let less = slack_set c h (union old y) inside (union_more old y differs) fits in
      record {
        sized = length-set c h (union old y);
        small = λ f l. at f l (ℕ_discrete l h);
        lower = omega arith;
        fell = λ z. less;
        same = λ z. absurd (false≢true (sym z));
        borne = λ z. absurd (false≢true (sym z));
      }
    where
      at : Small c → (l : ℕ) → Dec (l ≡ h) → get_or (set c h (union old y)) l 0 < 2 ^ 10
      at f l (no o) = subst (λ (m : ℕ). m < 2 ^ 10) (sym (get_or-set_other c h l (union old y) 0 o)) (f l)
      at f l (yes o) =
          let bound = needs.below i listed in
          let start : n / 64 < 2 ^ 10 = omega arith in
          subst (λ (m : ℕ). m < 2 ^ 10) (sym (ap (λ (j : ℕ). get_or (set c h (union old y)) j 0) o ∙ get_or-set_same c h (union old y) 0 inside))
          (or_lt 10 old y (f h) (join.small f start))

module _ {t : List ℕ} {a b e : ℕ} {c d f : List ℕ} {g h : Bool} (first : Bears t a b c d g) (second : Bears t b e d f h) where
  pub bears_then : Bears t a e c f (g || h)
  bears_then = record {
    sized = second.sized ∙ first.sized;
    small = λ s. second.small (first.small s);
    lower = le_trans second.lower first.lower;
    fell = λ z.
        ⊎_elim (λ q. lt_of_le_of_lt second.lower (first.fell q)) (λ q. lt_of_lt_of_le (second.fell q) first.lower) (or_cases g h z);
    same = λ z. second.same (later g h z) ∙ first.same (earlier g h z);
    borne = λ z i l m. at z i l m (dec_lt i b);
  }
    where
      earlier : (x y : Bool) → (x || y) ≡ false → x ≡ false
      earlier true y z = z
      earlier false y z = refl

      later : (x y : Bool) → (x || y) ≡ false → y ≡ false
      later true y z = absurd (false≢true (sym z))
      later false y z = z

      at : (g || h) ≡ false → (i : ℕ) → a ≤ i → i < e → Dec (i < b) → BearsAt t c i
      at z i l m (yes q) = first.borne (earlier g h z) i l q
      at z i l m (no q) =
          subst (λ (y : List ℕ). BearsAt t y i) (first.same (earlier g h z))
          (second.borne (later g h z) i (let r : b ≤ i = omega arith in r) m)

pub bears_whole : (t : List ℕ) (i : ℕ) → i ≡ rule_count t → {c d : List ℕ} {g : Bool} → Bears t 0 i c d g → Bears t 0 (rule_count t) c d g
bears_whole t i e {c} {d} {g} passed = subst (λ (n : ℕ). Bears t 0 n c d g) e passed
