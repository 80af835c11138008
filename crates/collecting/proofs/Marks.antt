-- The words that have an argument are marked, one word, one row, one literal more at a time.
use mathlib.Core.Path.{◌≡◌, refl, sym, ap, ap₂, ◌∙◌}
use mathlib.Core.Bool.{true, not}
use mathlib.Core.List.{List}
use mathlib.Core.Logic.{◌⊎◌, inl, inr, ⊎_elim}
use Prim.Native.Nat.{ℕ, ◌+◌, ◌*◌, ◌/◌, ◌%◌, ◌^◌, ◌<◌}
use native.Mathlib.Nat.{eq-or-lt_of_le}
use native.Mathlib.Decide.{ℕ_discrete}
use native.Mathlib.Omega.{arith}
use lib.Dec.{eqb}
use lib.ListN.{length, get_or, set, length-set}
use lib.Seq.{get_or-set_same, get_or-set_other}
use borrow.Author.Tests.{ne_eqb}
use Rattle.literals.specs.Sets.{has, insert, minus, within}
use Rattle.literals.proofs.Tests.{and_intro}
use Rattle.literals.proofs.Members.{has_not_empty, has_minus_power, has_insert_same, insert_keeps}
use Rattle.literals.proofs.Within.{within_le, minus_within, within_each}
use Rattle.rows.specs.Span.{Greatest}
use Rattle.closures.specs.Inside.Table.{keeps_at}
use Rattle.collecting.specs.Inside.Columns.{argues, Word, marked, Marks, Members, InWord, InRow}
use Rattle.collecting.proofs.Told.{argues_kept}

-- ---- the literals of a set

pub members_split : (s b l : ℕ) → Members s l → (l ≡ b) ⊎ Members (minus s (2 ^ b)) l
members_split s b l (small, h) = go (ℕ_discrete l b)
  where
    go : Dec (l ≡ b) → (l ≡ b) ⊎ Members (minus s (2 ^ b)) l
    go (yes q) = inl q
    go (no q) = inr (small, has_minus_power s b l ∙ and_intro (has s l) (not (eqb l b)) h (ap not (ne_eqb l b q)))

pub members_fewer : (s b l : ℕ) → Members (minus s (2 ^ b)) l → Members s l
members_fewer s b l (small, h) = (small, within_each (minus s (2 ^ b)) s (minus_within s (2 ^ b)) l h)

pub members_none : (s l : ℕ) → s ≡ 0 → Members s l → ⊥
members_none s l e (small, h) = has_not_empty s l h e

-- ---- marks

pub marks_none : (t : List ℕ) (Some : ℕ → ℕ → Type 0) (u : List ℕ) → ((l m : ℕ) → Some l m → argues t m l ≡ true → ⊥) → Marks t Some u u
marks_none t Some u none = record { sized = refl; kept = λ w h. h; covers = λ l m s a. absurd (none l m s a) }

pub marks_then : (t : List ℕ) (P Q R : ℕ → ℕ → Type 0) (a b c : List ℕ)
    → ((l m : ℕ) → R l m → argues t m l ≡ true → P l m ⊎ Q l m) → Marks t P a b → Marks t Q b c → Marks t R a c
marks_then t P Q R a b c cases x y = record {
  sized = y.sized ∙ x.sized;
  kept = λ w h. y.kept w (x.kept w h);
  covers = λ l m s g. ⊎_elim (λ p. y.kept (m / 64) (x.covers l m p g)) (λ q. y.covers l m q g) (cases l m s g);
}

-- a word without an argument
pub marks_idle : (t u : List ℕ) (literal w x : ℕ) → Word t literal w x → x ≡ 0 → Marks t (InWord literal w) u u
marks_idle t u literal w x word e = marks_none t (InWord literal w) u none
  where
    none : (l m : ℕ) → InWord literal w l m → argues t m l ≡ true → ⊥
    none l m (p, q) a =
        let k : m ≡ 64 * w + m % 64 = omega arith in
        has_not_empty x (m % 64) (word (m % 64) (omega arith) ∙ ap₂ (λ (j h : ℕ). argues t j h) (sym k) (sym p) ∙ a) e

pub marks_word : (t u : List ℕ) (literal w : ℕ) → w < 1024 → length u ≡ 16
    → Marks t (InWord literal w) u (set u (w / 64) (insert (get_or u (w / 64) 0) (w % 64)))
marks_word t u literal w low long = record {
  sized = length-set u (w / 64) (insert (get_or u (w / 64) 0) (w % 64));
  kept = λ v h. go v h (ℕ_discrete (v / 64) (w / 64));
  covers = λ l m (p, q) a.
      ap (marked after) q ∙ ap (λ (x : ℕ). has x (w % 64)) here ∙ has_insert_same (get_or u (w / 64) 0) (w % 64);
}
  where
    after : List ℕ
    after = set u (w / 64) (insert (get_or u (w / 64) 0) (w % 64))

    here : get_or after (w / 64) 0 ≡ insert (get_or u (w / 64) 0) (w % 64)
    here = get_or-set_same u (w / 64) (insert (get_or u (w / 64) 0) (w % 64)) 0 (omega arith)

    go : (v : ℕ) → marked u v ≡ true → Dec (v / 64 ≡ w / 64) → marked after v ≡ true
    go v h (yes e) =
        ap (λ (x : ℕ). has x (v % 64)) (ap (λ (i : ℕ). get_or after i 0) e ∙ here)
        ∙ insert_keeps (get_or u (w / 64) 0) (w % 64) (v % 64) (ap (λ (i : ℕ). has (get_or u i 0) (v % 64)) (sym e) ∙ h)
    go v h (no n) = ap (λ (x : ℕ). has x (v % 64)) (get_or-set_other u (w / 64) (v / 64) (insert (get_or u (w / 64) 0) (w % 64)) 0 n) ∙ h

-- a row: the words below e are left
abbrev pub Below : ℕ → ℕ → ℕ → ℕ → Type 0
Below literal e l m = (l ≡ literal) × (m < 65536) × (m / 64 < e)

module _ (t : List ℕ) (literal : ℕ) where
  kept_here : (l m : ℕ) → l ≡ literal → m < 65536 → argues t m l ≡ true → within (m / 64) (keeps_at t literal) ≡ true
  kept_here l m e small a = argues_kept t m literal small (ap (argues t m) (sym e) ∙ a)

  pub row_start : (u v : List ℕ) → Marks t (Below literal (keeps_at t literal + 1)) u v → Marks t (InRow (λ l. l ≡ literal)) u v
  row_start u v marks = record {
    sized = marks.sized;
    kept = marks.kept;
    covers = λ l m (e, small) a. let low = within_le (m / 64) (keeps_at t literal) (kept_here l m e small a) in marks.covers l m (e, small, omega arith) a;
  }

  pub row_word : (e w : ℕ) → Greatest (keeps_at t literal) e w → (a b c : List ℕ) → Marks t (InWord literal w) a b
      → Marks t (Below literal w) b c → Marks t (Below literal e) a c
  row_word e w next a b c =
      marks_then t (InWord literal w) (Below literal w) (Below literal e) a b c (λ l m (q, small, h) g.
      ⊎_elim (λ z. inl (q, z)) (λ z. inr (q, small, z))
      (eq-or-lt_of_le {n = m / 64} {m = w} (next.greatest (m / 64) (kept_here l m q small g) h)))

  pub row_end : (e : ℕ) → e ≡ 0 → (u : List ℕ) → Marks t (Below literal e) u u
  row_end e z u = marks_none t (Below literal e) u (λ l m (q, small, h) a. omega arith)

-- a literal, then the others of its set
pub marks_literal : (t : List ℕ) (s b : ℕ) (u m v : List ℕ) → Marks t (InRow (λ l. l ≡ b)) u m
    → Marks t (InRow (Members (minus s (2 ^ b)))) m v → Marks t (InRow (Members s)) u v
marks_literal t s b u m v =
    marks_then t (InRow (λ l. l ≡ b)) (InRow (Members (minus s (2 ^ b)))) (InRow (Members s)) u m v (λ l n (e, small) g.
    ⊎_elim (λ q. inl (q, small)) (λ q. inr (q, small)) (members_split s b l e))

pub marks_end : (t : List ℕ) (s : ℕ) (u : List ℕ) → s ≡ 0 → Marks t (InRow (Members s)) u u
marks_end t s u e = marks_none t (InRow (Members s)) u (λ l m (q, small) g. members_none s l e q)
