-- Entries written into the four tables of a forest, one run after another: what is written and what is left make up the
-- whole.
use mathlib.Core.Path.{◌≡◌, refl, ap, ◌∙◌}
use mathlib.Core.List.{List, ◌∷◌, ◌++◌, map, map-append}
use Prim.Native.Nat.{ℕ, ◌+◌, ◌≤◌, ◌<◌}
use native.Mathlib.Omega.{arith}
use lib.ListN.{length, get_or, set, drop, length-map, length-set}
use lib.Seq.{sets, sets-eq, length-sets}
use Rattle.tree.specs.Entries.{Entry}
use Rattle.tree.specs.declared.nodes.Columns.{Columns as Lent}
use Rattle.tree.specs.Inside.Tables.{Columns, held, Kept, Hold, written, opened, past, Fits}
use Rattle.lists.proofs.Stores.{sets_append, drop_sets, get_d_first}

-- ---- one column

module _ (field : Entry → ℕ) (t : List ℕ) (at : ℕ) (es : List Entry) where
  column_append : (fs : List Entry) → sets t at (map field (es ++ fs))
      ≡ sets (sets t at (map field es)) (at + length es) (map field fs)
  column_append fs =
      ap (sets t at) (map-append field es fs)
      ∙ sets_append t at (map field es) (map field fs)
      ∙ ap (λ (n : ℕ). sets (sets t at (map field es)) (at + n) (map field fs)) (length-map es field)

  column_past : (n : ℕ) → at + length es ≤ n → drop n (sets t at (map field es)) ≡ drop n t
  column_past n h = drop_sets t at (map field es) n (omega (arith, length-map es field))

-- a table that begins with the entries
pub column_front : (field : Entry → ℕ) (t : List ℕ) (es : List Entry) → length es ≤ length t
    → sets t 0 (map field es) ≡ map field es ++ drop (length (map field es)) t
column_front field t es h =
    let n = length-map es field in
    let z : 0 + length (map field es) ≡ length (map field es) = omega arith in
    sets-eq (map field es) t 0 (omega arith) ∙ ap (λ (k : ℕ). map field es ++ drop k t) z

-- ---- the four

-- equal tables make equal columns
pub columns_same : {t u : Columns} → t.indexes ≡ u.indexes → t.parents ≡ u.parents → t.kinds ≡ u.kinds → t.marks ≡ u.marks → t ≡ u
columns_same p q r s = λ i. record { indexes = p i; parents = q i; kinds = r i; marks = s i }

module _ (t : Columns) (at : ℕ) (es : List Entry) where
  pub written_append : (fs : List Entry) → written at (es ++ fs) t ≡ written (at + length es) fs (written at es t)
  written_append fs = columns_same
      (column_append (λ e. e.argument) t.indexes at es fs)
      (column_append (λ e. e.parent) t.parents at es fs)
      (column_append (λ e. e.kind) t.kinds at es fs)
      (column_append (λ e. e.mark) t.marks at es fs)

  pub written_past : (n : ℕ) → at + length es ≤ n → past n (written at es t) ≡ past n t
  written_past n h = columns_same
      (column_past (λ e. e.argument) t.indexes at es n h)
      (column_past (λ e. e.parent) t.parents at es n h)
      (column_past (λ e. e.kind) t.kinds at es n h)
      (column_past (λ e. e.mark) t.marks at es n h)

-- the mark of the first entry that was written
pub written_mark : (e : Entry) (es : List Entry) (at : ℕ) (before after : Columns) → after ≡ written at (e ∷ es) before
    → at < length before.marks → get_or after.marks at 0 ≡ e.mark
written_mark e es at before after h lt =
    ap (λ (t : Columns). get_or t.marks at 0) h ∙ get_d_first before.marks at e.mark (map (λ e. e.mark) es) lt

-- ---- the room in tables

-- the table of marks is as long as it was
pub fits_marks : {es : List Entry} {at limit r : ℕ} {before after : Columns} → Fits es at limit r before after
    → length after.marks ≡ length before.marks
fits_marks {es} {at} {before = before} f =
    ap (λ (t : Columns). length t.marks) f.tables_are ∙ length-sets before.marks at (map (λ e. e.mark) es)

-- tables as long as others have their room
hold_long : {n : ℕ} {t u : Columns} → length u.indexes ≡ length t.indexes → length u.parents ≡ length t.parents
    → length u.kinds ≡ length t.kinds → length u.marks ≡ length t.marks → Hold n t → Hold n u
hold_long i p k m h = record {
  indexes_hold = omega (arith, i, h.indexes_hold);
  parents_hold = omega (arith, p, h.parents_hold);
  kinds_hold = omega (arith, k, h.kinds_hold);
  marks_hold = omega (arith, m, h.marks_hold);
}

-- with entries written
pub fits_hold : {es : List Entry} {at limit r : ℕ} {before after : Columns} → Fits es at limit r before after
    → {n : ℕ} → Hold n before → Hold n after
fits_hold {es} {at} {before = b} f h = hold_long
    (ap (λ (t : Columns). length t.indexes) f.tables_are ∙ length-sets b.indexes at (map (λ e. e.argument) es))
    (ap (λ (t : Columns). length t.parents) f.tables_are ∙ length-sets b.parents at (map (λ e. e.parent) es))
    (ap (λ (t : Columns). length t.kinds) f.tables_are ∙ length-sets b.kinds at (map (λ e. e.kind) es))
    (fits_marks f) h

-- with a node's entry but the mark
pub opened_hold : (at a p k : ℕ) (t : Columns) {n : ℕ} → Hold n t → Hold n (opened at a p k t)
opened_hold at a p k t h = hold_long (length-set t.indexes at a) (length-set t.parents at p) (length-set t.kinds at k) refl h

-- lent ones that are as long as they were
pub hold_kept : {n : ℕ} {before after : Lent} → Kept before after → Hold n (held before) → Hold n (held after)
hold_kept k h = hold_long k.indexes_long k.parents_long k.kinds_long k.marks_long h

-- ---- lent tables

pub kept_none : (t : Lent) → Kept t t
kept_none t = record {
  indexes_same = refl;
  parents_same = refl;
  kinds_same = refl;
  marks_same = refl;
  indexes_long = refl;
  parents_long = refl;
  kinds_long = refl;
  marks_long = refl;
}

pub kept_then : {t u v : Lent} → Kept t u → Kept u v → Kept t v
kept_then k l = record {
  indexes_same = l.indexes_same ∙ k.indexes_same;
  parents_same = l.parents_same ∙ k.parents_same;
  kinds_same = l.kinds_same ∙ k.kinds_same;
  marks_same = l.marks_same ∙ k.marks_same;
  indexes_long = l.indexes_long ∙ k.indexes_long;
  parents_long = l.parents_long ∙ k.parents_long;
  kinds_long = l.kinds_long ∙ k.kinds_long;
  marks_long = l.marks_long ∙ k.marks_long;
}

-- a mark is stored
pub kept_marked : {t u : Lent} → Kept t u → (at mark : ℕ)
    → Kept t (record u { marks = record u.marks { now = set u.marks.now at mark } })
kept_marked {u = u} k at mark = record {
  indexes_same = k.indexes_same;
  parents_same = k.parents_same;
  kinds_same = k.kinds_same;
  marks_same = k.marks_same;
  indexes_long = k.indexes_long;
  parents_long = k.parents_long;
  kinds_long = k.kinds_long;
  marks_long = length-set u.marks.now at mark ∙ k.marks_long;
}
