-- Rows at the front of the node table, written one at a time; and that the entries' fields in four tables make up the
-- entries.
use mathlib.Core.Path.{◌≡◌, refl, sym, ap, ◌∙◌}
use mathlib.Core.List.{List, [], ◌∷◌, ◌++◌, map, map-append}
use Prim.Native.Nat.{ℕ, suc, ◌+◌, ◌≤◌, ◌<◌}
use native.Mathlib.Omega.{arith}
use native.Mathlib.Numerals.{add-one}
use lib.ListN.{length, drop, get_or, set, length-append, length-drop, length-map}
use lib.Seq.{drop-cons, append_snoc, set_at}
use Rattle.lists.specs.Lists.{upto}
use Rattle.lists.proofs.Lists.{upto_length, upto_last, upto_shift}
use Rattle.tree.specs.Entries.{Entry}
use Rattle.tree.specs.Inside.Tables.{Columns}
use Rattle.answer.specs.Tables.{front, zeroed}
use Rattle.nodes.specs.declared.Node.{Node}
use Rattle.nodes.specs.Nodes.{node_of}
use Rattle.nodes.specs.Inside.Rows.{row_at, rows}

-- ---- rows at the front of a table

module _ {A : Type 0} where
  pub front_length : (l table : List A) → length l ≤ length table → length (front l table) ≡ length table
  front_length l table h = simp (length-append, length-drop) (omega arith)

module _ (t : Columns) where
  rows_length : (n : ℕ) → length (rows n t) ≡ n
  rows_length n = length-map (upto 0 n) (row_at t) ∙ upto_length 0 n

  rows_last : (n : ℕ) → rows (suc n) t ≡ rows n t ++ (row_at t n ∷ [])
  rows_last n =
      let e : 0 + n ≡ n = omega arith in
      ap (map (row_at t)) (upto_last 0 n ∙ ap (λ m. upto 0 n ++ (m ∷ [])) e) ∙ map-append (row_at t) (upto 0 n) (n ∷ [])

  module _ (table : List Node) where
    -- the next row is stored behind those that stand there
    pub front_rows_next : (n : ℕ) → n < length table
        → set (front (rows n t) table) n (row_at t n) ≡ front (rows (n + 1) t) table
    front_rows_next n h =
        let r = row_at t n in
        rw add-one (
        ap (λ m. set (rows n t ++ drop m table) n r) (rows_length n)
        ∙ ap (λ l. set (rows n t ++ l) n r) (drop-cons table n (node_of zeroed) h)
        ∙ set_at (rows n t) (get_or table n (node_of zeroed)) (drop (suc n) table) r n (rows_length n)
        ∙ sym (append_snoc (rows n t) r (drop (suc n) table))
        ∙ ap (λ m. (rows n t ++ (r ∷ [])) ++ drop m table) (sym (rows_length (suc n)))
        ∙ ap (λ l. l ++ drop (length (rows (suc n) t)) table) (sym (rows_last n)))

-- ---- the entries' fields in four tables are the entries

pub rows_of : (es : List Entry) (a p k m : List ℕ)
    → rows (length es) record {
      indexes = map (λ e. e.argument) es ++ a;
      parents = map (λ e. e.parent) es ++ p;
      kinds = map (λ e. e.kind) es ++ k;
      marks = map (λ e. e.mark) es ++ m;
    }
    ≡ map node_of es
rows_of [] a p k m = refl
rows_of (e ∷ es) a p k m = ap (λ l. node_of e ∷ l) (upto_shift _ 0 (length es) ∙ rows_of es a p k m)
