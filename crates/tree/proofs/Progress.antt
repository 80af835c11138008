-- Runs of entries written one after another, up to a limit: what is written and what is left make up the whole.
use mathlib.Core.Path.{◌≡◌, refl, sym, ap, ◌∙◌}
use mathlib.Core.List.{List, [], ◌∷◌, ◌++◌, map}
use Prim.Native.Nat.{ℕ, suc, ◌+◌, ◌≤◌, ◌<◌}
use native.Mathlib.Omega.{arith}
use lib.ListN.{length, length-append}
use lib.Seq.{drop-set-lt}
use Rattle.tree.specs.Entries.{Entry}
use Rattle.tree.specs.Inside.Tables.{Columns, written, opened, closed, past, Fits, Over}
use Rattle.lists.proofs.Stores.{set_sets}
use Rattle.tree.proofs.Tables.{columns_same, written_append, written_past}

-- `left` of the entries are still to be written, from number `next` on
pub record Progress (all : List Entry) (start limit : ℕ) (before : Columns) (left : List Entry) (next : ℕ) (t : Columns)
    : Type 0 where
  pub low : start ≤ next
  pub high : next ≤ limit
  pub count : next + length left ≡ start + length all
  pub go : written next left t ≡ written start all before
  pub kept : past limit t ≡ past limit before

pub progress_start : (all : List Entry) (start limit : ℕ) (t : Columns) → start ≤ limit → Progress all start limit t all start t
progress_start all start limit t h = record { low = omega arith; high = h; count = refl; go = refl; kept = refl }

module _ {all left : List Entry} {start limit next : ℕ} {before t : Columns} (p : Progress all start limit before left next t) where
  -- nothing is left
  pub progress_end : left ≡ [] → Fits all start limit next before t
  progress_end e = record {
    next_is = omega (arith, p.count, ap length e);
    within = omega (arith, p.high);
    tables_are = ap (λ (l : List Entry). written next l t) (sym e) ∙ p.go;
  }

  module _ (run rest : List Entry) (first : left ≡ run ++ rest) where
    lengths : length left ≡ length run + length rest
    lengths = ap length first ∙ length-append run rest

    -- a run more is written
    pub progress_step : {end : ℕ} {after : Columns} → Fits run next limit end t after
        → Progress all start limit before rest end after
    progress_step {end} f = record {
      low = omega (arith, p.low, f.next_is);
      high = f.within;
      count = omega (arith, p.count, f.next_is, lengths);
      go =
          ap (written end rest) f.tables_are
          ∙ ap (λ (n : ℕ). written n rest (written next run t)) f.next_is
          ∙ sym (written_append t next run rest)
          ∙ ap (λ (l : List Entry). written next l t) (sym first)
          ∙ p.go;
      kept = ap (past limit) f.tables_are ∙ written_past t next run limit (omega (arith, f.next_is, f.within)) ∙ p.kept;
    }

    -- a run does not fit, so that the whole does not
    pub progress_over : {after : Columns} → Over run next limit t after → Over all start limit before after
    progress_over o = record { more = omega (arith, p.count, o.more, lengths); kept = o.kept ∙ p.kept }

-- ---- a node: its entry but the mark is stored before its replies are written, and its mark after

module _ (e : Entry) (es : List Entry) (at limit : ℕ) (t : Columns) {after : Columns} where
  pub node_fits : {r : ℕ} → Fits es (suc at) limit r (opened at e.argument e.parent e.kind t) after
      → Fits (e ∷ es) at limit r t (closed at e.mark after)
  node_fits f = record {
    next_is = omega (arith, f.next_is);
    within = f.within;
    tables_are =
        ap (closed at e.mark) f.tables_are
        ∙ columns_same refl refl refl (set_sets t.marks at (suc at) e.mark (map (λ e. e.mark) es) (omega arith));
  }

  pub node_over : at < limit → Over es (suc at) limit (opened at e.argument e.parent e.kind t) after
      → Over (e ∷ es) at limit t after
  node_over lt o = record {
    more = omega (arith, o.more);
    kept = o.kept ∙ columns_same
        (drop-set-lt limit t.indexes at e.argument lt)
        (drop-set-lt limit t.parents at e.parent lt)
        (drop-set-lt limit t.kinds at e.kind lt)
        refl;
  }
