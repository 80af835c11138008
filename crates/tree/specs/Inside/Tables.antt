-- A forest in tables: one table of numbers for each field of the nodes' entries.
use Rattle.std.specs.Prelude.{◌≡◌, List, map, ℕ, ◌+◌, ◌<◌, ◌≤◌, length, drop, set, Option, Some, None}
use Rattle.std.proofs.lemmas.List.Edits.{sets}
use Rattle.tree.specs.declared.nodes.Columns.{Columns as Lent}
use Rattle.tree.specs.Entries.{Entry}

-- the four tables as lists
pub record Columns : Type 0 where
  pub indexes : List ℕ
  pub parents : List ℕ
  pub kinds : List ℕ
  pub marks : List ℕ

-- what lent tables hold
abbrev pub held : Lent → Columns
held c = record { indexes = c.indexes.now; parents = c.parents.now; kinds = c.kinds.now; marks = c.marks.now }

-- the lent tables are the same ones, so that their owner finds in them what was written, and each is as long as it was
pub record Kept (before after : Lent) : Type 0 where
  pub indexes_same : after.indexes.ghost_name ≡ before.indexes.ghost_name
  pub parents_same : after.parents.ghost_name ≡ before.parents.ghost_name
  pub kinds_same : after.kinds.ghost_name ≡ before.kinds.ghost_name
  pub marks_same : after.marks.ghost_name ≡ before.marks.ghost_name
  pub indexes_long : length after.indexes.now ≡ length before.indexes.now
  pub parents_long : length after.parents.now ≡ length before.parents.now
  pub kinds_long : length after.kinds.now ≡ length before.kinds.now
  pub marks_long : length after.marks.now ≡ length before.marks.now

-- the tables with the entries from node number `at` on, and all else as it was
abbrev pub written : ℕ → List Entry → Columns → Columns
written at es t = record {
  indexes = sets t.indexes at (map (λ e. e.argument) es);
  parents = sets t.parents at (map (λ e. e.parent) es);
  kinds = sets t.kinds at (map (λ e. e.kind) es);
  marks = sets t.marks at (map (λ e. e.mark) es);
}

-- with a node's entry but the mark, before its replies are written
abbrev pub opened : ℕ → (argument parent kind : ℕ) → Columns → Columns
opened at a p k t = record {
  indexes = set t.indexes at a;
  parents = set t.parents at p;
  kinds = set t.kinds at k;
  marks = t.marks;
}

-- and with its mark, after
abbrev pub closed : ℕ → (mark : ℕ) → Columns → Columns
closed at m t = record { indexes = t.indexes; parents = t.parents; kinds = t.kinds; marks = set t.marks at m }

-- what stands past the first n entries
abbrev pub past : ℕ → Columns → Columns
past n t = record {
  indexes = drop n t.indexes;
  parents = drop n t.parents;
  kinds = drop n t.kinds;
  marks = drop n t.marks;
}

-- each table has n entries or more
pub record Hold (n : ℕ) (t : Columns) : Type 0 where
  pub indexes_hold : n ≤ length t.indexes
  pub parents_hold : n ≤ length t.parents
  pub kinds_hold : n ≤ length t.kinds
  pub marks_hold : n ≤ length t.marks

-- the entries are written from number `at` on, and r is the next free number
pub record Fits (es : List Entry) (at limit r : ℕ) (before after : Columns) : Type 0 where
  pub next_is : r ≡ at + length es
  pub within : r ≤ limit
  pub tables_are : after ≡ written at es before

-- the entries are more than the limit leaves room for, and the tables keep what stands past the limit
pub record Over (es : List Entry) (at limit : ℕ) (before after : Columns) : Type 0 where
  pub more : limit < at + length es
  pub kept : past limit after ≡ past limit before

-- the one with the next free number, or the other
abbrev pub Built : List Entry → (at limit : ℕ) → Option ℕ → (before after : Columns) → Type 0
Built es at limit (Some r) before after = Fits es at limit r before after
Built es at limit None before after = Over es at limit before after
