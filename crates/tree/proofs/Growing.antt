-- The trees below a node, written one after another: the entries and the mark of the node come out as defined.
use mathlib.Core.Path.{◌≡◌, refl, sym, ap, ◌∙◌, subst}
use mathlib.Core.Bool.{Bool, true, false, not, ◌&&◌}
use mathlib.Core.List.{List, [], ◌∷◌, ◌++◌, Memᴰ, append-nil}
use mathlib.Core.Logic.{◌≢◌}
use Prim.Native.Nat.{ℕ, zero, suc, ◌+◌, ◌-◌, ◌≤◌, ◌<◌}
use native.Mathlib.Omega.{arith}
use native.Mathlib.Numerals.{add-one}
use lib.ListN.{length, get_or, drop, drop_of_length-le}
use lib.Dec.{T}
use Rattle.lists.specs.Lists.{index_in}
use Rattle.defeat.specs.Tests.{Tests}
use Rattle.tree.specs.Reply.{reply_kind}
use Rattle.tree.specs.Forest.{Forest, none, tree, size, all_defeated, mark_of, from, replies}
use Rattle.tree.specs.Entries.{Entry, entry_of, preorder}
use Rattle.tree.specs.Inside.Tables.{Columns, opened, closed, Fits, Over}
use Rattle.tree.specs.Inside.Steps.{tree_entries, settled_by}
use Rattle.tree.proofs.Forest.{from_skip_at, from_take_at, replies_unroll}
use Rattle.tree.proofs.Entries.{preorder_length, preorder_first}
use Rattle.tree.proofs.Tables.{written_mark}
use Rattle.tree.proofs.Progress.{Progress, progress_start, progress_end, progress_step, progress_over, node_fits, node_over}

-- the arguments of the tests stand in a table, in list order, each once; each is a sub-argument of itself
pub record Listing (t : Tests ℕ) (arguments : List ℕ) : Type 0 where
  pub itself : (x : ℕ) → Memᴰ x t.arguments → T (t.sub x x)
  pub listed : arguments ≡ t.arguments
  pub placed : (j : ℕ) → j < length arguments → index_in t.arguments (get_or arguments j 0) ≡ j

-- the trees of the candidates from number j on
unfoldable pub replies_from : Tests ℕ → List ℕ → ℕ → Forest ℕ
replies_from t l j = from (reply_kind t l) (λ x. replies t (x ∷ l)) (drop j t.arguments)

-- ---- the mark of a node

-- it has `mark` so far, and the replies that are left are all D or not
abbrev pub settle : ℕ → Bool → ℕ
settle mark true = mark
settle mark false = 2

settle_none : (b : Bool) → settle 1 b ≡ mark_of b
settle_none true = refl
settle_none false = refl

settle_reply : (mark : ℕ) (c r : Bool) → settle (settled_by mark (mark_of c)) r ≡ settle mark (not c && r)
settle_reply mark true true = refl
settle_reply mark true false = refl
settle_reply mark false r = refl

-- ---- the candidates

module _ (t : Tests ℕ) {arguments : List ℕ} (L : Listing t arguments) (l : List ℕ) where
  pub at_list : (j : ℕ) → get_or t.arguments j 0 ≡ get_or arguments j 0
  at_list j = ap (λ (m : List ℕ). get_or m j 0) (sym L.listed)

  pub list_length : length t.arguments ≡ length arguments
  list_length = ap length (sym L.listed)

  pub replies_all : replies_from t l 0 ≡ replies t l
  unfolding replies_from
  replies_all = sym (replies_unroll t L.itself l)

  pub replies_none : (j : ℕ) → length arguments ≤ j → replies_from t l j ≡ none
  unfolding replies_from
  replies_none j h =
      ap (from (reply_kind t l) (λ x. replies t (x ∷ l))) (drop_of_length-le t.arguments {i = j} (omega (arith, list_length)))

  pub replies_skip : (j : ℕ) → j < length arguments → reply_kind t l (get_or arguments j 0) ≡ 0 → replies_from t l j ≡ replies_from t l (j + 1)
  unfolding replies_from
  replies_skip j h e =
      rw add-one
      (from_skip_at (reply_kind t l) (λ x. replies t (x ∷ l)) t.arguments j 0 (omega (arith, list_length))
      (ap (reply_kind t l) (at_list j) ∙ e))

  pub replies_take : (j : ℕ) → j < length arguments → reply_kind t l (get_or arguments j 0) ≢ 0
      → replies_from t l j
      ≡ tree (get_or arguments j 0) (reply_kind t l (get_or arguments j 0)) (replies t (get_or arguments j 0 ∷ l)) (replies_from t l (j + 1))
  unfolding replies_from
  replies_take j h n =
      let e = at_list j in
      rw (add-one, ← e)
      (from_take_at (reply_kind t l) (λ x. replies t (x ∷ l)) t.arguments j 0 (omega (arith, list_length))
      (λ z. n (ap (reply_kind t l) (sym e) ∙ z)))

-- ---- the trees below the node at number `at`, whose line is l

module _ (t : Tests ℕ) (l : List ℕ) (at limit : ℕ) (before : Columns) where
  -- the candidates before number j are done: `next` is the next free number, and `mark` the node's mark so far
  pub record Going (j next mark : ℕ) (tables : Columns) : Type 0 where
    pub progress : Progress (preorder (index_in t.arguments) (suc at) at (replies t l)) (suc at) limit before
        (preorder (index_in t.arguments) next at (replies_from t l j)) next tables
    pub settles : settle mark (all_defeated (replies_from t l j)) ≡ mark_of (all_defeated (replies t l))

-- a tree that was written has a node
pub tree_room : (t : Tests ℕ) (l : List ℕ) (x kind at parent : ℕ) {limit r : ℕ} {before after : Columns}
    → Fits (tree_entries t l x kind at parent) at limit r before after → at < r
unfolding tree_entries
tree_room t l x kind at parent f = omega (arith, f.next_is)

-- the mark of a tree that was written
pub tree_mark : (t : Tests ℕ) (l : List ℕ) (x kind at parent : ℕ) {limit r : ℕ} {before after : Columns}
    → Fits (tree_entries t l x kind at parent) at limit r before after → limit ≤ length before.marks
    → get_or after.marks at 0 ≡ mark_of (all_defeated (replies t (x ∷ l)))
unfolding tree_entries
tree_mark t l x kind at parent {before = before} {after = after} f long =
    written_mark (entry_of (index_in t.arguments) parent x kind (replies t (x ∷ l)))
    (preorder (index_in t.arguments) (suc at) at (replies t (x ∷ l)) ++ []) at before after f.tables_are
    (omega (arith, f.next_is, f.within))

module _ (t : Tests ℕ) {arguments : List ℕ} (L : Listing t arguments) (l : List ℕ) (at limit : ℕ)
    (before : Columns) where
  abbrev place : ℕ → ℕ
  place = index_in t.arguments

  abbrev Run : List Entry → ℕ → Columns → Type 0
  Run = Progress (preorder place (suc at) at (replies t l)) (suc at) limit before

  pub going_start : at < limit → Going t l at limit before 0 (at + 1) 1 before
  going_start h = record {
    progress =
        rw (add-one, replies_all t L l)
        (progress_start (preorder place (suc at) at (replies t l)) (suc at) limit before (omega arith));
    settles = rw (replies_all t L l) (settle_none (all_defeated (replies t l)));
  }

  module _ {j next mark : ℕ} {tables : Columns} (g : Going t l at limit before j next mark tables) where
    -- no candidate is left
    pub going_end : length arguments ≤ j
        → Fits (preorder place (suc at) at (replies t l)) (suc at) limit next before tables
        × (mark ≡ mark_of (all_defeated (replies t l)))
    going_end h =
        let e : replies_from t l j ≡ none = replies_none t L l j h in (
          progress_end g.progress (ap (preorder place next at) e),
          sym (ap (λ (r : Forest ℕ). settle mark (all_defeated r)) e) ∙ g.settles,
        )

    module _ (inside : j < length arguments) where
      abbrev x : ℕ
      x = get_or arguments j 0

      -- the candidate is no reply
      going_skip : reply_kind t l x ≡ 0 → Going t l at limit before (j + 1) next mark tables
      going_skip e = let s = replies_skip t L l j inside e in record {
        progress = subst (λ (r : Forest ℕ). Run (preorder place next at r) next tables) s g.progress;
        settles = ap (λ (r : Forest ℕ). settle mark (all_defeated r)) (sym s) ∙ g.settles;
      }

      module _ (kind : ℕ) (kind_is : kind ≡ reply_kind t l x) (is_reply : kind ≢ 0) where
        taken : replies_from t l j ≡ tree x kind (replies t (x ∷ l)) (replies_from t l (j + 1))
        taken =
            replies_take t L l j inside (λ z. is_reply (kind_is ∙ z))
            ∙ ap (λ (k : ℕ). tree x k (replies t (x ∷ l)) (replies_from t l (j + 1))) (sym kind_is)

        abbrev rest : List Entry
        rest = preorder place (next + size (tree x kind (replies t (x ∷ l)) none)) at (replies_from t l (j + 1))

        first : preorder place next at (replies_from t l j) ≡ tree_entries t l x kind next at ++ rest
        unfolding tree_entries
        first =
            ap (preorder place next at) taken
            ∙ preorder_first place next x kind (replies t (x ∷ l)) (replies_from t l (j + 1)) at

        -- a reply's tree does not fit
        pub going_over : {after : Columns} → Over (tree_entries t l x kind next at) next limit tables after
            → Over (preorder place (suc at) at (replies t l)) (suc at) limit before after
        going_over o = progress_over g.progress (tree_entries t l x kind next at) rest first o

        -- a reply's tree is written
        module _ {end : ℕ} {after : Columns} (f : Fits (tree_entries t l x kind next at) next limit end tables after) where
          ended : end ≡ next + size (tree x kind (replies t (x ∷ l)) none)
          unfolding tree_entries
          ended = omega (arith, f.next_is, preorder_length place next at (tree x kind (replies t (x ∷ l)) none))

          pub going_step : limit ≤ length tables.marks
              → Going t l at limit before (j + 1) end (settled_by mark (get_or after.marks next 0)) after
          going_step long = record {
            progress =
                subst (λ (n : ℕ). Run (preorder place n at (replies_from t l (j + 1))) end after) (sym ended)
                (progress_step g.progress (tree_entries t l x kind next at) rest first f);
            settles =
                ap (λ (m : ℕ). settle (settled_by mark m) (all_defeated (replies_from t l (j + 1)))) (tree_mark t l x kind next at f long)
                ∙ settle_reply mark (all_defeated (replies t (x ∷ l))) (all_defeated (replies_from t l (j + 1)))
                ∙ ap (λ (r : Forest ℕ). settle mark (all_defeated r)) (sym taken)
                ∙ g.settles;
          }

-- none of the candidates from j up to j + n, and up to i, is a reply
module _ (t : Tests ℕ) {arguments : List ℕ} (L : Listing t arguments) (l : List ℕ) (at limit : ℕ) (before : Columns)
    {next mark : ℕ} {tables : Columns} where
  going_skips : (n j : ℕ) → Going t l at limit before j next mark tables → j + n ≤ length arguments
      → ((k : ℕ) → j ≤ k → k < j + n → reply_kind t l (get_or arguments k 0) ≡ 0)
      → Going t l at limit before (j + n) next mark tables
  going_skips zero j g h e = let z : j + 0 ≡ j = omega arith in rw z g
  going_skips (suc n) j g h e =
      let z : j + suc n ≡ j + 1 + n = omega arith in
      rw z
      (going_skips n (j + 1) (going_skip t L l at limit before g (omega arith) (e j (omega arith) (omega arith))) (omega arith)
      (λ k a b. e k (omega arith) (omega arith)))

  pub going_pass : (i : ℕ) {j : ℕ} → Going t l at limit before j next mark tables → j ≤ i → i ≤ length arguments
      → ((k : ℕ) → j ≤ k → k < i → reply_kind t l (get_or arguments k 0) ≡ 0) → Going t l at limit before i next mark tables
  going_pass i {j} g a b e =
      let z : j + (i - j) ≡ i = omega arith in
      subst (λ (k : ℕ). Going t l at limit before k next mark tables) z
      (going_skips (i - j) j g (omega arith) (λ k c d. e k c (omega arith)))

-- ---- the node at number `at` is argument number j, its line without it is l, and the tables were t

module _ (t : Tests ℕ) {arguments : List ℕ} (L : Listing t arguments) (l : List ℕ)
    (j parent kind at limit : ℕ) (inside : j < length arguments) (before : Columns) where
  abbrev a : ℕ
  a = get_or arguments j 0

  abbrev c : Forest ℕ
  c = replies t (a ∷ l)

  abbrev below : List Entry
  below = preorder (index_in t.arguments) (suc at) at c

  abbrev node : Entry
  node = record { argument = j; parent = parent; kind = kind; mark = mark_of (all_defeated c) }

  node_entries : tree_entries t l a kind at parent ≡ node ∷ below
  unfolding tree_entries
  node_entries = rw (append-nil, L.placed j inside) refl

  -- no number is left for it
  pub tree_none : limit ≤ at → Over (tree_entries t l a kind at parent) at limit before before
  tree_none h = record { more = omega (arith, ap length node_entries); kept = refl }

  -- the trees below it do not fit
  pub tree_over : {after : Columns} → Over below (suc at) limit (opened at j parent kind before) after
      → at < limit → Over (tree_entries t l a kind at parent) at limit before after
  tree_over o lt = rw node_entries (node_over node below at limit before lt o)

  -- they are written, and then its mark
  pub tree_end : {mark next : ℕ} {after : Columns} → Fits below (suc at) limit next (opened at j parent kind before) after
      → mark ≡ mark_of (all_defeated c) → Fits (tree_entries t l a kind at parent) at limit next before (closed at mark after)
  tree_end f m = rw (node_entries, m) (node_fits node below at limit before f)
