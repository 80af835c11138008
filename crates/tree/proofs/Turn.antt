-- A step on its way: the replies up to a candidate are written. One record of what holds then serves both sides.
use mathlib.Core.Path.{◌≡◌, refl, ap, ◌∙◌}
use mathlib.Core.List.{List, ◌∷◌}
use Prim.Native.Nat.{ℕ, suc, ◌+◌, ◌-◌, ◌≤◌, ◌<◌}
use native.Mathlib.Omega.{arith}
use lib.ListN.{length, get_or, length-set}
use Rattle.lists.specs.Lists.{index_in}
use Rattle.literals.specs.Sets.{union}
use Rattle.argument.specs.Argument.{mask_of}
use Rattle.defeat.specs.Tests.{Tests}
use Rattle.defeat.specs.Inside.Kinds.{number_of, number_of_kind}
use Rattle.defeat.proofs.Kind.{number_some}
use Rattle.tree.specs.declared.candidates.Framework.{Framework}
use Rattle.tree.specs.declared.candidates.Reply.{Reply}
use Rattle.tree.specs.declared.nodes.Step.{Step}
use Rattle.tree.specs.Reply.{reply_kind}
use Rattle.tree.specs.Forest.{replies}
use Rattle.tree.specs.Entries.{Entry, preorder}
use Rattle.tree.specs.Inside.Tables.{Columns, Hold, opened, closed, Fits, Over}
use Rattle.tree.specs.Inside.Steps.{line_of, tree_entries, settled_by, Prepared, tests_in, argument_of, answered, Ready, Asked, NoReply, FirstReply, Enters, Entered}
use Rattle.tree.proofs.Tables.{fits_hold, opened_hold}
use Rattle.tree.proofs.Growing.{Going, going_start, going_pass, going_end, going_over, going_step, tree_room, tree_none, tree_over, tree_end}
use Rattle.tree.proofs.Steps.{line_more, line_less, ready_asked, ready_reply}
use Rattle.tree.proofs.Listings.{prepared_count, prepared_listing}

-- the entries below a node, from the next number on
abbrev pub below_entries : Tests ℕ → List ℕ → ℕ → List Entry
below_entries t l at = preorder (index_in t.arguments) (suc at) at (replies t l)

-- The step's argument x stands on the line and in the tables, which were t₀ before. `joined` has its mask with those of its side.
-- The candidates before `start` are done, the tables are t, `next` is the next free number.
pub record Turn (f : Framework) (line₀ : List ℕ) (s : Step) (limit : ℕ) (t₀ : Columns) (joined : ℕ)
    (line : List ℕ) (t : Columns) (mark next start : ℕ) : Type 0 where
  pub ready : Ready f line₀ s limit t₀
  pub joined_is : joined ≡ union s.own (mask_of (argument_of f s))
  pub room : s.at < limit
  pub line_is : line_of line (s.depth + 1) ≡ argument_of f s ∷ line_of line₀ s.depth
  pub line_long : length line ≡ length line₀
  pub tables_hold : Hold limit t
  pub low : s.at < next
  pub high : next ≤ limit
  pub start_in : start ≤ length f.arguments.now
  pub going : (w : Prepared f)
      → Going (tests_in w) (argument_of f s ∷ line_of line₀ s.depth) s.at limit (opened s.at s.index s.parent (number_of_kind s.kind) t₀) start next
      mark t

-- ---- a step begins

module _ {f : Framework} {line : List ℕ} {s : Step} {limit : ℕ} {t : Columns} (ready : Ready f line s limit t) where
  -- no number is left
  pub turn_none : limit ≤ s.at → (u : Columns)
      → ((w : Prepared f)
      → Over (tree_entries (tests_in w) (line_of line s.depth) (argument_of f s) (number_of_kind s.kind) s.at s.parent) s.at limit u u)
  turn_none h u w =
      tree_none (tests_in w) (prepared_listing w) (line_of line s.depth) s.index s.parent (number_of_kind s.kind) s.at limit ready.in_list u h

  module _ (room : s.at < limit) where
    line_room : s.depth < length line
    line_room = let d = ready.deep in let l = ready.line_holds in omega arith

    pub turn_enters : Enters line s t
    turn_enters = record {
      line_holds = line_room;
      indexes_hold = omega (arith, ready.tables_hold.indexes_hold);
      parents_hold = omega (arith, ready.tables_hold.parents_hold);
      kinds_hold = omega (arith, ready.tables_hold.kinds_hold);
      index_fits = let i = ready.in_list in omega (arith, prepared_count ready.prepared);
      parent_fits = let p = ready.parent_in in let b = ready.budget in omega arith;
    }

    pub turn_start : (joined : ℕ) → joined ≡ union s.own (mask_of (argument_of f s)) → {line' : List ℕ} {t' : Columns}
        → Entered line line' s (argument_of f s) t t'
        → Turn f line s limit t joined line' t' 1 (s.at + 1) 0
    turn_start joined ej e = record {
      ready = ready;
      joined_is = ej;
      room = room;
      line_is = ap (λ (l : List ℕ). line_of l (s.depth + 1)) e.line_is ∙ line_more line s.depth (argument_of f s) line_room;
      line_long = ap length e.line_is ∙ length-set line s.depth (argument_of f s);
      tables_hold = rw (e.tables_are) (opened_hold s.at s.index s.parent (number_of_kind s.kind) t ready.tables_hold);
      low = omega arith;
      high = omega arith;
      start_in = omega arith;
      going = λ w. rw (e.tables_are)
          (going_start (tests_in w) (prepared_listing w) (argument_of f s ∷ line_of line s.depth) s.at limit
          (opened s.at s.index s.parent (number_of_kind s.kind) t) room);
    }

-- ---- a step goes on

module _ {f : Framework} {line₀ : List ℕ} {s : Step} {limit : ℕ} {t₀ : Columns} {joined : ℕ}
    {line : List ℕ} {t : Columns} {mark next start : ℕ} (T : Turn f line₀ s limit t₀ joined line t mark next start) where
  abbrev l : List ℕ
  l = argument_of f s ∷ line_of line₀ s.depth

  -- the tables with the node's entry
  abbrev o : Columns
  o = opened s.at s.index s.parent (number_of_kind s.kind) t₀

  -- the line up to the parent stays
  turn_line : (line' : List ℕ) → line_of line' (s.depth + 1) ≡ line_of line (s.depth + 1) → line_of line' s.depth ≡ line_of line₀ s.depth
  turn_line line' e = line_less line' line₀ s.depth (argument_of f s) (e ∙ T.line_is)

  pub turn_kept : line_of line s.depth ≡ line_of line₀ s.depth
  turn_kept = turn_line line refl

  pub turn_asked : Asked f line s
  turn_asked =
      let d = T.ready.deep in
      let h = T.ready.line_holds in
      ready_asked T.ready line T.line_is (omega (arith, T.line_long, T.room))

  -- no candidate is left, and the node is marked
  pub turn_end : NoReply f line s start (length f.arguments.now) → (w : Prepared f)
      → Fits (tree_entries (tests_in w) (line_of line₀ s.depth) (argument_of f s) (number_of_kind s.kind) s.at s.parent) s.at limit next t₀ (closed s.at mark t)
  turn_end none w =
      let b = going_end (tests_in w) (prepared_listing w) l s.at limit o
      (going_pass (tests_in w) (prepared_listing w) l s.at limit o (length f.arguments.now) (T.going w) T.start_in (omega arith)
      (rw T.line_is at (none w))) (omega arith) in
      tree_end (tests_in w) (prepared_listing w) (line_of line₀ s.depth) s.index s.parent (number_of_kind s.kind) s.at limit T.ready.in_list t₀ b.0 b.1

  module _ {r : Reply} (first : FirstReply f line s start r) where
    -- the candidates that are left are fewer
    pub turn_less : length f.arguments.now - (r.index + 1) < length f.arguments.now - start
    turn_less = omega (arith, first.low, first.in_list)

    -- the other side's step is asked less: m is what this one has left
    pub turn_ready : {m : ℕ} → limit - s.at ≡ m → (limit - next < m) × Ready f line (answered s joined r next) limit t
    turn_ready left = (
      omega (arith, T.room, T.low, T.high),
      rw (T.joined_is)
          (ready_reply T.ready line T.line_is first T.low T.high (let h = T.ready.line_holds in omega (arith, T.line_long)) T.tables_hold),
    )

    passed : (w : Prepared f) → Going (tests_in w) l s.at limit o r.index next mark t
    passed w =
        going_pass (tests_in w) (prepared_listing w) l s.at limit o r.index (T.going w) first.low (omega (arith, first.in_list))
        (rw T.line_is at (first.none_before w))

    kind_on : (w : Prepared f) → number_of r.kind ≡ reply_kind (tests_in w) l (get_or f.arguments.now r.index 0)
    kind_on w = rw T.line_is at (first.kind_is w)

    -- the other side's step is done
    pub turn_left : (line' : List ℕ) → line_of line' (s.depth + 1) ≡ line_of line (s.depth + 1)
        → line_of line' s.depth ≡ line_of line₀ s.depth
    turn_left line' kept = turn_line line' kept

    module _ {t' : Columns} where
      -- a reply's tree does not fit
      pub turn_over : ((w : Prepared f)
          → Over (tree_entries (tests_in w) (line_of line (s.depth + 1)) (get_or f.arguments.now r.index 0) (number_of r.kind) next s.at) next limit t t')
          → (w : Prepared f)
          → Over (tree_entries (tests_in w) (line_of line₀ s.depth) (argument_of f s) (number_of_kind s.kind) s.at s.parent) s.at limit t₀ t'
      turn_over over w =
          tree_over (tests_in w) (prepared_listing w) (line_of line₀ s.depth) s.index s.parent (number_of_kind s.kind) s.at limit T.ready.in_list t₀
          (going_over (tests_in w) (prepared_listing w) l s.at limit o (passed w) first.in_list (number_of r.kind) (kind_on w) (number_some r.kind)
          (rw T.line_is at (over w)))
          T.room

      -- a reply's tree is written
      module _ {end : ℕ}
          (below : (w : Prepared f)
          → Fits (tree_entries (tests_in w) (line_of line (s.depth + 1)) (get_or f.arguments.now r.index 0) (number_of r.kind) next s.at) next limit end t t') where
        fits_on : (w : Prepared f) → Fits (tree_entries (tests_in w) l (get_or f.arguments.now r.index 0) (number_of r.kind) next s.at) next limit end t t'
        fits_on w = rw T.line_is at (below w)

        -- and has a number
        turn_room : next < end
        turn_room =
            let w = T.ready.prepared in tree_room (tests_in w) l (get_or f.arguments.now r.index 0) (number_of r.kind) next s.at (fits_on w)

        turn_high : end ≤ limit
        turn_high = (below T.ready.prepared).within

        -- below the largest budget
        pub turn_mark : next < 4096
        turn_mark = omega (arith, turn_room, turn_high, T.ready.budget)

        -- the tables have the room that they had
        turn_hold : Hold limit t'
        turn_hold = fits_hold (below T.ready.prepared) T.tables_hold

        -- so its mark can be read
        pub turn_mark_in : next < length t'.marks
        turn_mark_in = omega (arith, turn_room, turn_high, turn_hold.marks_hold)

        pub turn_step : (line' : List ℕ) {mark' : ℕ} → line_of line' (s.depth + 1) ≡ line_of line (s.depth + 1)
            → length line' ≡ length line → mark' ≡ settled_by mark (get_or t'.marks next 0)
            → Turn f line₀ s limit t₀ joined line' t' mark' end (r.index + 1)
        turn_step line' kept nl em = record {
          ready = T.ready;
          joined_is = T.joined_is;
          room = T.room;
          line_is = kept ∙ T.line_is;
          line_long = nl ∙ T.line_long;
          tables_hold = turn_hold;
          low = omega (arith, T.low, turn_room);
          high = turn_high;
          start_in = omega (arith, first.in_list);
          going = λ w. rw em
              (going_step (tests_in w) (prepared_listing w) l s.at limit o (passed w) first.in_list (number_of r.kind) (kind_on w) (number_some r.kind)
              (fits_on w) T.tables_hold.marks_hold);
        }
