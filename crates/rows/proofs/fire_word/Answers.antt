-- `fire_word` meets its contract: the word lacks the need, or the rule adds nothing, or its head.
use mathlib.Core.Path.{sym, ap, ◌∙◌}
use Prim.Native.Nat.{ℕ, ◌+◌, ◌<◌}
use lib.Bits.{bit_and, or_lt}
use lib.ListN.{length, get_or}
use borrow.Author.Tests.{eq-eqb, ne_eqb}
use Rattle.literals.specs.Sets.{within}
use Rattle.literals.specs.Inside.Words.{set_of}
use Rattle.rows.proofs.Firings.{word_skip, apart_reads, apart_none, apart_more, apart_inside}
use native.Mathlib.Omega.{arith}
use borrow.Author.Rules.{rules}
use Rattle.rows.proofs.fire_word.Goals as goal
use Rattle.rows.proofs.fire_word.Goals.{Start}

-- the place of the word
module _ (c : Start) where
  index : c.args.to + c.args.w < length c.args.rows.now
  index =
      apart_inside c.args.table.now c.args.keep.now c.args.base.now c.args.i c.args.w (length c.args.rows.now)
      (set_of c.args.body) c.args.low c.args.must c.args.to c.requires.decoded c.requires.placed c.requires.i_value

pub returns-then-must-w : goal.returns-then-must-w
returns-then-must-w c = word_skip _ _ _ c.args.i c.args.w _
    (ap (λ (m : ℕ). within m c.args.w) (sym c.requires.decoded.must_is) ∙ ne_eqb (bit_and c.args.must c.args.w) c.args.must c.if-must-w.true)

pub meet-ready-requires-clause-readable : goal.meet-ready-requires-clause-readable
meet-ready-requires-clause-readable c = apart_reads _ _ _ c.args.i c.args.w _ _ c.args.low c.args.must c.args.to c.requires.decoded c.requires.placed

pub overflow_add-at : goal.overflow_add-at
overflow_add-at c = omega (arith, index (goal.at.overflow_add-at c).Start)

pub offset_bounds-rows-at : goal.offset_bounds-rows-at
offset_bounds-rows-at c = omega (arith, index (goal.at.offset_bounds-rows-at c).Start)

pub bounds-rows-at : goal.bounds-rows-at
bounds-rows-at c = omega (arith, index (goal.at.bounds-rows-at c).Start)

pub returns-then-new-old : goal.returns-then-new-old
returns-then-new-old c = apart_none _ _ _ c.args.i c.args.w _ _ c.args.low c.args.must c.args.to c.requires.decoded
    c.requires.placed _ c.requires.i_value (eq-eqb (bit_and c.args.must c.args.w) c.args.must c.if-must-w.false)
    c.meet-ready.ensures c.if-new-old.true

pub offset_bounds-rows-at-2 : goal.offset_bounds-rows-at-2
offset_bounds-rows-at-2 c = omega (arith, index (goal.at.offset_bounds-rows-at-2 c).Start)

pub bounds-rows-at-2 : goal.bounds-rows-at-2
bounds-rows-at-2 c = omega (arith, index (goal.at.bounds-rows-at-2 c).Start)

pub returns : goal.returns
returns c = apart_more _ _ _ c.args.i c.args.w c.args.rows.now _ c.args.low c.args.must c.args.to
    c.requires.decoded c.requires.placed _ c.requires.i_value (eq-eqb (bit_and c.args.must c.args.w) c.args.must c.if-must-w.false)
    c.meet-ready.ensures c.if-new-old.false
    (or_lt 64 (get_or c.args.rows.now (c.args.to + c.args.w) 0) c.meet-ready.result
    (search rules) (search rules))
