-- `turn` meets its contract, a law for each answer.
use mathlib.Core.Bool.{not}
use mathlib.Core.Path.{sym, ap, ◌∙◌}
use Prim.Native.Nat.{◌+◌}
use Rattle.live.specs.Steps.{Taken, TakenTo}
use native.Mathlib.Omega.{arith}
use Rattle.literals.specs.Inside.Words.{set_of}
use Rattle.live.proofs.Takings.{taken_room, turn_ends, live_tested, cut_body}
use Rattle.live.proofs.turn.Goals as goal
use Rattle.live.proofs.turn.Goals.{After-insert-2}

pub store_row-requires : goal.store_row-requires
store_row-requires c = taken_room c.args.table.now (set_of c.args.derived) (set_of c.args.literals) c.args.p.n (set_of c.args.p.taken) c.args.live.now c.args.i (omega (arith, c.requires.shaped.few, c.requires.i_bound)) (sym c.has.ensures ∙ c.if-has.false) c.requires.taken

-- the rule is taken
module _ (c : After-insert-2) where
  ended : Taken c.args.table.now (set_of c.args.derived) (set_of c.args.literals) (c.args.p.n + 1) (set_of c.insert-2.result) c.store_row.new.table
      × (TakenTo c.args.table.now (set_of c.args.derived) (set_of c.args.literals) (set_of c.args.awaited) c.args.i (set_of c.args.p.taken)
      → TakenTo c.args.table.now (set_of c.args.derived) (set_of c.args.literals) (set_of c.args.awaited) (c.args.i + 1) (set_of c.insert-2.result))
  ended =
      turn_ends c.args.table.now (set_of c.args.derived) (set_of c.args.literals) (set_of c.args.awaited) c.args.p.n (set_of c.args.p.taken) c.args.live.now c.args.i c.head-head.result c.need.result c.minus-body.result
      (omega (arith, c.requires.shaped.few, c.requires.i_bound)) c.requires.i_bound (sym c.has.ensures ∙ c.if-has.false)
      (live_tested c.args.table.now (set_of c.args.derived) (set_of c.args.literals) c.args.i c.head-head.result (set_of c.body.result) (set_of c.minus-body.result) c.has-2.result c.within.result c.head-head.ensures c.body.ensures c.minus-body.ensures c.has-2.ensures c.within.ensures _ (ap not c.if-not-has-within.false))
      c.head-head.ensures c.need.ensures
      (cut_body c.args.table.now (set_of c.args.derived) (set_of c.args.literals) c.args.i c.head-head.result (set_of c.body.result) (set_of c.minus-body.result) c.has-2.result c.within.result c.head-head.ensures c.body.ensures c.minus-body.ensures c.has-2.ensures c.within.ensures)
      c.requires.taken _ c.store_row.ensures _ c.insert-2.ensures

pub returns-clause-taken_2 : goal.returns-clause-taken_2
returns-clause-taken_2 c = (ended (goal.at.returns-clause-taken_2 c).After-insert-2).0

pub returns-clause-taken_to : goal.returns-clause-taken_to
returns-clause-taken_to c = (ended (goal.at.returns-clause-taken_to c).After-insert-2).1
