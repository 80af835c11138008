-- `strict::rules` meets its contract: first from the literals that are no heads, then from all.
use mathlib.Core.Path.{sym, subst}
use Rattle.literals.specs.Sets.{union}
use Rattle.literals.specs.Inside.Words.{set_of}
use Rattle.literals.proofs.Within.{within_trans}
use Rattle.excluded.specs.Inside.Strict.{StrictRules}
use Rattle.excluded.proofs.Takings.{taken_none, taken_wider, wider_given, taken_all}
use Rattle.excluded.proofs.strict.rules.Goals as goal

pub grow-some-requires : goal.grow-some-requires
grow-some-requires c = record {
  shaped = c.requires;
  fact = c.bearing.ensures;
  taken = taken_none _ _ _ _ _ c.empty.ensures;
}

pub grow-last-requires : goal.grow-last-requires
grow-last-requires c = record {
  shaped = c.requires;
  fact = c.bearing.ensures;
  taken = taken_wider _ _ c.union-3.ensures c.grow-some.ensures.taken_2;
}

pub returns : goal.returns
returns c = subst (StrictRules _ _ _) (sym c.store_counts.ensures)
    (taken_all c.args.table.now (set_of c.args.derived) (union (set_of c.args.u) (set_of c.args.derived)) c.grow-last.result.n (set_of c.grow-last.result.taken)
    (set_of c.grow-last.result.reach) _
    (within_trans (union (set_of c.args.u) (set_of c.args.derived)) (set_of c.union-3.result) (set_of c.grow-last.result.reach)
    (wider_given (union (set_of c.args.u) (set_of c.args.derived)) (set_of c.grow-some.result.reach) _ _ c.union-3.ensures c.union-2.ensures) c.grow-last.ensures.reach_value)
    c.grow-last.array_long c.grow-last.ensures.taken_2 _ c.bearing.ensures c.grow-last.ensures.by_index)
