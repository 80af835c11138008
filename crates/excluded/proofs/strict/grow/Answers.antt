use Rattle.literals.specs.Inside.Words.{set_of}
use Rattle.literals.proofs.Within.{within_refl, within_trans}
use Rattle.excluded.proofs.Takings.{taken_most, open_left, still_all}
use native.Mathlib.Omega.{arith}
use Rattle.excluded.proofs.strict.grow.Goals as goal

pub loop-p-init : goal.loop-p-init
loop-p-init c = (within_refl (set_of c.args.from.reach), c.requires.taken)

pub pass-p-requires : goal.pass-p-requires
pass-p-requires c = record {
  shaped = c.requires.shaped;
  by_index = open_left c.args.table.now (set_of c.args.derived) _ (set_of c.args.chosen) _ _ c.minus.ensures c.requires.fact;
  taken = c.loop-p.invariant.1;
}

pub returns-then-p-n : goal.returns-then-p-n
returns-then-p-n c = record {
  reach_value = within_trans (set_of c.args.from.reach) (set_of c.loop-p.p.reach) (set_of c.pass-p.result.reach) c.loop-p.invariant.0 c.pass-p.ensures.reach_value;
  taken_2 = c.pass-p.ensures.taken_2;
  by_index = still_all c.args.table.now (set_of c.args.chosen) (set_of c.loop-p.p.taken) (set_of c.loop-p.p.reach) _ _ _ c.minus.ensures
      (c.pass-p.ensures.still c.if-p-n.true);
}

pub loop-p-smaller : goal.loop-p-smaller
loop-p-smaller c = omega (arith, c.pass-p.ensures.n_value, taken_most c.pass-p.ensures.taken_2)

pub loop-p-preserved : goal.loop-p-preserved
loop-p-preserved c = (
  within_trans (set_of c.args.from.reach) (set_of c.loop-p.p.reach) (set_of c.pass-p.result.reach) c.loop-p.invariant.0 c.pass-p.ensures.reach_value,
  c.pass-p.ensures.taken_2,
)
