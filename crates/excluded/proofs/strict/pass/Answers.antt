use mathlib.Core.Path.{◌≡◌, sym, ◌∙◌}
use Prim.Native.Nat.{◌^◌}
use Rattle.literals.specs.Inside.Words.{set_of}
use Rattle.literals.proofs.Within.{within_refl, within_trans, within_each, minus_within}
use Rattle.excluded.proofs.Takings.{resting_none, resting_more, resting_all}
use native.Mathlib.Omega.{arith}
use Rattle.excluded.proofs.strict.pass.Goals as goal

pub loop-i-init : goal.loop-i-init
loop-i-init c = rw c.into_iter-i-iterator.ensures.into_iter_gives (record {
  within_left = within_refl (set_of c.args.left);
  n_value = omega arith;
  reach_value = within_refl (set_of c.args.from.reach);
  taken = c.requires.taken;
  resting = λ z. resting_none c.args.table.now _ _ _;
})

pub turn-p-requires-clause-i_bound : goal.turn-p-requires-clause-i_bound
turn-p-requires-clause-i_bound c = c.requires.by_index c.in-Some.i
    (within_each (set_of c.loop-i.i-iterator.left) (set_of c.args.left) c.loop-i.invariant.within_left c.in-Some.i c.in-Some.ensures.steps.0.member)

pub loop-i-preserved : goal.loop-i-preserved
loop-i-preserved c = let so = c.loop-i.invariant in let left = set_of c.loop-i.i-iterator.left in let next = c.in-Some.ensures.steps.1 in record {
  within_left = within_trans (set_of c.next.new.self.left) left (set_of c.args.left) (rw next (minus_within left (2 ^ c.in-Some.i))) so.within_left;
  n_value = omega arith;
  reach_value = within_trans (set_of c.args.from.reach) (set_of c.loop-i.p.reach) _ so.reach_value c.turn-p.ensures.reach_value;
  taken = c.turn-p.ensures.taken_2;
  resting = λ z.
      let still : c.loop-i.p.n ≡ c.args.from.n = omega (arith, c.turn-p.ensures.n_value, so.n_value) in
      resting_more c.args.table.now _ _ _ left (set_of c.loop-i.p.taken) (set_of c.loop-i.p.reach) c.in-Some.i _ _ _
      next (c.turn-p.ensures.taken_value (z ∙ sym still)) (so.resting still);
}

pub returns-clause-still : goal.returns-clause-still
returns-clause-still c z = resting_all c.args.table.now _ _ _ (set_of c.loop-i.i-iterator.left) _ _ c.in-None.ensures.steps.0 (c.loop-i.invariant.resting z)
