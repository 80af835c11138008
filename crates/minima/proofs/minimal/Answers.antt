use mathlib.Core.Path.{refl}
use Prim.Native.Nat.{◌+◌, ◌<◌, ◌^◌}
use lib.ListN.{get_or}
use Rattle.literals.specs.Sets.{minus}
use Rattle.literals.proofs.Members.{minus_less}
use Rattle.literals.proofs.Within.{within_refl, within_trans, within_each, minus_within}
use Rattle.minima.proofs.Cuts.{cut_none, cut_more, minima_none, minima}
use native.Mathlib.Omega.{arith}
use Rattle.minima.proofs.minimal.Goals as goal
use Rattle.minima.proofs.minimal.Goals.{After-clear}

-- the word without one bit of i comes before word i
module _ (c : After-clear) where
  earlier : c.clear.result < c.args.i
  earlier =
      rw c.clear.ensures
      (minus_less c.args.i c.in-Some.bit
      (within_each c.loop-bit.bit-iterator.left _ c.loop-bit.invariant.0 c.in-Some.bit
      c.in-Some.ensures.steps.0.member))

pub loop-bit-init : goal.loop-bit-init
loop-bit-init c = rw (c.into_iter-bit-iterator.ensures.into_iter_gives, c.bits-bit-items.ensures) (within_refl c.args.i, λ r m. m)

pub overflow_add-less : goal.overflow_add-less
overflow_add-less c = omega (arith, earlier (goal.at.overflow_add-less c).After-clear)

pub offset_bounds-rows-at-in-loop-bit : goal.offset_bounds-rows-at-in-loop-bit
offset_bounds-rows-at-in-loop-bit c = omega (arith, earlier (goal.at.offset_bounds-rows-at-in-loop-bit c).After-clear)

pub bounds-rows-at-in-loop-bit : goal.bounds-rows-at-in-loop-bit
bounds-rows-at-in-loop-bit c = omega (arith, earlier (goal.at.bounds-rows-at-in-loop-bit c).After-clear)

pub returns-then-x-eq0 : goal.returns-then-x-eq0
returns-then-x-eq0 c = minima_none (λ j. get_or c.args.rows.now (c.args.at + j) 0) c.args.i (minus c.loop-bit.bit-iterator.left (2 ^ c.in-Some.bit)) _ c.if-x-eq0.true (λ r m.
    c.loop-bit.invariant.1 r (cut_more _ c.args.i c.loop-bit.bit-iterator.left _ c.in-Some.bit c.in-Some.ensures.steps.0.member r (rw c.clear.ensures at m)))

pub loop-bit-preserved : goal.loop-bit-preserved
loop-bit-preserved c = rw c.in-Some.ensures.steps.1 (
  within_trans (minus c.loop-bit.bit-iterator.left (2 ^ c.in-Some.bit)) c.loop-bit.bit-iterator.left c.args.i (minus_within c.loop-bit.bit-iterator.left (2 ^ c.in-Some.bit)) c.loop-bit.invariant.0,
  λ r m.
      c.loop-bit.invariant.1 r
      (cut_more _ c.args.i c.loop-bit.bit-iterator.left _ c.in-Some.bit c.in-Some.ensures.steps.0.member r (rw c.clear.ensures at m)),
)

pub returns : goal.returns
returns c = minima (λ j. get_or c.args.rows.now (c.args.at + j) 0) _ c.loop-bit.x c.lowered-less.result c.lowered-less.ensures
    (c.loop-bit.invariant.1 _ (cut_none _ _ c.loop-bit.bit-iterator.left _ _ c.in-None.ensures.steps.0 refl))
