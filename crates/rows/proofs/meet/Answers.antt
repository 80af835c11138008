use Prim.Native.Nat.{◌+◌, ◌^◌, ◌<◌}
use Rattle.literals.proofs.Within.{within_refl, within_each, within_trans, minus_within}
use Rattle.literals.specs.Inside.Words.{set_of}
use lib.Bits.{bit_and, and_le_r}
use lib.ListN.{length, get_or}
use Rattle.rows.proofs.Meets.{met_none, met_more}
use native.Mathlib.Omega.{arith}
use Rattle.rows.proofs.meet.Goals as goal
use Rattle.rows.proofs.meet.Goals.{In-Some}

-- the place of the literal's word
module _ (c : In-Some) where
  index : get_or c.args.base.now c.in-Some.literal 0 + bit_and c.args.w (get_or c.args.keep.now c.in-Some.literal 0)
      < length c.args.rows.now
  index =
      let readable = c.requires.readable c.in-Some.literal
      (within_each (set_of c.loop-literal.literal-iterator.left) (set_of c.args.literals) c.loop-literal.invariant.1 c.in-Some.literal c.in-Some.ensures.steps.0.member) in
      omega (arith, readable.1, and_le_r c.args.w (get_or c.args.keep.now c.in-Some.literal 0))

pub loop-literal-init : goal.loop-literal-init
loop-literal-init c = rw c.into_iter-literal-iterator.ensures.into_iter_gives (λ r m. m, within_refl (set_of c.args.literals))

pub overflow_add-x : goal.overflow_add-x
overflow_add-x c = omega (arith, index (goal.at.overflow_add-x c).In-Some)

pub offset_bounds-rows-base : goal.offset_bounds-rows-base
offset_bounds-rows-base c = omega (arith, index (goal.at.offset_bounds-rows-base c).In-Some)

pub bounds-rows-base : goal.bounds-rows-base
bounds-rows-base c = omega (arith, index (goal.at.bounds-rows-base c).In-Some)

pub loop-literal-preserved : goal.loop-literal-preserved
loop-literal-preserved c = rw c.in-Some.ensures.steps.1 (
  λ r m.
      c.loop-literal.invariant.0 r
      (met_more _ (set_of c.loop-literal.literal-iterator.left) _ c.in-Some.literal c.in-Some.ensures.steps.0.member r m),
  within_trans _ (set_of c.loop-literal.literal-iterator.left) _ (minus_within _ (2 ^ c.in-Some.literal)) c.loop-literal.invariant.1,
)

pub returns : goal.returns
returns c = c.loop-literal.invariant.0 _ (met_none _ (set_of c.loop-literal.literal-iterator.left) _ c.in-None.ensures.steps.0)
