use mathlib.Core.Path.{◌≡◌, ap, ◌∙◌}
use Rattle.literals.proofs.Members.{has_empty}
use Rattle.minima.specs.Steps.{less_below}
use Rattle.minima.proofs.Places.{less_more}
use native.Mathlib.Omega.{arith}
use Rattle.minima.proofs.lowered.Goals as goal

pub loop-bit-init : goal.loop-bit-init
unfolding less_below
loop-bit-init c = λ k h. has_empty k

pub loop-bit-preserved : goal.loop-bit-preserved
loop-bit-preserved c = less_more _ _ _ _ c.lower-places.ensures c.loop-bit.invariant

pub returns : goal.returns
returns c = λ k h. c.loop-bit.invariant k h ∙ (let all : c.loop-bit.bit ≡ 6 = omega arith in ap (less_below c.args.x k) all)
