use mathlib.Core.Path.{◌≡◌, subst}
use Prim.Native.Nat.{ℕ}
use Rattle.excluded.proofs.Crossings.{Crossing, crossing_none, crossing_skip, crossing_more}
use native.Mathlib.Omega.{arith}
use Rattle.excluded.proofs.joint.cross.Goals as goal

pub loop-atom-init : goal.loop-atom-init
loop-atom-init c = crossing_none _ _ c.clear.ensures.by_index

pub loop-atom-preserved-then-is_empty : goal.loop-atom-preserved-then-is_empty
loop-atom-preserved-then-is_empty c = crossing_skip _ _ c.loop-atom.atom _ _ _ c.entry-positive.ensures.bits c.entry-negative.ensures.bits c.loop-atom.invariant _ _ c.is_empty.ensures c.is_empty-in-loop-atom.ensures c.if-is_empty.true

pub loop-atom-preserved : goal.loop-atom-preserved
loop-atom-preserved c = crossing_more _ _ c.loop-atom.atom _ _ _ c.entry-positive.ensures.bits c.entry-negative.ensures.bits c.loop-atom.invariant c.add.new.exclusions _ _ c.meets-clashes.ensures
    c.add.ensures c.add-in-loop-atom.ensures

pub returns : goal.returns
returns c = let all : Crossing c.args.reach.now c.loop-atom.exclusions 64 c.loop-atom.clashes =
    subst (λ (n : ℕ). Crossing c.args.reach.now c.loop-atom.exclusions n c.loop-atom.clashes) (let e : c.loop-atom.atom ≡ 64 = omega arith in e) c.loop-atom.invariant in
    record { crossed = all.crossed; coherent = all.coherent }
