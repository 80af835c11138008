use mathlib.Core.Path.{◌≡◌, subst}
use Prim.Native.Nat.{ℕ}
use Rattle.literals.specs.Inside.Words.{set_of}
use Rattle.excluded.specs.Inside.Joint.{Pairs}
use Rattle.excluded.proofs.Crossings.{pairs_none, pairs_more}
use native.Mathlib.Omega.{arith}
use Rattle.excluded.proofs.joint.pairs.Goals as goal

pub loop-atom-init : goal.loop-atom-init
loop-atom-init c = pairs_none _ _ c.empty-found.ensures

pub loop-atom-preserved : goal.loop-atom-preserved
loop-atom-preserved c = pairs_more _ c.loop-atom.atom _ _ c.entry-positive.ensures.bits c.entry.ensures.bits _ _ _ _ c.minus.ensures c.minus-in-loop-atom.ensures c.union-found.ensures c.loop-atom.invariant

pub returns : goal.returns
returns c = subst (λ (n : ℕ). Pairs c.args.rows.now n (set_of c.loop-atom.found)) (let e : c.loop-atom.atom ≡ 64 = omega arith in e) c.loop-atom.invariant
