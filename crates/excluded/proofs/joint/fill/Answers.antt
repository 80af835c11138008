-- `joint::fill` meets its contract: what crosses, and then the joint literals.
use Rattle.literals.specs.Inside.Words.{set_of}
use Rattle.literals.proofs.Words.{joined_below}
use Rattle.excluded.proofs.Fillings.{excluded_all}
use native.Mathlib.Omega.{arith}
use Rattle.excluded.proofs.joint.fill.Goals as goal

pub returns : goal.returns
unfolding set_of
returns c rules d reduced reached =
    excluded_all c.args.laid.now.rules.now c.args.laid.now.keep.now c.args.laid.now.base.now c.args.laid.now.laid rules d (set_of c.args.u) (set_of c.unsettled-joint.result) reduced c.args.reach.now _ _
    (joined_below c.args.u.hi c.args.u.lo (omega arith) (omega arith)) reached c.cross-clashes.ensures.crossed
    (λ a h n. let w = c.unsettled-joint.ensures a h n in (c.cross-clashes.ensures.coherent w.0, w.1))
    c.join.ensures
