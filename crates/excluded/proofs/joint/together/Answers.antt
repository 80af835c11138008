-- `joint::together` meets its contract.
use mathlib.Core.Path.{refl, subst}
use mathlib.Core.List.{List}
use Prim.Native.Nat.{ℕ}
use Rattle.literals.specs.Inside.Words.{set_of}
use Rattle.literals.proofs.Words.{joined_below}
use Rattle.rows.specs.Layout.{Rows}
use Rattle.excluded.proofs.Fillings.{row_together}
use native.Mathlib.Omega.{arith}
use Rattle.excluded.proofs.joint.together.Goals as goal

pub returns : goal.returns
unfolding set_of
returns c rules d reduced reached mine = row_together c.args.laid.now.rules.now c.args.laid.now.keep.now c.args.laid.now.base.now c.args.laid.now.laid rules d _ reduced c.args.reach.now
    c.fill.new.rows c.args.a c.args.u.lo c.args.u.hi _ reached mine c.told-reach c.requires (omega arith) refl
    (joined_below c.args.u.hi c.args.u.lo (omega arith) (omega arith))
    (subst (λ (z : List ℕ). Rows c.args.laid.now.rules.now c.args.laid.now.keep.now c.args.laid.now.base.now z c.fill.new.rows) c.store.ensures c.fill.ensures)
    c.pairs.ensures
