-- `copy` meets its contract: one byte after the other.
use mathlib.Core.Path.{refl, ap}
use native.Mathlib.Omega.{arith}
use lib.ListN.{length, drop_of_length-le}
use Rattle.lists.proofs.Stores.{writing_all, writing_one, writing_none}
use Rattle.part.proofs.Bytes.{drop_at}
use Rattle.writing.proofs.copy.Goals as goal

pub loop-k-init : goal.loop-k-init
loop-k-init c = writing_all _ _ _ _ refl

pub bounds-out-next : goal.bounds-out-next
bounds-out-next c =
    let w = c.loop-k.invariant in
    omega (arith, ap length (drop_at c.args.bytes.now c.loop-k.k c.loop-k-test.true), w.places, w.kept, c.requires)

pub loop-k-preserved : goal.loop-k-preserved
loop-k-preserved c = writing_one _ _ _ _ _ _ c.loop-k.invariant _ _ (drop_at c.args.bytes.now c.loop-k.k c.loop-k-test.true)

pub returns : goal.returns
returns c = writing_none _ _ _ _ _ _ c.loop-k.invariant (drop_of_length-le c.args.bytes.now c.loop-k-test.false)
