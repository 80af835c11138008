-- `derivation::excludes` meets its contract.
use Rattle.derivation.proofs.Turns.{excludes_by}
use Rattle.derivation.proofs.excludes.Goals as goal

pub returns : goal.returns
returns c p h = excludes_by p.rules _ _ _ _ _ _ _ c.empty.ensures c.insert.ensures c.insert-both.ensures
    (c.close.ensures p h) c.contradictory.ensures
