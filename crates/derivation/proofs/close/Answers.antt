-- `derivation::close` meets its contract: a gathering ends in the closure.
use Rattle.derivation.proofs.Gatherings.{gathers_closure}
use Rattle.derivation.proofs.close.Goals as goal

pub returns : goal.returns
returns c p h = gathers_closure _ (c.gather.ensures.gathers p h)
