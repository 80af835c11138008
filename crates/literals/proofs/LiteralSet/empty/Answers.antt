-- `LiteralSet::empty` meets its contract.
use mathlib.Core.Path.{refl}
use Rattle.literals.specs.Inside.Words.{set_of}
use Rattle.literals.proofs.LiteralSet.empty.Goals as goal

pub returns : goal.returns
unfolding set_of
returns c = refl
