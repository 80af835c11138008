-- `reach` meets its contract.
use Rattle.literals.specs.Inside.Words.{set_of}
use Rattle.closing.proofs.Masks.{reach_by}
use Rattle.closing.proofs.reach.Goals as goal

pub returns : goal.returns
returns c = λ p holds. reach_by p.rules (set_of c.empty.result) (set_of c.empty-2.result) (set_of c.close-derived.result) (set_of c.close-all.result) (set_of c.minus.result) c.empty.ensures c.empty-2.ensures (c.close-derived.ensures p holds) (c.close-all.ensures p holds) c.minus.ensures
