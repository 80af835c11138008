-- `pairs_of` meets its contract: one atom at a time.
use Rattle.literals.specs.Inside.Words.{set_of}
use Rattle.closing.proofs.Pairings.{PairsTo}
use Rattle.closing.proofs.pairs_of.Given as goal

abbrev pub invariant-loop-atom : goal.invariant-loop-atom
invariant-loop-atom l = PairsTo (set_of l.set) (set_of l.found) l.atom
