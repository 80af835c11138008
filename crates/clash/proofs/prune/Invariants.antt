-- `prune` meets its contract. The invariant: from n down what is kept ends as all the start does.
use Rattle.literals.specs.Inside.Words.{set_of}
use Rattle.clash.proofs.Turns.{Pruning}
use Rattle.clash.proofs.prune.Given as goal

abbrev pub invariant-loop-n : goal.invariant-loop-n
invariant-loop-n l = Pruning l.table (set_of l.initial.kept) l.n (set_of l.kept)
