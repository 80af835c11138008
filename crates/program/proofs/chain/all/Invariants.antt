-- `chain::all` meets its contract: bit by bit, chains through the bits before k are closed.
use mathlib.Core.Path.{◌≡◌}
use Rattle.program.specs.Program.{Program, defeasibles}
use Rattle.program.specs.Limits.{Limits}
use Rattle.program.specs.Inside.Filling.{ListedIn}
use Rattle.program.proofs.Chaining.{ChainedTo}
use Rattle.program.proofs.chain.all.Given as goal

abbrev pub invariant-loop-k : goal.invariant-loop-k
invariant-loop-k l = (p : Program) → Limits p → l.bits ≡ defeasibles p.rules → ListedIn p l.initial.table → ChainedTo p l.k l.table
