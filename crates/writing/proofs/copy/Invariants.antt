-- The bytes from the k-th on are left to be written.
use lib.ListN.{drop}
use Rattle.lists.proofs.Stores.{Writing}
use Rattle.writing.proofs.copy.Given as goal

abbrev pub invariant-loop-k : goal.invariant-loop-k
invariant-loop-k l = Writing l.fn.out l.out l.at l.next l.bytes (drop l.k l.bytes)
