-- From the contract of the call from C.
use mathlib.Core.Path.{ap}
use Prim.Native.Nat.{ℕ, ◌/◌}
use lib.Dec.{eqb}
use Rattle.exclusion.proofs.by_host.Goals as goal

pub returns : goal.returns
returns c = ap (λ (n : ℕ). eqb (n / 65536) 1) c.foqtirel_query.ensures
