-- `strict::bears` meets its contract: two tests.
use mathlib.Core.Path.{ap, ap₂, ◌∙◌}
use mathlib.Core.Bool.{Bool, not, ◌&&◌}
use Prim.Native.Nat.{ℕ}
use lib.Dec.{eqb}
use Rattle.literals.specs.Sets.{has}
use Rattle.literals.specs.Inside.Words.{set_of}
use Rattle.excluded.proofs.strict.bears.Goals as goal

pub returns : goal.returns
returns c = ap₂ (λ (n : ℕ) (b : Bool). eqb n 0 && not b) c.need.ensures (c.has.ensures ∙ ap (has (set_of c.args.derived)) c.head.ensures)
