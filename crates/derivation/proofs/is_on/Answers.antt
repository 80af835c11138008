-- `derivation::is_on` meets its contract.
use mathlib.Core.Path.{ap, ◌∙◌}
use Prim.Native.Nat.{ℕ}
use Rattle.literals.specs.Sets.{within}
use Rattle.derivation.proofs.is_on.Goals as goal

pub returns : goal.returns
returns c = let mask = c.args.mask in
    c.within.ensures ∙ ap (λ (n : ℕ). within n mask) c.need.ensures
