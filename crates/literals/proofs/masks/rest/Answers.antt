-- `masks::rest` meets its contract.
use mathlib.Core.Path.{sym, ◌∙◌}
use Rattle.literals.proofs.Bits.{and_pred}
use Rattle.literals.proofs.Members.{has_bit, lacks_bit, minus_power}
use Rattle.literals.proofs.masks.rest.Goals as goal

pub returns : goal.returns
returns c k low = let m = c.args.mask in
    and_pred m k (has_bit m k low.member) (λ j l. lacks_bit m j (low.least j l)) ∙ sym (minus_power m k low.member)
