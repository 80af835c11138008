-- `defeaters::attacked` meets its contract: the literal is looked at only where the mask is within y.
use mathlib.Core.Path.{ap, ◌∙◌}
use Prim.Native.Nat.{ℕ}
use Rattle.literals.specs.Sets.{has, within}
use Rattle.literals.specs.Inside.Words.{set_of}
use Rattle.literals.proofs.Tests.{and_passed, and_failed}
use Rattle.argument.specs.Argument.{literal_of}
use Rattle.defeat.proofs.defeaters.attacked.Goals as goal

pub returns-then-within : goal.returns-then-within
returns-then-within c = let a = c.args in
    and_passed (c.within.ensures ∙ ap (λ (m : ℕ). within m a.y) c.mask_of.ensures)
    c.if-within.true
    (c.has.ensures ∙ ap (has (set_of a.excluded)) c.literal_of.ensures.0)

pub returns-else-within : goal.returns-else-within
returns-else-within c = let a = c.args in
    and_failed (has (set_of a.excluded) (literal_of a.z))
    (c.within.ensures ∙ ap (λ (m : ℕ). within m a.y) c.mask_of.ensures) c.if-within.false
