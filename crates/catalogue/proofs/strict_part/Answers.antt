-- An accepted image fills the table with its program.
use mathlib.Core.Path.{sym, ◌∙◌}
use Rattle.derivation.proofs.Tables.{limits_shaped}
use Rattle.image.proofs.Accepted.{accepted_limits}
use Rattle.catalogue.proofs.strict_part.Goals as goal

pub close-requires : goal.close-requires
close-requires g c =
    let s = c.args.image.now in
    let e = sym c.read.ensures.0 ∙ c.in-Ok.is in
    limits_shaped _ _ (c.read.ensures.1 e) (accepted_limits s e)
