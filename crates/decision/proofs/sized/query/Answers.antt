-- `query` meets its contract: the table that it is lent has the shape that is planned for.
use Rattle.derivation.proofs.Tables.{limits_shaped}
use Rattle.closing.proofs.Masks.{limits_needs}
use Rattle.decision.proofs.sized.query.Goals as goal

pub plan-ground-requires : goal.plan-ground-requires
plan-ground-requires c =
    let w = c.requires.held in (limits_shaped w.program _ w.holds w.limits, limits_needs w.program _ w.holds w.limits)
