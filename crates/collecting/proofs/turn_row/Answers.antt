-- `turn_row` meets its contract, a law for each answer.
use mathlib.Core.Path.{◌≡◌, refl, sym, ap, ◌∙◌}
use mathlib.Core.Bool.{false}
use Rattle.literals.specs.Sets.{within}
use Rattle.literals.proofs.Members.{has_empty}
use Rattle.closures.specs.Inside.Table.{keeps_at}
use Rattle.collecting.proofs.Told.{none_beyond}
use Rattle.collecting.proofs.Puts.{put_none}
use Rattle.collecting.proofs.turn_row.Goals as goal

pub returns-then-not-within : goal.returns-then-not-within
returns-then-not-within c = let a = c.args in
    let out : within a.w (keeps_at a.rows.now a.literal) ≡ false =
    ap (within a.w) (sym c.span.ensures.0) ∙ sym c.within.ensures ∙ c.if-not-within.true in (
      (λ k h. has_empty k ∙ sym (none_beyond a.rows.now a.literal a.w c.requires.laid.1 out k h)),
      put_none a.literal 0 a.columns.now refl,
    )
