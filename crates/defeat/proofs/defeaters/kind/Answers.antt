-- `defeaters::kind` meets its contract: without a rule x attacks nothing, and otherwise the search by x's row is the
-- defined one.
use mathlib.Core.Path.{sym, ap, ◌∙◌}
use Rattle.program.specs.Limits.{Mask}
use Rattle.preference.specs.Preference.{preferred_test}
use Rattle.excluded.specs.Inside.Exclusions.{excluded_by}
use Rattle.defeat.proofs.Attacks.{listed_mask_lem, kind_strict, kind_weighed}
use Rattle.defeat.proofs.defeaters.kind.Goals as goal

pub returns-then-x-lt128 : goal.returns-then-x-lt128
returns-then-x-lt128 c p u rows ready lx ly = sym (kind_strict ready _ _ lx ly (preferred_test p) c.if-x-lt128.true)

pub returns : goal.returns
returns c p u rows ready lx ly = let a = c.args in
    let row = c.entry-row.ensures.row ∙ ap (excluded_by a.exclusions.now) c.literal_of.ensures.0 in
    let x-mask = c.mask_of.ensures in
    let below : Mask p c.mask_of.result = rw x-mask (listed_mask_lem p ready.limits a.x lx) in
    let same = c.weigh.ensures p ready.limits ready.holds below ready.listed in
    (rw (row, x-mask, c.mask_of-2.ensures) at same)
    ∙ kind_weighed ready _ _ lx ly (preferred_test p) c.if-x-lt128.false
