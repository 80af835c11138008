-- `contradictory_among` meets its contract: the selected rules derive what they do in their own table.
use Rattle.clash.specs.Inside.Selected.{selected}
use Rattle.clash.proofs.Selected.{selected_clash}
use Rattle.clash.proofs.contradictory_among.Goals as goal

pub returns : goal.returns
returns c p h = selected_clash _ p.rules _ _ _ _ c.empty.ensures
    (c.close.ensures (selected _ p) (c.select.ensures.holds p h)) c.contradictory.ensures
