use mathlib.Core.Path.{ap}
use Prim.Native.Nat.{◌+◌, ◌*◌}
use Rattle.listing.specs.Inside.Listing.{members_from}
use Rattle.collecting.specs.Inside.Columns.{column_list}
use Rattle.collecting.proofs.Lists.{parts_room, parts_more, parts_written}
use Rattle.collecting.proofs.write_columns.Goals as goal

pub write_set-next-requires-clause-set_in_bounds : goal.write_set-next-requires-clause-set_in_bounds
write_set-next-requires-clause-set_in_bounds c = let a = c.args in
    parts_room (column_list a.columns.now a.w) _ _ _ a.at c.loop-k.next _ c.loop-k.invariant _ c.in-Some.ensures.steps.0 _
    (ap (members_from ((64 * a.w + c.in-Some.k) * 128) 128) c.entry-literals.ensures) c.requires.w_in_bounds

pub loop-k-preserved : goal.loop-k-preserved
loop-k-preserved c = let a = c.args in
    parts_more (column_list a.columns.now a.w) _ _ _ a.at c.loop-k.next _ c.loop-k.invariant _ c.in-Some.ensures.steps.0 _
    (ap (members_from ((64 * a.w + c.in-Some.k) * 128) 128) c.entry-literals.ensures) _ _ _ c.in-Some.ensures.steps.1 c.write_set-next.ensures

pub returns : goal.returns
returns c = let a = c.args in
    parts_written (column_list a.columns.now a.w) _ _ _ a.at c.loop-k.next _ c.loop-k.invariant c.in-None.ensures.steps.0
