use Rattle.lists.proofs.Stores.{writing_all}
use Rattle.literals.specs.Inside.Words.{set_of}
use Rattle.collecting.proofs.Lists.{lists_room, lists_more, lists_written, list_marked}
use native.Mathlib.Omega.{arith}
use Rattle.collecting.proofs.write.Invariants.{marked}
use Rattle.collecting.proofs.write.Goals as goal

pub loop-i-init : goal.loop-i-init
loop-i-init c = writing_all _ _ _ _ (list_marked c.args.rows.now (set_of c.args.literals) c.args.touched.now c.requires.marked)

pub write_words-at-requires-clause-i_in_bounds : goal.write_words-at-requires-clause-i_in_bounds
write_words-at-requires-clause-i_in_bounds c = let a = c.args in
    lists_room (marked a.rows.now (set_of a.literals) a.touched.now) 16 _ _ _ c.loop-i.at c.loop-i.i c.loop-i.invariant (omega arith) c.requires.literals_in_bounds

pub loop-i-preserved : goal.loop-i-preserved
loop-i-preserved c = let a = c.args in
    lists_more (marked a.rows.now (set_of a.literals) a.touched.now) 16 _ _ _ c.loop-i.at c.loop-i.i c.loop-i.invariant (omega arith) _ _ c.write_words-at.ensures

pub returns : goal.returns
returns c = let a = c.args in
    lists_written (marked a.rows.now (set_of a.literals) a.touched.now) 16 _ _ _ c.loop-i.at c.loop-i.i c.loop-i.invariant (omega arith)
