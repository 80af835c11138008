use mathlib.Core.Path.{ap}
use native.Mathlib.Omega.{arith}
use Rattle.lists.proofs.Stores.{writing_none}
use Rattle.writing.specs.Image.{together}
use Rattle.writing.proofs.Outputs.{parts_none, part_room, part_written}
use Rattle.writing.proofs.parts.Goals as goal

pub locate-part-requires : goal.locate-part-requires
locate-part-requires c = c.requires.parts_at _ (omega (arith, c.from-i.ensures, c.requires.numbers.below c.loop-number.number-index (omega arith)))

pub copy-end-requires : goal.copy-end-requires
copy-end-requires c = part_room _ _ _ c.loop-number-test.true _ c.from-i.ensures _ _ c.locate-part.ensures _ _ _ _ c.loop-number.invariant c.requires.order_in_bounds

pub loop-number-preserved : goal.loop-number-preserved
loop-number-preserved c = part_written _ _ _ c.loop-number-test.true _ c.from-i.ensures _ _ c.locate-part.ensures _ _ _ _ c.loop-number.invariant _ _ c.copy-end.ensures

pub returns : goal.returns
returns c = writing_none _ _ _ _ _ _ c.loop-number.invariant (ap together (parts_none _ _ c.loop-number.number-index (omega arith)))
