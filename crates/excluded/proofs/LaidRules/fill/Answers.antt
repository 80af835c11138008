-- What the leaf asks is what rules that are laid have.
use Rattle.excluded.proofs.Fillings.{laid_needs, laid_bearing, laid_placed}
use Rattle.excluded.proofs.LaidRules.fill.Goals as goal

pub fill-requires : goal.fill-requires
fill-requires c = let laid = c.args.self.now.laid in record {
  shaped = laid.shaped;
  needs_one = laid_needs _ _ _ laid;
  bearing = laid_bearing _ _ _ laid;
  placed = laid_placed _ _ _ laid _ c.told-rows;
}

pub returns : goal.returns
returns c = c.fill.ensures.rows
