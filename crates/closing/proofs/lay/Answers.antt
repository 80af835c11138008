-- `lay` meets its contract.
use Rattle.literals.specs.Inside.Words.{set_of}
use Rattle.closing.proofs.Headers.{header}
use Rattle.closing.proofs.lay.Goals as goal

pub returns : goal.returns
returns c = header (set_of c.args.plan.derived) (set_of c.args.plan.literals) c.args.plan.end c.args.plan.span c.args.keep.now c.args.base.now c.args.rows.now c.blank.new.rows c.scatter.new.table c.scatter-2.new.table c.scatter-3.new.table c.requires
    c.scatter-3.ensures.set_bound c.scatter.ensures.set_bound
    c.blank.ensures c.scatter.ensures.scattered c.scatter-2.ensures.scattered c.scatter-3.ensures.scattered
