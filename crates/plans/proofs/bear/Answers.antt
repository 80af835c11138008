-- `bear` meets its contract: the rule adds nothing, or what it needs and what bears on its body.
use lib.Bits.{or_lt}
use lib.ListN.{get_or}
use Rattle.plans.proofs.Bearings.{bears_none, bears_more}
use native.Mathlib.Omega.{arith}
use borrow.Author.Rules.{rules}
use Rattle.plans.proofs.bear.Goals as goal

pub returns-then-new-old : goal.returns-then-new-old
returns-then-new-old c = bears_none _ c.args.i _ _ _ _ c.head-head.result c.body-body.ensures c.need.ensures
    c.requires.needs_one c.requires.i_bound c.join-all.ensures c.head-head.ensures c.if-new-old.true

pub returns : goal.returns
returns c = bears_more _ c.args.i c.args.keep.now _ _ _ c.head-head.result c.body-body.ensures
    c.need.ensures c.requires.needs_one c.requires.i_bound c.join-all.ensures c.head-head.ensures c.if-new-old.false
    (omega (arith, c.head-head.ensures, c.requires.shaped.literals c.args.i c.requires.i_bound, c.told-keep))
    (or_lt 64 (get_or c.args.keep.now c.head-head.result 0) c.join-all.result (search rules) (search rules))
