use mathlib.Core.Path.{sym, ◌∙◌}
use mathlib.Core.Bool.{true, false}
use native.Mathlib.Omega.{arith}
use Rattle.literals.proofs.Members.{minus_less}
use Rattle.defeat.proofs.Searching.{some_none, some_here, some_more}
use Rattle.defeat.proofs.defeaters.some_derived.Goals as goal

pub loop-left-init : goal.loop-left-init
loop-left-init c = λ r m. m

pub lowest-requires : goal.lowest-requires
lowest-requires c = c.loop-left-test.true

pub overflow_add-first : goal.overflow_add-first
overflow_add-first c = omega (arith, c.lowest.ensures.small, c.requires.1)

pub derives-requires : goal.derives-requires
derives-requires c = (c.requires.0, omega (arith, c.lowest.ensures.small, c.requires.1))

pub returns-then-derives : goal.returns-then-derives
returns-then-derives c = c.loop-left.invariant true (some_here c.args.rows.now c.loop-left.left c.args.first c.args.mask c.lowest.result c.lowest.ensures.member (sym c.derives.ensures ∙ c.if-derives.true))

pub rest-left-requires : goal.rest-left-requires
rest-left-requires c = c.loop-left-test.true

pub loop-left-smaller : goal.loop-left-smaller
loop-left-smaller c = rw (c.rest-left.ensures _ c.lowest.ensures) (minus_less c.loop-left.left c.lowest.result c.lowest.ensures.member)

pub loop-left-preserved : goal.loop-left-preserved
loop-left-preserved c = λ r m. c.loop-left.invariant r (some_more c.args.rows.now c.loop-left.left c.args.first c.args.mask c.lowest.result r (sym c.derives.ensures ∙ c.if-derives.false) (rw (c.rest-left.ensures _ c.lowest.ensures) at m))

pub returns : goal.returns
returns c = c.loop-left.invariant false (some_none c.args.rows.now c.loop-left.left c.args.first c.args.mask c.loop-left-test.false)
