-- `settle` meets its contract: the rows, the list, then the answer.
use mathlib.Core.Path.{sym, subst}
use lib.Seq.{length-take-le}
use Rattle.collecting.specs.Inside.Columns.{Derivable}
use Rattle.closing.proofs.Masks.{plan_derivable}
use Rattle.tree.proofs.Tables.{kept_none}
use Rattle.decision.proofs.Settlements.{counted, listing, settled_listed, settled_none}
use Rattle.decision.proofs.answering.settle.Goals as goal

pub returns-in_err-count : goal.returns-in_err-count
returns-in_err-count c = rw c.from_residual.ensures record {
  settles = λ w.
      let plan = c.requires.plans.plan_of w.program w.holds in
      let told = c.fill.ensures.tells w.program plan in
      let whole = subst (Derivable w.program.rules) (sym c.union-reached.ensures) (plan_derivable w.program _ _ _ plan) in
      settled_none w.program _ _ c.args.arguments.now _ _ (c.in_err-count.ensures.result w.program w.limits told whole)
      (c.in_err-count.ensures.written w.program w.limits told whole);
  kept = kept_none _;
}

pub slice_bounds-decide-end : goal.slice_bounds-decide-end
slice_bounds-decide-end c =
    let w = c.requires.asked.held in
    let plan = c.requires.plans.plan_of w.program w.holds in
    let told = c.fill.ensures.tells w.program plan in
    let whole = subst (Derivable w.program.rules) (sym c.union-reached.ensures) (plan_derivable w.program _ _ _ plan) in
    counted w c.args.arguments.now (c.in_ok-count.ensures.result w.program w.limits told whole)
    (c.in_ok-count.ensures.written w.program w.limits told whole)

pub slice_bounds-decide-end-2 : goal.slice_bounds-decide-end-2
slice_bounds-decide-end-2 c = sym (length-take-le _ _ (slice_bounds-decide-end c))

pub decide-requires : goal.decide-requires
decide-requires c =
    let w = c.requires.asked.held in
    let plan = c.requires.plans.plan_of w.program w.holds in
    let told = c.fill.ensures.tells w.program plan in
    let whole = subst (Derivable w.program.rules) (sym c.union-reached.ensures) (plan_derivable w.program _ _ _ plan) in
    record {
      asked = c.requires.asked;
      listing = listing w c.args.arguments.now (c.in_ok-count.ensures.result w.program w.limits told whole)
          (c.in_ok-count.ensures.written w.program w.limits told whole) c.fill.new.rows told c.fill.ensures.laid;
    }

pub returns : goal.returns
returns c = record {
  settles = λ w.
      let plan = c.requires.plans.plan_of w.program w.holds in
      let told = c.fill.ensures.tells w.program plan in
      let whole = subst (Derivable w.program.rules) (sym c.union-reached.ensures) (plan_derivable w.program _ _ _ plan) in
      let result = c.in_ok-count.ensures.result w.program w.limits told whole in
      let written = c.in_ok-count.ensures.written w.program w.limits told whole in
      settled_listed w c.args.arguments.now result written
      (c.decide.ensures.decided w (listing w c.args.arguments.now result written c.fill.new.rows told c.fill.ensures.laid));
  kept = c.decide.ensures.kept;
}
