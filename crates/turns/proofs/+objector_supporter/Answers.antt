-- The answers stand in the order of the code: the budget, the node that is entered, the loop; the other side's step on a reply,
-- its tree that does not fit, its mark; no candidate is left. Each cites the law of a turn for it.
use mathlib.Core.Path.{refl, ap}
use Rattle.literals.specs.Sets.{union}
use Rattle.tree.proofs.Tables.{kept_none, kept_then, kept_marked}
use Rattle.tree.proofs.Turn.{turn_none, turn_enters, turn_start, turn_asked, turn_ready, turn_over, turn_left, turn_mark_in, turn_step, turn_end, turn_kept}
use Rattle.turns.proofs.+objector_supporter.Goals as goal

pub supporter-returns-then-limit-step : goal.supporter-returns-then-limit-step
supporter-returns-then-limit-step t c = record {
  leaves = (turn_none c.requires c.if-limit-step.true _, refl);
  kept = kept_none _;
}

pub supporter-enter-requires : goal.supporter-enter-requires
supporter-enter-requires t c = turn_enters c.requires c.if-limit-step.false

pub supporter-loop-objection-init : goal.supporter-loop-objection-init
supporter-loop-objection-init t c = (
  turn_start c.requires c.if-limit-step.false _ (ap (union c.args.step.own) c.mask_of.ensures) c.enter.ensures.entered,
  c.enter.ensures.kept,
)

pub supporter-first_reply-requires : goal.supporter-first_reply-requires
supporter-first_reply-requires t c = turn_asked c.loop-objection.invariant.0

pub supporter-objector-requires : goal.supporter-objector-requires
supporter-objector-requires t c =
    rw c.answered-reply.ensures (turn_ready c.loop-objection.invariant.0 c.in-Some.ensures c.decreases)

pub supporter-returns-in_err-end : goal.supporter-returns-in_err-end
supporter-returns-in_err-end t c =
    let T = c.loop-objection.invariant.0 in
    let left = rw c.answered-reply.ensures at c.in_err-end.ensures.leaves in
    rw c.from_residual.ensures record {
      leaves = (turn_over T c.in-Some.ensures left.0, turn_left T c.in-Some.ensures _ left.1);
      kept = kept_then c.loop-objection.invariant.1 c.in_err-end.ensures.kept;
    }

pub supporter-bounds-columns-next : goal.supporter-bounds-columns-next
supporter-bounds-columns-next t c =
    let left = rw c.answered-reply.ensures at c.in_ok-end.ensures.leaves in
    let T = c.loop-objection.invariant.0 in
    turn_mark_in T c.in-Some.ensures left.0

pub supporter-loop-objection-preserved : goal.supporter-loop-objection-preserved
supporter-loop-objection-preserved t c =
    let left = rw c.answered-reply.ensures at c.in_ok-end.ensures.leaves in
    let T = c.loop-objection.invariant.0 in
    let kept = c.in_ok-end.ensures.kept in (
      turn_step T c.in-Some.ensures left.0 _ left.1 c.objector.auto.line c.settled-mark.ensures,
      kept_then c.loop-objection.invariant.1 kept,
    )

pub supporter-returns : goal.supporter-returns
supporter-returns t c = rw c.number.ensures record {
  leaves = (turn_end c.loop-objection.invariant.0 c.in_default.ensures, turn_kept c.loop-objection.invariant.0);
  kept = kept_marked c.loop-objection.invariant.1 _ _;
}

pub objector-returns-then-limit-step : goal.objector-returns-then-limit-step
objector-returns-then-limit-step t c = record {
  leaves = (turn_none c.requires c.if-limit-step.true _, refl);
  kept = kept_none _;
}

pub objector-enter-requires : goal.objector-enter-requires
objector-enter-requires t c = turn_enters c.requires c.if-limit-step.false

pub objector-loop-support-init : goal.objector-loop-support-init
objector-loop-support-init t c = (
  turn_start c.requires c.if-limit-step.false _ (ap (union c.args.step.own) c.mask_of.ensures) c.enter.ensures.entered,
  c.enter.ensures.kept,
)

pub objector-first_reply-requires : goal.objector-first_reply-requires
objector-first_reply-requires t c = turn_asked c.loop-support.invariant.0

pub objector-supporter-requires : goal.objector-supporter-requires
objector-supporter-requires t c =
    rw c.answered-reply.ensures (turn_ready c.loop-support.invariant.0 c.in-Some.ensures c.decreases)

pub objector-returns-in_err-end : goal.objector-returns-in_err-end
objector-returns-in_err-end t c =
    let T = c.loop-support.invariant.0 in
    let left = rw c.answered-reply.ensures at c.in_err-end.ensures.leaves in
    rw c.from_residual.ensures record {
      leaves = (turn_over T c.in-Some.ensures left.0, turn_left T c.in-Some.ensures _ left.1);
      kept = kept_then c.loop-support.invariant.1 c.in_err-end.ensures.kept;
    }

pub objector-bounds-columns-next : goal.objector-bounds-columns-next
objector-bounds-columns-next t c =
    let left = rw c.answered-reply.ensures at c.in_ok-end.ensures.leaves in
    let T = c.loop-support.invariant.0 in
    turn_mark_in T c.in-Some.ensures left.0

pub objector-loop-support-preserved : goal.objector-loop-support-preserved
objector-loop-support-preserved t c =
    let left = rw c.answered-reply.ensures at c.in_ok-end.ensures.leaves in
    let T = c.loop-support.invariant.0 in
    let kept = c.in_ok-end.ensures.kept in (
      turn_step T c.in-Some.ensures left.0 _ left.1 c.supporter.auto.line c.settled-mark.ensures,
      kept_then c.loop-support.invariant.1 kept,
    )

pub objector-returns : goal.objector-returns
objector-returns t c = rw c.number.ensures record {
  leaves = (turn_end c.loop-support.invariant.0 c.in_default.ensures, turn_kept c.loop-support.invariant.0);
  kept = kept_marked c.loop-support.invariant.1 _ _;
}
