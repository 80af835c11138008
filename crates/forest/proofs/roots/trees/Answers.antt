-- A root's step, its tree that does not fit, its mark; an argument for another literal; no argument is left.
use mathlib.Core.Path.{refl, sym, ◌∙◌}
use Rattle.tree.proofs.Tables.{kept_none, kept_then}
use Rattle.tree.proofs.RootTurn.{root_turn_start, root_turn_skip, root_turn_end, root_turn_over, root_turn_mark_in, root_turn_step, root_ready}
use Rattle.forest.proofs.roots.trees.Goals as goal
use Rattle.forest.proofs.roots.trees.Goals.{then-literal_of-literal+in_ok-end, else-literal_of-literal}

pub loop-index-init : goal.loop-index-init
loop-index-init c = (root_turn_start c.args.literal c.requires, kept_none _)

pub supporter-requires : goal.supporter-requires
supporter-requires c = root_ready c.loop-index.invariant.0 c.loop-index-test.true

pub returns-in_err-end : goal.returns-in_err-end
returns-in_err-end c =
    let T = c.loop-index.invariant in
    let is_for = sym c.literal_of.ensures.0 ∙ c.if-literal_of-literal.true in
    rw c.from_residual.ensures record {
      built = root_turn_over T.0 c.loop-index-test.true is_for (rw c.in_err-end.was at c.supporter.ensures.leaves.0);
      kept = kept_then T.1 c.supporter.ensures.kept;
    }

pub bounds-columns-next : goal.bounds-columns-next
bounds-columns-next c =
    let T = c.loop-index.invariant.0 in
    root_turn_mark_in T c.loop-index-test.true (sym c.literal_of.ensures.0 ∙ c.if-literal_of-literal.true)
    (rw c.in_ok-end.was at c.supporter.ensures.leaves.0)

pub loop-index-preserved : goal.loop-index-preserved
loop-index-preserved c = elim c.if-literal_of-literal.branch [
  | then-literal_of-literal+in_ok-end w ↦
      let T = c.loop-index.invariant in
      let kept = w.supporter.ensures.kept in
      rw (w.line-is, w.columns-is, w.undefeated-is, w.next-is) (
        root_turn_step T.0 c.loop-index-test.true (sym c.literal_of.ensures.0 ∙ w.if-literal_of-literal.true)
            (rw w.in_ok-end.was at w.supporter.ensures.leaves.0) _ _ w.supporter.auto.line refl,
        kept_then T.1 kept,
      )
  | else-literal_of-literal w ↦
      rw (w.line-is, w.columns-is, w.undefeated-is, w.next-is) (
        root_turn_skip c.loop-index.invariant.0 c.loop-index-test.true
            (λ e. w.if-literal_of-literal.false (c.literal_of.ensures.0 ∙ e)),
        c.loop-index.invariant.1,
      )
]

pub returns : goal.returns
returns c = record {
  built = root_turn_end c.loop-index.invariant.0 c.loop-index-test.false;
  kept = c.loop-index.invariant.1;
}
