-- `decide` meets its contract.
use Rattle.derivation.proofs.Tables.{limits_shaped}
use Rattle.tree.proofs.Tables.{hold_kept, kept_none, kept_then}
use Rattle.decision.proofs.Decisions.{grown_bound, decided_unknown, decided}
use Rattle.decision.proofs.answering.decide.Goals as goal

pub occurs-requires-clause-shaped : goal.occurs-requires-clause-shaped
occurs-requires-clause-shaped c = let w = c.requires.asked.held in limits_shaped w.program _ w.holds w.limits

pub returns-then-not-occurs : goal.returns-then-not-occurs
returns-then-not-occurs c = record {
  decided = λ w l. decided_unknown w.program _ _ _ _ (c.occurs.ensures w.program w.holds) c.if-not-occurs.true;
  kept = kept_none _;
}

pub conclude-requires-clause-nodes_bound : goal.conclude-requires-clause-nodes_bound
conclude-requires-clause-nodes_bound c =
    let w = c.requires.asked.held in
    grown_bound w.program _ _ _ _ _ (c.grow-grown.ensures.grown w c.requires.listing) c.requires.asked.budget_below

pub conclude-requires-clause-hold : goal.conclude-requires-clause-hold
conclude-requires-clause-hold c = hold_kept c.grow-grown.ensures.kept c.requires.asked.tables_hold

pub returns : goal.returns
returns c = record {
  decided = λ w l.
      decided w.program _ _ _ (c.occurs.ensures w.program w.holds) c.if-not-occurs.false _ c.requires.asked.tables_hold _
      (c.grow-grown.ensures.grown w l) c.conclude.ensures.answer c.conclude.ensures.nodes;
  kept = kept_then c.grow-grown.ensures.kept c.conclude.ensures.kept;
}
