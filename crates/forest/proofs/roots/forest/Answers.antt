-- The trees for the literal, then those for its complement.
use Rattle.tree.specs.Inside.Steps.{tests_in}
use Rattle.tree.proofs.Tables.{hold_kept, kept_then}
use Rattle.tree.proofs.Trees.{forest_first, forest_second, forest_end}
use Rattle.tree.proofs.RootTurn.{roots_moved}
use Rattle.forest.proofs.roots.forest.Goals as goal

pub returns-in_err-first : goal.returns-in_err-first
returns-in_err-first c = rw c.from_residual.ensures record {
  built = λ w. forest_first (tests_in w) c.args.literal c.args.limit _ (c.in_err-first.ensures.built w);
  kept = c.in_err-first.ensures.kept;
}

pub trees-requires-2 : goal.trees-requires-2
trees-requires-2 c =
    let ready = c.requires.roots_ready in
    roots_moved ready _ _ (c.in_ok-first.ensures.built ready.prepared).built.within c.trees.auto.line
    (hold_kept c.in_ok-first.ensures.kept ready.tables_hold)

pub returns-in_err-second : goal.returns-in_err-second
returns-in_err-second c = rw c.from_residual-in_err-second.ensures record {
  built = λ w.
      forest_second (tests_in w) c.args.literal c.args.limit _ (c.in_ok-first.ensures.built w) _ c.complement.ensures
      (c.in_err-second.ensures.built w);
  kept = kept_then c.in_ok-first.ensures.kept c.in_err-second.ensures.kept;
}

pub returns : goal.returns
returns c = record {
  built = λ w.
      forest_end (tests_in w) c.args.literal c.args.limit _ (c.in_ok-first.ensures.built w) _ c.complement.ensures
      (c.in_ok-second.ensures.built w);
  kept = kept_then c.in_ok-first.ensures.kept c.in_ok-second.ensures.kept;
}
