-- `columns::query` meets its contract: cause by cause, then the answer in the program.
use mathlib.Core.Path.{sym, ap, ◌∙◌}
use native.Mathlib.Nat.{le_trans}
use Rattle.std.proofs.lemmas.Result.{err_from_is_err_and}
use Rattle.calls.specs.Verdicts.{told}
use Rattle.tree.proofs.Tables.{kept_none}
use Rattle.warrant.proofs.Queries.{held_in, query_image, query_20, query_21, query_22, query_settled}
use Rattle.warrant.proofs.columns.query.Goals as goal

pub returns-in_err-load : goal.returns-in_err-load
returns-in_err-load c = let p = err_from_is_err_and c.from_residual.result c.from_residual.ensures.1 in rw (p.1, p.2) record {
  answer = query_image c.args.image.now _ _ c.args.arguments.now _ _ _ (sym c.load.ensures.0 ∙ ap told c.in_err-load.was) _;
  kept = kept_none _;
}

pub returns-then-literal-ge128 : goal.returns-then-literal-ge128
returns-then-literal-ge128 c = rw c.at.ensures record {
  answer = query_20 c.args.image.now _ _ c.args.arguments.now _ (sym c.load.ensures.0 ∙ ap told c.in_ok-load.was) c.if-literal-ge128.true _;
  kept = kept_none _;
}

pub returns-then-budget-gt4096 : goal.returns-then-budget-gt4096
returns-then-budget-gt4096 c = rw c.at-then-budget-gt4096.ensures record {
  answer = query_21 c.args.image.now _ _ c.args.arguments.now _ (sym c.load.ensures.0 ∙ ap told c.in_ok-load.was) c.if-literal-ge128.false c.if-budget-gt4096.true _;
  kept = kept_none _;
}

pub returns-then-room-budget : goal.returns-then-room-budget
returns-then-room-budget c = rw c.at-then-room-budget.ensures record {
  answer = query_22 c.args.image.now _ _ c.args.arguments.now _ (sym c.load.ensures.0 ∙ ap told c.in_ok-load.was) c.if-literal-ge128.false c.if-budget-gt4096.false c.if-room-budget.true _;
  kept = kept_none _;
}

pub query-requires : goal.query-requires
query-requires c = let e = sym c.load.ensures.0 ∙ ap told c.in_ok-load.was in
    record {
      held = held_in c.args.image.now _ e (c.load.ensures.1 e);
      literal_below = c.if-literal-ge128.false;
      budget_below = c.if-budget-gt4096.false;
      tables_hold = record {
        indexes_hold = le_trans c.if-budget-gt4096.false c.requires.indexes_hold;
        parents_hold = le_trans c.if-budget-gt4096.false c.requires.parents_hold;
        kinds_hold = le_trans c.if-budget-gt4096.false c.requires.kinds_hold;
        marks_hold = le_trans c.if-budget-gt4096.false c.requires.marks_hold;
      };
    }

pub returns : goal.returns
returns c = let s = c.args.image.now in
    let e = sym c.load.ensures.0 ∙ ap told c.in_ok-load.was in
    rw (c.ok_or.ensures.value, c.at-2.ensures) record {
      answer = query_settled s _ _ c.args.arguments.now _ e c.if-literal-ge128.false c.if-budget-gt4096.false c.if-room-budget.false _ _ _ _
          (c.query.ensures.settles (held_in s _ e (c.load.ensures.1 e)));
      kept = c.query.ensures.kept;
    }
