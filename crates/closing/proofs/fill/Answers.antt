-- `fill` meets its contract.
use native.Mathlib.Omega.{arith}
use Rattle.literals.specs.Inside.Words.{set_of}
use Rattle.plans.proofs.Places.{placed_named}
use Rattle.closing.proofs.Masks.{rows_say}
use Rattle.closing.proofs.Tellings.{table_laid, table_tells}
use Rattle.closing.proofs.fill.Goals as goal

pub fill-requires-clause-placed : goal.fill-requires-clause-placed
fill-requires-clause-placed c = placed_named c.args.live.now c.args.keep.now c.args.base.now (set_of c.args.plan.literals) 260 c.args.plan.end _ c.requires.planned.keeps c.requires.planned.bases c.requires.planned.fits
    (omega (arith, c.requires.span_in_bounds.0, c.clear.ensures.words_len_unchanged)) c.requires.planned.named c.requires.planned.placed

pub clash_row-requires-clause-laid : goal.clash_row-requires-clause-laid
clash_row-requires-clause-laid c = (
  table_laid c.args.live.now c.args.keep.now c.args.base.now (set_of c.args.plan.derived) (set_of c.args.plan.literals) (set_of c.args.plan.pairs) c.args.plan.end c.args.plan.span c.requires.planned c.fill.new.rows c.lay.new.rows c.lay.ensures
      (omega (arith, c.requires.span_in_bounds.0, c.lay.ensures.sized, c.fill.ensures.rows_len_unchanged, c.clear.ensures.words_len_unchanged)) (omega (arith, c.requires.span_in_bounds.1, c.lay.ensures.sized, c.fill.ensures.rows_len_unchanged, c.clear.ensures.words_len_unchanged)),
  omega (arith, c.requires.span_in_bounds.0, c.lay.ensures.sized, c.fill.ensures.rows_len_unchanged, c.clear.ensures.words_len_unchanged),
  c.requires.planned.behind,
)

pub returns-clause-tells : goal.returns-clause-tells
returns-clause-tells c = λ p so.
    table_tells c.args.live.now c.args.keep.now c.args.base.now (set_of c.args.plan.derived) (set_of c.args.plan.literals) (set_of c.args.plan.pairs) c.args.plan.end c.args.plan.span c.requires.planned c.fill.new.rows c.lay.new.rows c.lay.ensures
    (omega (arith, c.requires.span_in_bounds.0, c.lay.ensures.sized, c.fill.ensures.rows_len_unchanged, c.clear.ensures.words_len_unchanged)) (omega (arith, c.requires.span_in_bounds.1, c.lay.ensures.sized, c.fill.ensures.rows_len_unchanged, c.clear.ensures.words_len_unchanged)) p so
    (rows_say p so.table so.holds (set_of c.args.plan.derived) (set_of c.args.plan.literals) so.needs so.reach c.args.live.now c.args.keep.now c.args.base.now c.clear.new.words c.fill.new.rows so.live c.fill.ensures.rows c.clear.ensures.by_index)
    c.clash_row.new.rows c.clash_row.ensures
