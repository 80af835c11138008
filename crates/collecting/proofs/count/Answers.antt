use mathlib.Core.Path.{◌≡◌, refl, sym, ◌∙◌}
use native.Mathlib.Nat.{zero-add}
use Rattle.literals.specs.Inside.Words.{set_of}
use Rattle.collecting.specs.Inside.Columns.{literals_count}
use Rattle.collecting.proofs.Counts.{literals_few, literals_next, literals_none, list_count}
use Rattle.collecting.proofs.Marks.{marks_literal, marks_end}
use native.Mathlib.Omega.{arith}
use Rattle.collecting.proofs.count.Goals as goal
use Rattle.collecting.proofs.count.Goals.{In-None}

pub loop-literal-init : goal.loop-literal-init
loop-literal-init c = rw c.into_iter-literal-iterator.ensures.into_iter_gives (record { counted = zero-add _; sized = refl; marks = λ v m. m })

pub overflow_add-found : goal.overflow_add-found
overflow_add-found c = omega (arith, c.loop-literal.invariant.counted, literals_few c.args.rows.now (set_of c.args.literals), c.count_row-found.ensures.value.1)

pub loop-literal-preserved : goal.loop-literal-preserved
loop-literal-preserved c = let a = c.args in
    rw c.in-Some.ensures.steps.1 (record {
      counted = omega (arith, c.loop-literal.invariant.counted, c.count_row-found.ensures.value.0, literals_next a.rows.now _ _ c.in-Some.ensures.steps.0);
      sized = c.count_row-found.ensures.marks.sized ∙ c.loop-literal.invariant.sized;
      marks = λ v m. c.loop-literal.invariant.marks v (marks_literal a.rows.now _ c.in-Some.literal _ _ v c.count_row-found.ensures.marks m);
    })

-- all are counted
module _ (c : In-None) where
  all : c.loop-literal.found ≡ literals_count c.args.rows.now (set_of c.args.literals)
  all = omega (arith, c.loop-literal.invariant.counted, literals_none c.args.rows.now _ c.in-None.ensures.steps.0)

pub overflow_cast-result : goal.overflow_cast-result
overflow_cast-result c = omega (arith, all (goal.at.overflow_cast-result c).In-None, literals_few c.args.rows.now (set_of c.args.literals))

pub returns-clause-value : goal.returns-clause-value
returns-clause-value c = all (goal.at.returns-clause-value c).In-None ∙ sym (list_count _ _)

pub returns-clause-marks : goal.returns-clause-marks
returns-clause-marks c = c.loop-literal.invariant.marks _ (marks_end c.args.rows.now _ c.loop-literal.touched c.in-None.ensures.steps.0)
