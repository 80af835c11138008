use mathlib.Core.Path.{refl, ◌∙◌, subst}
use Prim.Native.Nat.{ℕ}
use Rattle.rows.specs.Span.{Greatest}
use Rattle.closures.specs.Inside.Table.{keeps_at}
use Rattle.collecting.proofs.Counts.{row_all, row_next, row_last, row_few}
use Rattle.collecting.proofs.Marks.{row_start, row_word, row_end}
use native.Mathlib.Omega.{arith}
use Rattle.collecting.proofs.count_row.Goals as goal
use Rattle.collecting.proofs.count_row.Goals.{In-Some}

module _ (c : In-Some) where
  next : Greatest (keeps_at c.args.rows.now c.args.literal) c.loop-w.w-iterator.end c.in-Some.w
  next = subst (λ (v : ℕ). Greatest v c.loop-w.w-iterator.end c.in-Some.w) (c.loop-w.invariant.span ∙ c.span-span.ensures.0) c.in-Some.ensures.steps.0

pub loop-w-init : goal.loop-w-init
loop-w-init c = rw (c.into_iter-w-iterator.ensures.into_iter_gives, c.words-w-items.ensures.1, c.span-span.ensures.0) (record {
  span = c.words-w-items.ensures.0 ∙ c.span-span.ensures.0;
  left = row_all _ _ (omega (arith, c.span-span.ensures.0, c.span-span.ensures.1));
  sized = refl;
  marks = row_start _ _ _;
})

pub overflow_add-found : goal.overflow_add-found
overflow_add-found c = omega (arith, c.loop-w.invariant.left.rest, row_few c.args.rows.now c.args.literal, c.count_word-found.ensures.value.1)

pub loop-w-preserved : goal.loop-w-preserved
loop-w-preserved c = let step = c.in-Some.ensures.steps in
    let n = next (goal.at.loop-w-preserved c).In-Some in
    rw step.1 (record {
      span = step.2 ∙ c.loop-w.invariant.span;
      left = row_next _ _ _ _ _ _ n c.loop-w.invariant.left c.count_word-found.ensures.value.0;
      sized = c.count_word-found.ensures.marks.sized ∙ c.loop-w.invariant.sized;
      marks = λ v m. c.loop-w.invariant.marks v (row_word _ _ _ _ n _ _ v c.count_word-found.ensures.marks m);
    })

pub returns : goal.returns
returns c = let e = row_last _ _ _ _ c.in-None.ensures.steps c.loop-w.invariant.left in record {
  value = (e, omega (arith, e, row_few c.args.rows.now c.args.literal));
  marks = c.loop-w.invariant.marks _ (row_end _ _ _ c.in-None.ensures.steps _);
}
