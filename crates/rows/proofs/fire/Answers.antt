use mathlib.Core.Path.{ap, subst, ◌∙◌}
use Prim.Native.Nat.{ℕ, ◌/◌}
use lib.ListN.{get_or}
use Rattle.rows.specs.Steps.{LowWord}
use Rattle.rows.specs.Span.{Greatest}
use Rattle.rows.proofs.Firings.{fires_then, above_cases}
use Rattle.rows.proofs.fire.Goals as goal

pub fire_word-grown-requires-clause-decoded : goal.fire_word-grown-requires-clause-decoded
fire_word-grown-requires-clause-decoded c = record {
  listed = c.requires.i_bound;
  body_is = c.body-body.ensures;
  low_is =
      let one = c.requires.shaped.1.one c.args.i c.requires.i_bound in
      subst (λ (n : ℕ). LowWord n c.low_word-low.result) c.need-need.ensures
      (c.low_word-low.ensures one.0 one.1 (c.need-need.ensures ∙ one.2));
  must_is = ap (λ (n : ℕ). n / 64) c.need-need.ensures;
  to_is = ap (λ (h : ℕ). get_or c.args.base.now h 0) c.head-head.ensures;
}

pub loop-w-preserved : goal.loop-w-preserved
loop-w-preserved c = let step = c.in-Some.ensures.steps in
    let span = c.loop-w.invariant.0 ∙ ap (λ (h : ℕ). get_or c.args.keep.now h 0) c.head-head.ensures in (
      step.2 ∙ c.loop-w.invariant.0,
      rw step.1 (fires_then _
          (λ v. above_cases c.args.table.now c.args.keep.now c.args.i c.loop-w.w-iterator.end c.in-Some.w v
          (subst (λ (s : ℕ). Greatest s c.loop-w.w-iterator.end c.in-Some.w) span step.0))
          c.loop-w.invariant.1 c.fire_word-grown.ensures),
    )
