use mathlib.Core.Path.{◌∙◌, subst}
use Prim.Native.Nat.{ℕ}
use Rattle.literals.specs.Inside.Words.{set_of}
use Rattle.rows.specs.Span.{Greatest}
use Rattle.closing.proofs.Clashings.{clashed_next, clashed_row}
use Rattle.closing.proofs.clash_row.Goals as goal

pub loop-w-preserved : goal.loop-w-preserved
loop-w-preserved c = let step = c.in-Some.ensures.steps in (
  step.2 ∙ c.loop-w.invariant.0,
  rw step.1 (clashed_next (set_of c.args.pairs) c.args.end c.args.span c.loop-w.w-iterator.end c.in-Some.w c.args.rows.now c.loop-w.rows c.requires.laid.1 c.requires.laid.2
      (subst (λ (v : ℕ). Greatest v c.loop-w.w-iterator.end c.in-Some.w) c.loop-w.invariant.0 step.0)
      (λ l h. (c.requires.by_index.0 l h).0) c.requires.by_index.1 c.loop-w.invariant.1 c.clash_word.result c.clash_word.ensures),
)

pub returns : goal.returns
returns c = clashed_row c.in-None.ensures.steps c.loop-w.invariant.1
