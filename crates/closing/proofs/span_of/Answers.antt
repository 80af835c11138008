use Prim.Native.Nat.{◌+◌, ◌^◌}
use native.Mathlib.Omega.{arith}
use lib.Bits.{or_lt}
use Rattle.literals.specs.Inside.Words.{set_of}
use Rattle.literals.proofs.Within.{within_each, within_trans, minus_within}
use Rattle.closing.proofs.Pairings.{spanned_none, spanned_more}
use Rattle.closing.proofs.span_of.Goals as goal

pub bounds-keep-l-in-loop-literal : goal.bounds-keep-l-in-loop-literal
bounds-keep-l-in-loop-literal c = omega (arith, c.requires.0 c.in-Some.literal (within_each (set_of c.loop-literal.literal-iterator.left) (set_of c.args.pairs) c.loop-literal.invariant.0 c.in-Some.literal c.in-Some.ensures.steps.0.member))

pub loop-literal-preserved : goal.loop-literal-preserved
loop-literal-preserved c = rw c.in-Some.ensures.steps.1 (
  within_trans _ (set_of c.loop-literal.literal-iterator.left) _ (minus_within _ (2 ^ c.in-Some.literal)) c.loop-literal.invariant.0,
  or_lt 10 _ _ c.loop-literal.invariant.1 (or_lt 10 _ _ (c.requires.1 c.in-Some.literal) (c.requires.1 (c.in-Some.literal + 1))),
  λ r m. c.loop-literal.invariant.2 r (spanned_more c.args.keep.now _ c.loop-literal.x c.in-Some.literal r m),
)

pub returns : goal.returns
returns c = let spanned = c.loop-literal.invariant.2 _ (spanned_none _ (set_of c.loop-literal.literal-iterator.left) _ c.in-None.ensures.steps.0) in
    (c.loop-literal.invariant.1, spanned.each)
