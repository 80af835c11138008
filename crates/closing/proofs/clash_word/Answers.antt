use mathlib.Core.Path.{refl, ap, subst, ◌∙◌}
use Prim.Native.Nat.{ℕ, ◌+◌}
use native.Mathlib.Omega.{arith}
use borrow.Author.Rules.{rules}
use Rattle.literals.specs.Sets.{LowestBelow}
use Rattle.literals.specs.Inside.Words.{joined, set_of}
use Rattle.literals.proofs.Members.{minus_less}
use Rattle.literals.proofs.Within.{within_each}
use Rattle.literals.proofs.Ascending.{lowest_low, lowest_high, minus_low, minus_high}
use Rattle.closing.proofs.Clashings.{Clashing, clashing_all, clashing_more, clashing_none}
use Rattle.closing.proofs.clash_word.Goals as goal
use Rattle.closing.proofs.clash_word.Goals.{In-Some, In-Some-high}

-- the literal of the low word is the lowest that is left
module _ (c : In-Some) where
  low : LowestBelow 128 (joined c.args.pairs.hi c.loop-low.low-iterator.left) c.in-Some.low
  low = lowest_low _ _ _ c.in-Some.ensures.steps.0

-- and so is that of the high word, where the low one is empty
module _ (c : In-Some-high) where
  high : LowestBelow 128 (joined c.loop-high.high-iterator.left 0) (64 + c.in-Some-high.high)
  high = lowest_high _ _ c.in-Some-high.ensures.steps.0

pub loop-low-init : goal.loop-low-init
unfolding set_of
loop-low-init c = let all = ap (λ i. i.left) c.into_iter-low-iterator.ensures.into_iter_gives ∙ c.bits-low-items.ensures in
    rw all (search rules, clashing_all _ _ _ _ refl)

pub clash_of-x-requires : goal.clash_of-x-requires
clash_of-x-requires c = (c.requires.0, c.requires.1 _ (within_each _ _ c.loop-low.invariant.1.part _ (low (goal.at.clash_of-x-requires c).In-Some).member))

pub loop-low-preserved : goal.loop-low-preserved
loop-low-preserved c = let step = c.in-Some.ensures.steps in
    rw step.1 (
      omega (arith, minus_less c.loop-low.low-iterator.left c.in-Some.low step.0.member, c.loop-low.invariant.0),
      clashing_more _ _ _ _ _ c.in-Some.low _ _ (low (goal.at.loop-low-preserved c).In-Some)
          (minus_low _ _ _ c.loop-low.invariant.0 step.0.small) c.clash_of-x.ensures c.loop-low.invariant.1,
    )

pub loop-high-init : goal.loop-high-init
loop-high-init c = let all = ap (λ i. i.left) c.into_iter-high-iterator.ensures.into_iter_gives ∙ c.bits-high-items.ensures in
    rw all (subst (λ (w : ℕ). Clashing c.args.rows.now (set_of c.args.pairs) c.args.w (joined c.args.pairs.hi w) c.loop-low.x)
    c.in-None.ensures.steps.0 c.loop-low.invariant.1)

pub clash_of-x-requires-in-loop-high : goal.clash_of-x-requires-in-loop-high
clash_of-x-requires-in-loop-high c = (c.requires.0, c.requires.1 _ (within_each _ _ c.loop-high.invariant.part _ (high (goal.at.clash_of-x-requires-in-loop-high c).In-Some-high).member))

pub loop-high-preserved : goal.loop-high-preserved
loop-high-preserved c = let step = c.in-Some-high.ensures.steps in
    rw step.1 (clashing_more _ _ _ _ _ (64 + c.in-Some-high.high) _ _ (high (goal.at.loop-high-preserved c).In-Some-high)
    (minus_high _ _) c.clash_of-x-in-loop-high.ensures c.loop-high.invariant)

pub returns : goal.returns
returns c = clashing_none _ _ _ _ _ (ap (λ (h : ℕ). joined h 0) c.in-None-high.ensures.steps.0) c.loop-high.invariant
