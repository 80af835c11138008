use mathlib.Core.Path.{◌≡◌, sym, ◌∙◌}
use lib.Dec.{eqb}
use native.Mathlib.Omega.{arith}
use borrow.Author.Rules.{rules}
use borrow.Author.Tests.{eqb-true, eqb-false}
use Rattle.literals.specs.Inside.Words.{set_of}
use Rattle.literals.proofs.Words.{joined_below, same_set}
use Rattle.derivation.proofs.Turns.{rounding_start, rounding_last, rounding_next, rounding_less}
use Rattle.derivation.proofs.gather.Goals as goal
use Rattle.derivation.proofs.gather.Goals.{After-eq}

pub loop-t-init : goal.loop-t-init
unfolding set_of
loop-t-init c = let s = c.args.given in
    record { rounding = rounding_start _ _ _ (joined_below s.hi s.lo (search rules) (search rules)); word = search rules }

pub overflow_add-rounds : goal.overflow_add-rounds
overflow_add-rounds c = omega (arith, c.loop-t.invariant.rounding.few, c.loop-t.invariant.rounding.room)

-- whether the round's set is the one that it began with
module _ (c : After-eq) where
  same : c.eq.result ≡ eqb (set_of c.round.result.0) (set_of c.loop-t.s)
  same = c.eq.ensures ∙ same_set c.round.result.0 c.loop-t.s (search rules) c.loop-t.invariant.word

pub returns-then-eq-clause-gathers : goal.returns-then-eq-clause-gathers
returns-then-eq-clause-gathers c = rounding_last _ _ _ _ _ _ _ c.loop-t.invariant.rounding c.round.ensures.rounded
    (eqb-true _ _ (sym (same (goal.at.returns-then-eq-clause-gathers c).After-eq) ∙ c.if-eq.true))

pub loop-t-smaller : goal.loop-t-smaller
loop-t-smaller c = let grown = c.round.ensures.set_value in
    rounding_less _ _ grown.0 grown.1 (eqb-false _ _ (sym (same (goal.at.loop-t-smaller c).After-eq) ∙ c.if-eq.false))

pub loop-t-preserved : goal.loop-t-preserved
loop-t-preserved c = record {
  rounding = rounding_next _ _ _ _ _ _ _ c.loop-t.invariant.rounding c.round.ensures.rounded c.round.ensures.set_value.0 c.round.ensures.set_value.1
      (eqb-false _ _ (sym (same (goal.at.loop-t-preserved c).After-eq) ∙ c.if-eq.false));
  word = search rules;
}
