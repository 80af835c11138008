use native.Mathlib.Omega.{arith}
use borrow.Author.Rules.{rules}
use Rattle.literals.specs.Inside.Words.{set_of}
use Rattle.literals.proofs.Words.{joined_below}
use Rattle.derivation.proofs.Turns.{turning_start, turning_next, turning_end}
use Rattle.derivation.proofs.round.Goals as goal

pub loop-i-init : goal.loop-i-init
unfolding set_of
loop-i-init c = let s = c.args.start in
    turning_start _ _ _ _ c.rule_count-rules.ensures (joined_below s.hi s.lo (search rules) (search rules))

pub loop-i-preserved : goal.loop-i-preserved
loop-i-preserved c =
    turning_next _ _ _ _ c.rule_count-rules.ensures c.loop-i.i _ _ _ _ (search rules)
    (c.requires.literals c.loop-i.i (omega arith)) c.loop-i.invariant c.fire.ensures

pub returns : goal.returns
returns c = record {
  set_value = (c.loop-i.invariant.grown, c.loop-i.invariant.small);
  rounded = turning_end _ _ _ _ c.rule_count-rules.ensures c.loop-i.i _ _ (omega arith) c.loop-i.invariant;
}
