use mathlib.Core.Path.{sym, ◌∙◌}
use native.Mathlib.Omega.{arith}
use Rattle.program.proofs.Chaining.{chained_start, chained_turn, chained_end, chained_none}
use Rattle.program.proofs.chain.all.Goals as goal

pub returns-then-pairs-eq0 : goal.returns-then-pairs-eq0
returns-then-pairs-eq0 c = λ p limits e f b. chained_none limits (sym f ∙ c.if-pairs-eq0.true) b

pub loop-k-init : goal.loop-k-init
loop-k-init c = λ p limits e b. chained_start limits b

pub loop-k-preserved : goal.loop-k-preserved
loop-k-preserved c = let l = c.loop-k in
    λ p limits e b. chained_turn limits e (omega arith) (l.invariant p limits e b) c.hand_on.ensures

pub returns : goal.returns
returns c = let l = c.loop-k in
    λ p limits e f b. chained_end limits (omega arith) (l.invariant p limits e b)
