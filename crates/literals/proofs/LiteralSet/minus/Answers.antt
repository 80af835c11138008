-- `LiteralSet::minus` meets its contract, word by word.
use lib.Bits.{and_le_l}
use borrow.Author.Rules.{rules}
use Rattle.literals.specs.Inside.Words.{set_of}
use Rattle.literals.proofs.Words.{joined_minus}
use Rattle.literals.proofs.LiteralSet.minus.Goals as goal

pub overflow_sub-result : goal.overflow_sub-result
overflow_sub-result c = and_le_l _ _

pub overflow_sub-result-2 : goal.overflow_sub-result-2
overflow_sub-result-2 c = and_le_l _ _

pub returns : goal.returns
unfolding set_of
returns c = let s = c.args.self in
    let o = c.args.other in
    joined_minus s.hi s.lo o.hi o.lo (search rules) (search rules)
