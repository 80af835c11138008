-- `LiteralSet::union` meets its contract, word by word.
use borrow.Author.Rules.{rules}
use Rattle.literals.specs.Inside.Words.{set_of}
use Rattle.literals.proofs.Words.{joined_union}
use Rattle.literals.proofs.LiteralSet.union.Goals as goal

pub returns : goal.returns
unfolding set_of
returns c = let s = c.args.self in
    let o = c.args.other in
    joined_union s.hi s.lo o.hi o.lo (search rules) (search rules)
