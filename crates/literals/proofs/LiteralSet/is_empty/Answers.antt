-- `LiteralSet::is_empty` meets its contract: both words are 0.
use borrow.Author.Rules.{rules}
use Rattle.literals.specs.Inside.Words.{set_of}
use Rattle.literals.proofs.Words.{joined_empty}
use Rattle.literals.proofs.LiteralSet.is_empty.Goals as goal

pub returns : goal.returns
unfolding set_of
returns c = let s = c.args.self in joined_empty s.hi s.lo (search rules)
