-- `reach::start` meets its contract: the literals of u, then those that Π derives.
use Rattle.literals.specs.Inside.Words.{set_of}
use Rattle.literals.proofs.Words.{joined_below}
use Rattle.excluded.proofs.Eaches.{begun}
use borrow.Author.Rules.{rules}
use Rattle.excluded.proofs.reach.start.Goals as goal

pub returns : goal.returns
unfolding set_of
returns c zeros = begun (set_of c.args.derived) (set_of c.args.u) _ _ _ c.whole.array_long
    (joined_below c.args.u.hi c.args.u.lo (search rules) (search rules)) zeros c.own.ensures c.whole.ensures
