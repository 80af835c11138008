-- `joint::unsettled` meets its contract, a law for each answer.
use mathlib.Core.Path.{sym, ◌∙◌}
use mathlib.Core.Bool.{false≢true}
use Rattle.literals.specs.Inside.Words.{set_of}
use Rattle.literals.proofs.Members.{has_bound}
use Rattle.literals.proofs.Words.{joined_below}
use borrow.Author.Rules.{rules}
use Rattle.excluded.proofs.joint.unsettled.Goals as goal

pub returns-then-clashes : goal.returns-then-clashes
returns-then-clashes c a h n = absurd (false≢true (sym n ∙ h))

pub returns : goal.returns
unfolding set_of
returns c a h n = (
  c.if-clashes.false,
  c.joint.ensures a (has_bound (set_of c.args.u) 128 a (joined_below c.args.u.hi c.args.u.lo (search rules) (search rules)) h) n,
)
