-- `LiteralSet::count` meets its contract: the digits of the two words are counted apart.
use mathlib.Core.Path.{sym, ◌∙◌}
use native.Mathlib.Nat.{add_comm}
use native.Mathlib.Omega.{arith}
use lib.Count.{ones, ones_cat, ones-le}
use borrow.Author.Rules.{rules}
use Rattle.literals.specs.Inside.Words.{set_of}
use Rattle.literals.proofs.LiteralSet.count.Goals as goal

pub overflow_cast-result : goal.overflow_cast-result
overflow_cast-result c = omega (arith, ones-le 64 c.args.self.lo (search rules))

pub overflow_cast-result-2 : goal.overflow_cast-result-2
overflow_cast-result-2 c = omega (arith, ones-le 64 c.args.self.hi (search rules))

pub overflow_add-result : goal.overflow_add-result
overflow_add-result c = let s = c.args.self in
    omega (arith, ones-le 64 s.lo (search rules), ones-le 64 s.hi (search rules))

pub returns : goal.returns
unfolding set_of
returns c = let s = c.args.self in
    add_comm (ones s.lo) (ones s.hi) ∙ sym (ones_cat 64 s.hi s.lo (search rules))
