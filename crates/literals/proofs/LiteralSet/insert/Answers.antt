-- `LiteralSet::insert` meets its contract: the literal goes into the word that has its digit.
use mathlib.Core.Path.{ap, ◌∙◌}
use Prim.Native.Nat.{ℕ, ◌-◌}
use native.Mathlib.Omega.{arith}
use borrow.Author.Rules.{rules}
use Rattle.literals.specs.Sets.{insert}
use Rattle.literals.specs.Inside.Words.{joined, set_of}
use Rattle.literals.proofs.Words.{shifted_insert, joined_insert_low, joined_insert_high}
use Rattle.literals.proofs.LiteralSet.insert.Goals as goal

pub returns-then-literal-lt64 : goal.returns-then-literal-lt64
unfolding set_of
returns-then-literal-lt64 c = let s = c.args.self in
    let k = c.args.literal in
    ap (joined s.hi) (shifted_insert s.lo k (search rules)) ∙ joined_insert_low s.hi s.lo k (search rules) (search rules)

pub returns-else-literal-lt64 : goal.returns-else-literal-lt64
unfolding set_of
returns-else-literal-lt64 c = let s = c.args.self in
    let k = c.args.literal in
    ap (λ (x : ℕ). joined x s.lo) (shifted_insert s.hi (k - 64) (search rules))
    ∙ joined_insert_high s.hi s.lo (k - 64) (search rules) ∙ ap (insert (joined s.hi s.lo)) (omega arith)
