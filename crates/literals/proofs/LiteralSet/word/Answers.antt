-- `LiteralSet::word` meets its contract.
use mathlib.Core.Path.{◌≡◌, sym, ap, ◌∙◌}
use Prim.Native.Nat.{◌-◌, ◌%◌}
use native.Mathlib.Omega.{arith}
use borrow.Author.Rules.{rules}
use Rattle.literals.specs.Sets.{has}
use Rattle.literals.specs.Inside.Words.{joined, set_of}
use Rattle.literals.proofs.Words.{has_joined_low, has_joined_high}
use Rattle.literals.proofs.LiteralSet.word.Goals as goal

pub returns-then-literal-lt64 : goal.returns-then-literal-lt64
unfolding set_of
returns-then-literal-lt64 c = let s = c.args.self in
    let k = c.args.literal in
    let low : k % 64 ≡ k = omega arith in
    ap (has s.lo) low ∙ sym (has_joined_low s.hi s.lo k (search rules))

pub returns-else-literal-lt64 : goal.returns-else-literal-lt64
unfolding set_of
returns-else-literal-lt64 c = let s = c.args.self in
    let k = c.args.literal in
    let high : k % 64 ≡ k - 64 = omega arith in
    ap (has s.hi) high ∙ sym (has_joined_high s.hi s.lo (k - 64) (search rules))
    ∙ ap (has (joined s.hi s.lo)) (omega arith)
