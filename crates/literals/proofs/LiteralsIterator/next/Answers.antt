-- The lowest member of the low word, or of the high one where that is empty, and one member less with each step.
use mathlib.Core.Path.{◌≡◌, sym, ap, subst, ◌∙◌}
use Prim.Native.Nat.{ℕ, ◌+◌, ◌^◌, ◌<◌}
use native.Mathlib.Omega.{arith}
use borrow.Author.Rules.{rules}
use Rattle.literals.specs.Sets.{LowestBelow, minus}
use Rattle.literals.specs.Inside.Words.{joined, set_of}
use Rattle.literals.proofs.Members.{minus_less}
use Rattle.literals.proofs.Ascending.{lowest_low, lowest_high, minus_low, minus_high}
use Rattle.literals.proofs.LiteralsIterator.next.Goals as goal
use Rattle.literals.proofs.LiteralsIterator.next.Goals.{After-lowest, After-lowest-then-hi-ne0}

-- the low word's lowest member
module _ (c : After-lowest) where
  low : LowestBelow 128 (joined c.args.self.now.left.hi c.args.self.now.left.lo) c.lowest.result
  low = lowest_low _ _ _ c.lowest.ensures

  low_out : joined c.args.self.now.left.hi c.rest-self.result ≡ minus (joined c.args.self.now.left.hi c.args.self.now.left.lo) (2 ^ c.lowest.result)
  low_out =
      ap (joined c.args.self.now.left.hi) (c.rest-self.ensures _ c.lowest.ensures)
      ∙ sym (minus_low _ _ _ (search rules) c.lowest.ensures.small)

-- the high word's, where the low word is empty
module _ (c : After-lowest-then-hi-ne0) where
  empty : joined c.args.self.now.left.hi 0 ≡ joined c.args.self.now.left.hi c.args.self.now.left.lo
  empty = ap (joined c.args.self.now.left.hi) (sym c.if-lo-ne0.false)

  high : LowestBelow 128 (joined c.args.self.now.left.hi c.args.self.now.left.lo) (64 + c.lowest-then-hi-ne0.result)
  high = subst (λ (s : ℕ). LowestBelow 128 s (64 + c.lowest-then-hi-ne0.result)) empty (lowest_high _ _ c.lowest-then-hi-ne0.ensures)

  high_out : joined c.rest-self-then-hi-ne0.result c.args.self.now.left.lo
      ≡ minus (joined c.args.self.now.left.hi c.args.self.now.left.lo) (2 ^ (64 + c.lowest-then-hi-ne0.result))
  high_out =
      ap (joined c.rest-self-then-hi-ne0.result) c.if-lo-ne0.false
      ∙ ap (λ (w : ℕ). joined w 0) (c.rest-self-then-hi-ne0.ensures _ c.lowest-then-hi-ne0.ensures)
      ∙ sym (minus_high _ _) ∙ ap (λ (s : ℕ). minus s (2 ^ (64 + c.lowest-then-hi-ne0.result))) empty

pub returns-then-lo-ne0-clause-steps : goal.returns-then-lo-ne0-clause-steps
unfolding set_of
returns-then-lo-ne0-clause-steps c = (low c, low_out c)

pub returns-then-lo-ne0-clause-goes : goal.returns-then-lo-ne0-clause-goes
unfolding set_of
returns-then-lo-ne0-clause-goes c = record {
  on = λ _. (tt, tt, rw (low_out c) (minus_less _ c.lowest.result (low c).member));
  keeps = tt;
  rests = λ _. tt;
}

pub returns-then-hi-ne0-clause-steps : goal.returns-then-hi-ne0-clause-steps
unfolding set_of
returns-then-hi-ne0-clause-steps c = (high c, high_out c)

pub returns-then-hi-ne0-clause-goes : goal.returns-then-hi-ne0-clause-goes
unfolding set_of
returns-then-hi-ne0-clause-goes c = record {
  on = λ _. (tt, tt, rw (high_out c) (minus_less _ (64 + c.lowest-then-hi-ne0.result) (high c).member));
  keeps = tt;
  rests = λ _. tt;
}

pub returns-clause-steps : goal.returns-clause-steps
unfolding set_of
returns-clause-steps c = let e : joined c.args.self.now.left.hi c.args.self.now.left.lo ≡ 0 = omega (arith, c.if-lo-ne0.false, c.if-hi-ne0.false) in
    (e, e)
