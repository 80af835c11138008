use Prim.Native.Nat.{ℕ, ◌+◌}
use mathlib.Core.Path.{sym, ap, ap₂, ◌∙◌, subst}
use mathlib.Core.Bool.{Bool, ◌&&◌}
use Rattle.literals.specs.Inside.Words.{set_of}
use native.Mathlib.Omega.{arith}
use Rattle.literals.proofs.Words.{joined_below}
use Rattle.closing.proofs.Pairings.{PairsTo, pairs_start, pairs_skip, pairs_more, pairs_all}
use borrow.Author.Rules.{rules}
use Rattle.closing.proofs.pairs_of.Goals as goal
use Rattle.closing.proofs.pairs_of.Goals.{then-has, else-has}

pub loop-atom-init : goal.loop-atom-init
loop-atom-init c = pairs_start _ _ c.empty-found.ensures

pub loop-atom-preserved : goal.loop-atom-preserved
loop-atom-preserved c = elim c.if-has.branch [
  | then-has w ↦
      subst (λ (x : ℕ). PairsTo (set_of c.args.set) x (c.loop-atom.atom + 1)) (sym (ap set_of w.found-is ∙ w.insert-found.ensures))
      (pairs_more (set_of c.args.set) (set_of c.loop-atom.found) c.loop-atom.atom c.loop-atom.invariant
      (sym (ap₂ (λ (x y : Bool). x && y) c.has.ensures c.has-in-loop-atom.ensures) ∙ w.if-has.true))
  | else-has w ↦
      subst (λ (x : ℕ). PairsTo (set_of c.args.set) x (c.loop-atom.atom + 1)) (sym (ap set_of w.found-is))
      (pairs_skip (set_of c.args.set) (set_of c.loop-atom.found) c.loop-atom.atom c.loop-atom.invariant
      (sym (ap₂ (λ (x y : Bool). x && y) c.has.ensures c.has-in-loop-atom.ensures) ∙ w.if-has.false))
]

pub returns : goal.returns
unfolding set_of
returns c = pairs_all _ _ c.loop-atom.atom (joined_below c.args.set.hi c.args.set.lo (search rules) (search rules)) (omega (arith, c.loop-atom-test.false)) c.loop-atom.invariant
