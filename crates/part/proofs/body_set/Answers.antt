-- `body_set` meets its contract: the set of all literals, or the first test that fails.
use mathlib.Core.Path.{◌≡◌, refl, sym, ap, ◌∙◌}
use mathlib.Core.Logic.{inl, inr}
use Prim.Native.Nat.{ℕ, ◌+◌}
use lib.ListN.{get_or, drop}
use Rattle.literals.specs.Sets.{insert, insert_all}
use Rattle.literals.specs.Inside.Words.{set_of}
use Rattle.layout.specs.Causes.{all_below}
use Rattle.std.proofs.lemmas.List.{take_rest}
use Rattle.part.proofs.Bytes.{below_end, below_step, below_stop, insert_next, insert_none, ascending_rises, rises, rises_end, rises_step, rises_stop}
use native.Mathlib.Omega.{arith}
use Rattle.part.proofs.body_set.Goals as goal

pub loop-i-init : goal.loop-i-init
loop-i-init c = record { range = refl; order = ascending_rises _; whole = ap (λ (s : ℕ). insert_all s c.args.literals.now) (sym c.empty-set.ensures) }

pub returns-then-limit-literal : goal.returns-then-limit-literal
returns-then-limit-literal c = let l = c.loop-i in
    inl (l.invariant.range ∙ below_stop c.args.limit c.args.literals.now l.i (omega arith) (omega (arith, c.from-literal.ensures)), c.at.ensures)

pub returns-then-below : goal.returns-then-below
returns-then-below c = let p = c.args.literals.now in
    let l = c.loop-i in
    inr (l.invariant.range ∙ below_step c.args.limit p l.i (omega arith) (omega (arith, c.from-literal.ensures)) ∙ ap (all_below c.args.limit) (sym (take_rest p (l.i + 1))) ∙ sym c.below.ensures ∙ c.if-below.true, l.invariant.order ∙ rises_stop l.least p l.i (omega arith) (omega (arith, c.from-literal.ensures)), c.at-then-below.ensures)

pub returns-then-literal-least : goal.returns-then-literal-least
returns-then-literal-least c = let p = c.args.literals.now in
    let l = c.loop-i in
    inl (l.invariant.range ∙ below_step c.args.limit p l.i (omega arith) (omega (arith, c.from-literal.ensures)) ∙ ap (all_below c.args.limit) (sym (take_rest p (l.i + 1))) ∙ sym c.below.ensures ∙ c.if-below.false, c.at-then-literal-least.ensures)

pub loop-i-preserved : goal.loop-i-preserved
loop-i-preserved c = let p = c.args.literals.now in
    let l = c.loop-i in
    let v : c.from-literal.result ≡ get_or p l.i 0 = c.from-literal.ensures in
    record {
      range = l.invariant.range ∙ below_step c.args.limit p l.i (omega arith) (omega arith);
      order = l.invariant.order ∙ rises_step l.least p l.i (omega arith) (omega arith) ∙ ap (λ (n : ℕ). rises (n + 1) (drop (l.i + 1) p)) (sym v);
      whole = l.invariant.whole ∙ insert_next (set_of l.set) p l.i (omega arith) ∙ ap (λ (n : ℕ). insert_all n (drop (l.i + 1) p)) (ap (insert (set_of l.set)) (sym v) ∙ sym c.insert-set.ensures);
    }

pub returns : goal.returns
returns c = let p = c.args.literals.now in
    let l = c.loop-i in
    (l.invariant.range ∙ below_end c.args.limit p l.i (omega arith), l.invariant.order ∙ rises_end l.least p l.i (omega arith), sym (l.invariant.whole ∙ insert_none (set_of l.set) p l.i (omega arith)))
