-- `defeaters::attacks` meets its contract: in the low word of the row, or else in the high one.
use mathlib.Core.Path.{sym, ap, ◌∙◌, subst}
use mathlib.Core.Bool.{true, false}
use Prim.Native.Nat.{ℕ}
use Rattle.literals.specs.Inside.Words.{set_of}
use Rattle.excluded.specs.Inside.Exclusions.{excluded_by}
use Rattle.defeat.specs.Inside.Steps.{SomeDerived}
use Rattle.defeat.proofs.Searching.{attacks_low, attacks_high}
use borrow.Author.Rules.{rules}
use Rattle.defeat.proofs.defeaters.attacks.Goals as goal

pub returns-then-some_derived : goal.returns-then-some_derived
unfolding set_of
returns-then-some_derived c = attacks_low c.args.exclusions.now c.args.rows.now c.args.x c.args.y c.entry-excluded.result.hi c.entry-excluded.result.lo (search rules)
    (sym (c.entry-excluded.ensures.row ∙ ap (excluded_by c.args.exclusions.now) c.literal_of.ensures.0))
    (subst (λ (m : ℕ). SomeDerived c.args.rows.now c.entry-excluded.result.lo 0 m true) c.mask_of-mask.ensures
    (subst (SomeDerived c.args.rows.now c.entry-excluded.result.lo 0 c.mask_of-mask.result) c.if-some_derived.true c.some_derived.ensures))

pub returns : goal.returns
unfolding set_of
returns c = attacks_high c.args.exclusions.now c.args.rows.now c.args.x c.args.y c.entry-excluded.result.hi c.entry-excluded.result.lo (search rules)
    (sym (c.entry-excluded.ensures.row ∙ ap (excluded_by c.args.exclusions.now) c.literal_of.ensures.0)) c.some_derived-2.result
    (subst (λ (m : ℕ). SomeDerived c.args.rows.now c.entry-excluded.result.lo 0 m false) c.mask_of-mask.ensures
    (subst (SomeDerived c.args.rows.now c.entry-excluded.result.lo 0 c.mask_of-mask.result) c.if-some_derived.false c.some_derived.ensures))
    (subst (λ (m : ℕ). SomeDerived c.args.rows.now c.entry-excluded.result.hi 64 m c.some_derived-2.result) c.mask_of-mask.ensures c.some_derived-2.ensures)
