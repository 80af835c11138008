-- `strict::turn` meets its contract, a law for each answer.
use mathlib.Core.Path.{refl, sym, ap, ◌∙◌}
use mathlib.Core.Bool.{false≢true}
use Prim.Native.Nat.{ℕ}
use Rattle.literals.specs.Sets.{minus, within}
use Rattle.literals.specs.Inside.Words.{set_of}
use Rattle.literals.proofs.Within.{within_refl}
use Rattle.literals.proofs.Words.{joined_below}
use Rattle.excluded.proofs.Takings.{taken_room, turn_takes}
use native.Mathlib.Omega.{arith}
use borrow.Author.Rules.{rules}
use Rattle.excluded.proofs.strict.turn.Goals as goal

pub returns-then-has : goal.returns-then-has
returns-then-has c = record {
  n_value = omega arith;
  reach_value = within_refl (set_of c.args.p.reach);
  taken_2 = c.requires.taken;
  taken_value = λ z. (refl, refl, λ w. sym c.has.ensures ∙ c.if-has.true);
}

pub returns-then-not-within : goal.returns-then-not-within
returns-then-not-within c = record {
  n_value = omega arith;
  reach_value = within_refl (set_of c.args.p.reach);
  taken_2 = c.requires.taken;
  taken_value = λ z. (
    refl,
    refl,
    λ w.
        absurd
        (false≢true
        (sym (sym c.within.ensures ∙ c.if-not-within.true) ∙ ap (λ (b : ℕ). within b (set_of c.args.p.reach)) c.body-body.ensures ∙ w)),
  );
}

pub store_row-requires : goal.store_row-requires
store_row-requires c = taken_room c.args.i (omega (arith, c.requires.shaped.few, c.requires.i_bound.0)) (sym c.has.ensures ∙ c.if-has.false) c.requires.taken

pub overflow_add-result : goal.overflow_add-result
overflow_add-result c = record { fits = omega (arith, taken_room c.args.i (omega (arith, c.requires.shaped.few, c.requires.i_bound.0)) (sym c.has.ensures ∙ c.if-has.false) c.requires.taken) }

pub insert-requires-2 : goal.insert-requires-2
insert-requires-2 c = omega (arith, c.head-head.ensures, c.requires.shaped.literals c.args.i c.requires.i_bound.0)

pub returns : goal.returns
unfolding set_of
returns c = let ended =
    turn_takes c.args.table.now (set_of c.args.derived) c.args.i c.args.p.n (set_of c.args.p.taken) (set_of c.args.p.reach) c.args.rules.now c.head-head.result c.minus.result
    (omega (arith, c.requires.shaped.few, c.requires.i_bound.0)) c.requires.i_bound.0 c.requires.i_bound.1 (sym c.has.ensures ∙ c.if-has.false)
    c.head-head.ensures (c.minus.ensures ∙ ap (λ (z : ℕ). minus z (set_of c.args.derived)) c.body-body.ensures)
    (joined_below c.minus.result.hi c.minus.result.lo (search rules) (search rules)) c.told-rules c.requires.taken _ c.store_row.ensures _ c.insert.ensures _ c.insert-2.ensures in
    record {
      n_value = omega arith;
      reach_value = ended.0;
      taken_2 = ended.1;
      taken_value = λ z. absurd (omega arith);
    }
