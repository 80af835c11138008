use mathlib.Core.Path.{sym, ◌∙◌}
use mathlib.Core.Logic.{inl, inr}
use native.Mathlib.Omega.{arith}
use Rattle.clash.proofs.Selected.{selecting_start, selecting_next, selected_shaped, selected_holds}
use Rattle.clash.proofs.select.Goals as goal
use Rattle.clash.proofs.select.Goals.{then-has, else-has}

pub loop-i-init : goal.loop-i-init
loop-i-init c = selecting_start _ _ _ c.rule_count-rules.ensures _ c.told-part

pub store_row-requires : goal.store_row-requires
store_row-requires c = omega (arith, c.loop-i.invariant.few, c.rule_count-rules.ensures, c.requires.few)

pub loop-i-preserved : goal.loop-i-preserved
loop-i-preserved c =
    let pre = c.requires in
    selecting_next _ _ _ c.rule_count-rules.ensures c.loop-i.i _ _ (omega arith) c.loop-i-test.true c.loop-i.invariant _ _
    (pre.literals c.loop-i.i (omega arith))
    (elim c.if-has.branch [
      | then-has w ↦
          inl (
            sym c.has.ensures ∙ w.if-has.true,
            w.n-is,
            (w.head.result, w.body.result, w.head.ensures, w.body.ensures, w.part-is ∙ w.store_row.ensures),
          )
      | else-has w ↦ inr (sym c.has.ensures ∙ w.if-has.false, w.n-is, w.part-is)
    ])

pub returns : goal.returns
returns c = let few = c.requires.few in
    let count = c.rule_count-rules.ensures in
    let atoms = c.atom_count.ensures in record {
      shaped = selected_shaped _ _ _ count c.loop-i.i _ _ _ _ (omega arith) (omega arith) c.loop-i.invariant atoms c.store_counts.ensures;
      holds = selected_holds _ _ _ count c.loop-i.i _ _ _ _ (omega arith) (omega arith) c.loop-i.invariant atoms c.store_counts.ensures;
    }
