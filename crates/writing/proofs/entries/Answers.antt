use Prim.Native.Nat.{◌+◌, ◌-◌, ◌<◌, ◌≤◌}
use native.Mathlib.Omega.{arith}
use lib.ListN.{length}
use Rattle.writing.proofs.Outputs.{entering_all, entering_none, entry_fits, entry_written}
use Rattle.writing.proofs.entries.Goals as goal
use Rattle.writing.proofs.entries.Goals.{After-locate-span}

-- the entry of the part that the number names has its place, and its two numbers fit
fits : (c : After-locate-span) → (c.loop-number.next + 4 ≤ length c.loop-number.out) × (c.loop-number.from + (c.locate-span.result.to - c.locate-span.result.from) < 65536)
fits c =
    entry_fits _ _ _ _ _ _ _ _ _ c.loop-number.invariant c.loop-number-test.true _ c.from-i.ensures _ _ c.locate-span.ensures
    c.requires.numbers c.requires.parts_at c.requires.rules_in_bounds c.requires.order_bound

pub loop-number-init : goal.loop-number-init
loop-number-init c = entering_all _ _ _ _ _

pub locate-span-requires : goal.locate-span-requires
locate-span-requires c = c.requires.parts_at _ (omega (arith, c.from-i.ensures, c.requires.numbers.below c.loop-number.number-index (omega arith)))

pub entry-next-requires : goal.entry-next-requires
entry-next-requires c = let f = fits (goal.at.entry-next-requires c).After-locate-span in record {
  from_bound = omega arith;
  size_bound = omega arith;
  at_in_bounds = f.0;
}

pub overflow_add-from : goal.overflow_add-from
overflow_add-from c = omega (arith, (fits (goal.at.overflow_add-from c).After-locate-span).1)

pub loop-number-preserved : goal.loop-number-preserved
loop-number-preserved c = entry_written _ _ _ _ _ _ _ _ _ c.loop-number.invariant c.loop-number-test.true _ c.from-i.ensures _ _ c.locate-span.ensures
    c.requires.numbers c.requires.parts_at _ _ c.entry-next.ensures

pub returns : goal.returns
returns c =
    let all = entering_none _ _ _ _ _ _ _ _ _ c.loop-number.invariant (omega arith) in
    record { written = all.0; from_value = all.1 }
