use mathlib.Core.Path.{◌≡◌, ap, ◌∙◌}
use mathlib.Core.List.{◌∷◌}
use Prim.Native.Nat.{◌+◌, ◌^◌, ◌<◌}
use lib.ListN.{length}
use Rattle.literals.specs.Sets.{minus}
use Rattle.literals.specs.Inside.Words.{set_of}
use Rattle.listing.specs.Inside.Listing.{members_from}
use Rattle.listing.proofs.Picks.{members_none, members_lowest}
use Rattle.lists.proofs.Stores.{writing_all, writing_one, writing_none}
use native.Mathlib.Omega.{arith}
use Rattle.listing.proofs.arguments.write_set.Goals as goal
use Rattle.listing.proofs.arguments.write_set.Goals.{In-Some}

-- the lowest member is the next to be written, and there is a place for it
module _ (c : In-Some) where
  first : members_from c.args.base 128 (set_of c.loop-literal.literal-iterator.left)
      ≡ (c.args.base + c.in-Some.literal) ∷ members_from c.args.base 128 (minus (set_of c.loop-literal.literal-iterator.left) (2 ^ c.in-Some.literal))
  first = members_lowest _ _ _ _ c.in-Some.ensures.steps.0

  place : c.loop-literal.next < length c.loop-literal.arguments
  place =
      let inv = c.loop-literal.invariant in
      omega (arith, ap length first, inv.places, inv.kept, c.requires.set_in_bounds)

pub loop-literal-init : goal.loop-literal-init
loop-literal-init c = writing_all _ _ _ _ (ap (λ s. members_from c.args.base 128 (set_of s)) c.into_iter-literal-iterator.ensures.into_iter_gives)

pub offset_bounds-arguments-next : goal.offset_bounds-arguments-next
offset_bounds-arguments-next c = omega (arith, place (goal.at.offset_bounds-arguments-next c).In-Some, c.well_formed)

pub bounds-arguments-next : goal.bounds-arguments-next
bounds-arguments-next c = place (goal.at.bounds-arguments-next c).In-Some

pub overflow_add-next : goal.overflow_add-next
overflow_add-next c = omega (arith, place (goal.at.overflow_add-next c).In-Some, c.well_formed)

pub loop-literal-preserved : goal.loop-literal-preserved
loop-literal-preserved c = rw (c.in-Some.ensures.steps.1)
    (writing_one _ _ _ c.loop-literal.next _ _ c.loop-literal.invariant _ _ (first (goal.at.loop-literal-preserved c).In-Some))

pub returns : goal.returns
returns c = writing_none _ _ _ _ _ _ c.loop-literal.invariant (ap (members_from _ 128) c.in-None.ensures.steps.0 ∙ members_none _ 128)
