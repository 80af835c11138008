-- None is left out between two words.
use mathlib.Core.Path.{refl}
use Prim.Native.Nat.{◌-◌}
use Rattle.rows.proofs.Views.{cut_within}
use Rattle.rows.proofs.Submasks.{bounds_next, next_greatest}
use Rattle.rows.proofs.span.DescendingIterator.next.Goals as goal

pub invariant_of-self : goal.invariant_of-self
invariant_of-self c = record { bounds = bounds_next _ _ (cut_within (c.args.self.now.end - 1) c.args.self.now.span) }

pub returns-clause-steps : goal.returns-clause-steps
returns-clause-steps c = (next_greatest _ _ c.args.self.now.bounds c.if-self-eq0.false, refl, refl)
