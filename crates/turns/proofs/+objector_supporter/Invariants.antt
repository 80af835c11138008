-- Supporter and objector: each step is a `Turn` at its loop, and what holds of one holds of the other. The measure is the
-- budget that is left.
use Prim.Native.Nat.{◌-◌}
use lib.ListN.{length}
use Rattle.tree.specs.Inside.Tables.{held, Kept}
use Rattle.tree.specs.Inside.Steps.{number_of_mark}
use Rattle.tree.proofs.Turn.{Turn}
use Rattle.turns.proofs.+objector_supporter.Given as goal

abbrev pub decreases-supporter : goal.decreases-supporter
decreases-supporter l = l.limit - l.step.at

abbrev pub invariant-supporter-loop-objection : goal.invariant-supporter-loop-objection
invariant-supporter-loop-objection l =
    Turn l.framework l.fn.line l.step l.limit (held l.fn.columns) l.supports l.line (held l.columns) (number_of_mark l.mark) l.next l.start
    × Kept l.fn.columns l.columns

abbrev pub decreases-supporter-loop-objection : goal.decreases-supporter-loop-objection
decreases-supporter-loop-objection l = length l.framework.arguments.now - l.start

abbrev pub decreases-objector : goal.decreases-objector
decreases-objector l = l.limit - l.step.at

abbrev pub invariant-objector-loop-support : goal.invariant-objector-loop-support
invariant-objector-loop-support l =
    Turn l.framework l.fn.line l.step l.limit (held l.fn.columns) l.objections l.line (held l.columns) (number_of_mark l.mark) l.next l.start
    × Kept l.fn.columns l.columns

abbrev pub decreases-objector-loop-support : goal.decreases-objector-loop-support
decreases-objector-loop-support l = length l.framework.arguments.now - l.start
