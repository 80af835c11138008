-- The candidates passed so far are no replies.
use mathlib.Core.Path.{◌≡◌}
use Prim.Native.Nat.{◌+◌, ◌≤◌}
use lib.ListN.{length, get_or}
use Rattle.lists.proofs.Scans.{Scanned}
use Rattle.tree.specs.Reply.{reply_kind}
use Rattle.tree.specs.Inside.Steps.{line_of, Prepared, tests_in}
use Rattle.tree.proofs.candidates.first_reply.Given as goal

abbrev pub invariant-loop-index : goal.invariant-loop-index
invariant-loop-index l = l.start ≤ length l.framework.arguments.now
    → Scanned (λ i. (w : Prepared l.framework) → reply_kind (tests_in w) (line_of l.line (l.step.depth + 1)) (get_or l.framework.arguments.now i 0) ≡ 0)
    l.start (length l.framework.arguments.now) l.index
