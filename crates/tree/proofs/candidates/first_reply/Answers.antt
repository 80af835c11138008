-- The scan begins, misses a candidate, and ends at a reply or behind the last candidate.
use mathlib.Core.Path.{sym}
use native.Mathlib.Omega.{arith}
use Rattle.lists.proofs.Scans.{scan_start, scan_more}
use Rattle.tree.proofs.candidates.first_reply.Goals as goal

pub loop-index-init : goal.loop-index-init
loop-index-init c = λ h. scan_start h

pub returns-in-Some : goal.returns-in-Some
returns-in-Some c =
    let from = c.loop-index.auto.index in
    let s = c.loop-index.invariant (omega (arith, from, c.loop-index-test.true)) in
    record {
      low = s.low;
      in_list = c.loop-index-test.true;
      none_before = λ w i a b. s.missed i a b w;
      kind_is = c.in-Some.ensures;
    }

pub loop-index-preserved : goal.loop-index-preserved
loop-index-preserved c = λ h. scan_more (c.loop-index.invariant h) c.loop-index-test.true (λ w. sym (c.in_default.ensures w))

pub returns : goal.returns
returns c = λ w i a b.
    let s = c.loop-index.invariant (omega (arith, a, b)) in
    s.missed i a (omega (arith, b, c.loop-index-test.false)) w
