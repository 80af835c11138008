-- `read` meets its contract: cause 11, then pair by pair.
use mathlib.Core.Path.{sym, ◌∙◌}
use mathlib.Core.Bool.{false}
use Rattle.std.proofs.lemmas.Result.{err_from_is_err_and}
use Rattle.layout.proofs.Cursors.{pair_ended}
use Rattle.image.proofs.EachPair.{pairs_sized, after_eleven}
use Rattle.image.proofs.Beaten.{base_of, pairing_start, taken, tested, pairing_refused, need_first, both_there, pairing_next, pairing_done}
use native.Mathlib.Omega.{arith}
use Rattle.image.proofs.pairs.read.Goals as goal

pub loop-first-init : goal.loop-first-init
loop-first-init c = let base = base_of c.args.image.now _ _ c.args.from _ _ c.requires.0.1 c.requires.1 c.requires.2 c.requires.3 in
    pairing_start c.args.image.now _ _ _ base _ _ _ c.start-cursor.ensures c.clear.array_long c.requires.0.1.rows c.clear.ensures.0 c.clear.ensures.1

pub returns-in_err-examine : goal.returns-in_err-examine
returns-in_err-examine c = let s = c.args.image.now in
    let base = base_of s _ _ c.args.from _ _ c.requires.0.1 c.requires.1 c.requires.2 c.requires.3 in
    let now = taken s _ _ _ base _ c.loop-first.least c.loop-first.place _ c.loop-first.invariant _ _ _ _ _ c.if-pairs-counts.false (sym c.pair.ensures ∙ c.in-Some.is) c.from-a.ensures c.from-b.ensures in
    let v = sym (tested s _ _ _ base _ c.loop-first.least c.loop-first.place _ c.loop-first.invariant _ _ _ now) ∙ sym c.examine.ensures ∙ c.in_err-examine.was in
    let all = pairing_refused s _ _ _ base _ c.loop-first.least c.loop-first.place _ c.loop-first.invariant _ _ _ now _ v in
    let e = err_from_is_err_and c.from_residual.result c.from_residual.ensures.1 in
    rw (e.1, e.2) (sym (after_eleven s false _ (pairs_sized s _ _ base.size base.count_is c.if-pairs-counts.false) ∙ all), λ q. cc)

pub beat-requires : goal.beat-requires
beat-requires c = let s = c.args.image.now in
    let base = base_of s _ _ c.args.from _ _ c.requires.0.1 c.requires.1 c.requires.2 c.requires.3 in
    let now = taken s _ _ _ base _ c.loop-first.least c.loop-first.place _ c.loop-first.invariant _ _ _ _ _ c.if-pairs-counts.false (sym c.pair.ensures ∙ c.in-Some.is) c.from-a.ensures c.from-b.ensures in
    both_there s _ _ _ base _ c.loop-first.least c.loop-first.place _ c.loop-first.invariant _ _ _ now (sym (tested s _ _ _ base _ c.loop-first.least c.loop-first.place _ c.loop-first.invariant _ _ _ now) ∙ sym c.examine.ensures ∙ c.in_ok-examine.was)

pub loop-first-smaller : goal.loop-first-smaller
loop-first-smaller c = let base = base_of c.args.image.now _ _ c.args.from _ _ c.requires.0.1 c.requires.1 c.requires.2 c.requires.3 in
    let now = taken c.args.image.now _ _ _ base _ c.loop-first.least c.loop-first.place _ c.loop-first.invariant _ _ _ _ _ c.if-pairs-counts.false (sym c.pair.ensures ∙ c.in-Some.is) c.from-a.ensures c.from-b.ensures in
    omega (arith, now.less, now.next_at)

pub loop-first-preserved : goal.loop-first-preserved
loop-first-preserved c = let s = c.args.image.now in
    let base = base_of s _ _ c.args.from _ _ c.requires.0.1 c.requires.1 c.requires.2 c.requires.3 in
    let now = taken s _ _ _ base _ c.loop-first.least c.loop-first.place _ c.loop-first.invariant _ _ _ _ _ c.if-pairs-counts.false (sym c.pair.ensures ∙ c.in-Some.is) c.from-a.ensures c.from-b.ensures in
    let v = sym (tested s _ _ _ base _ c.loop-first.least c.loop-first.place _ c.loop-first.invariant _ _ _ now) ∙ sym c.examine.ensures ∙ c.in_ok-examine.was in
    pairing_next s _ _ _ base _ c.loop-first.least c.loop-first.place _ c.loop-first.invariant _ _ _ now v _ (c.beat.ensures _ (need_first s _ _ _ base _ c.loop-first.least c.loop-first.place _ c.loop-first.invariant _ _ _ now v))

pub returns : goal.returns
returns c = let s = c.args.image.now in
    let base = base_of s _ _ c.args.from _ _ c.requires.0.1 c.requires.1 c.requires.2 c.requires.3 in
    let at = c.loop-first.invariant.here in
    let over = pair_ended _ _ (sym c.pair.ensures ∙ c.in_default.is) in
    let done = pairing_done s _ _ _ base _ c.loop-first.least c.loop-first.place _ c.loop-first.invariant (omega (arith, over, c.if-pairs-counts.false, c.requires.3)) in
    (sym (after_eleven s false _ (pairs_sized s _ _ base.size base.count_is c.if-pairs-counts.false) ∙ done.0), λ e. done.1)
