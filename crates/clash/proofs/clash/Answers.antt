-- `clash` meets its contract, by what reading, the test and the room say.
use mathlib.Core.Path.{sym, ap, ◌∙◌}
use native.Mathlib.Omega.{arith}
use Rattle.std.proofs.lemmas.Result.{err_from_is_err_and}
use Rattle.calls.specs.Verdicts.{told}
use Rattle.layout.specs.Reading.{program_in}
use Rattle.clash.proofs.Answers.{shaped, count_is, tested, pruned_clash, call_refused, call_28, call_29, call_done}
use Rattle.clash.proofs.clash.Goals as goal

pub returns-in_err-read : goal.returns-in_err-read
returns-in_err-read c = let p = err_from_is_err_and c.from_residual.result c.from_residual.ensures.1 in rw (p.1, p.2)
    (call_refused _ _ _ _ (ap told (sym c.read.ensures.0 ∙ c.in_err-read.was)))

pub strict_rules-strict-requires : goal.strict_rules-strict-requires
strict_rules-strict-requires c = let e = sym c.read.ensures.0 ∙ c.in_ok-read.was in
    shaped _ _ e (c.read.ensures.1 e)

pub contradictory_among-requires : goal.contradictory_among-requires
contradictory_among-requires c = let e = sym c.read.ensures.0 ∙ c.in_ok-read.was in
    shaped _ _ e (c.read.ensures.1 e)

pub returns-then-not-contradictory_among : goal.returns-then-not-contradictory_among
returns-then-not-contradictory_among c = let s = c.args.image.now in
    let e = sym c.read.ensures.0 ∙ c.in_ok-read.was in
    let h = c.read.ensures.1 e in
    let t = tested (program_in s).rules _ _ (c.contradictory_among.ensures (program_in s) h)
    (c.strict_rules-strict.ensures (program_in s) h) in
    rw c.at.ensures (call_28 s _ e (t ∙ c.if-not-contradictory_among.true))

pub returns-then-marks-rules : goal.returns-then-marks-rules
returns-then-marks-rules c = let args = c.args in
    let s = args.image.now in
    let e = sym c.read.ensures.0 ∙ c.in_ok-read.was in
    let h = c.read.ensures.1 e in
    let t = tested (program_in s).rules _ _ (c.contradictory_among.ensures (program_in s) h)
    (c.strict_rules-strict.ensures (program_in s) h) in
    rw c.at-then-marks-rules.ensures (call_29 s args.marks.now e (t ∙ c.if-not-contradictory_among.false)
    (omega (arith, c.if-marks-rules.true, count_is s _ _ h c.rule_count-rules.ensures)))

pub prune-small-requires : goal.prune-small-requires
prune-small-requires c = let e = sym c.read.ensures.0 ∙ c.in_ok-read.was in
    shaped _ _ e (c.read.ensures.1 e)

pub mark-requires : goal.mark-requires
mark-requires c = let e = sym c.read.ensures.0 ∙ c.in_ok-read.was in
    let few = (shaped _ _ e (c.read.ensures.1 e)).few in
    (omega (arith, c.rule_count-rules.ensures), omega (arith, c.if-marks-rules.false))

pub overflow_cast-result : goal.overflow_cast-result
overflow_cast-result c = let e = sym c.read.ensures.0 ∙ c.in_ok-read.was in
    let few = (shaped _ _ e (c.read.ensures.1 e)).few in
    omega (arith, c.rule_count-rules.ensures)

pub returns : goal.returns
returns c = let args = c.args in
    let s = args.image.now in
    let e = sym c.read.ensures.0 ∙ c.in_ok-read.was in
    let h = c.read.ensures.1 e in
    let strict = c.strict_rules-strict.ensures (program_in s) h in
    let t = tested (program_in s).rules _ _ (c.contradictory_among.ensures (program_in s) h) strict in
    let n = count_is s _ _ h c.rule_count-rules.ensures in
    call_done s args.marks.now e (t ∙ c.if-not-contradictory_among.false) (omega (arith, c.if-marks-rules.false))
    _ _ _ n (pruned_clash (program_in s).rules _ _ strict (c.prune-small.ensures (program_in s) h))
    c.mark.ensures
