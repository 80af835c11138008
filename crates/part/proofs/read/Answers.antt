-- `read` meets its contract: one law for each answer.
use mathlib.Core.Path.{◌≡◌, sym, ap, ◌∙◌}
use mathlib.Core.List.{List}
use Prim.Native.Nat.{ℕ, ◌+◌, ◌≤◌}
use lib.ListN.{length, get_or}
use Rattle.std.specs.Prelude.{Some}
use Rattle.std.proofs.lemmas.List.{take_rest}
use Rattle.std.proofs.lemmas.Result.{err_from_is_err_and}
use Rattle.layout.specs.Layout.{kind_byte, head_byte}
use Rattle.layout.specs.declared.cursor.Cursor.{Cursor}
use Rattle.layout.specs.Inside.Steps.{pair_from}
use Rattle.layout.proofs.Cursors.{pair_ended, pair_is}
use Rattle.part.proofs.Verdicts.{part_short, part_long, part_kind, part_head, part_body, part_empty, part_seventeenth, rule_read}
use native.Mathlib.Omega.{arith}
use Rattle.part.proofs.read.Goals as goal

-- kind and head
record Front (part : List ℕ) (kind head : ℕ) : Type 0 where
  long : 2 ≤ length part
  kind_is : kind ≡ kind_byte part
  head_is : head ≡ head_byte part

front : (part : List ℕ) (kind head : ℕ) (start next : Cursor) → start.at ≡ 0 → pair_from part start.at ≡ Some (kind, head, next) → Front part kind head
front part kind head start next e q =
    let p = pair_is part start.at kind head next q in
    let r = p.room in
    let one : start.at + 1 ≡ 1 = omega arith in
    record { long = omega arith; kind_is = p.first_is ∙ ap (λ (k : ℕ). get_or part k 0) e; head_is = p.second_is ∙ ap (λ (k : ℕ). get_or part k 0) one }

pub returns-then-part-gt10 : goal.returns-then-part-gt10
returns-then-part-gt10 c = rw c.at.ensures (part_long _ _ _ _ c.if-part-gt10.true)

pub returns-in_default : goal.returns-in_default
returns-in_default c = rw c.at-in_default.ensures (part_short _ _ _ _ (omega (arith, c.start.ensures, pair_ended c.args.part.now _ (sym c.pair.ensures ∙ c.in_default.is))))

pub returns-then-kind-gt1 : goal.returns-then-kind-gt1
returns-then-kind-gt1 c = let f = front c.args.part.now _ _ _ _ c.start.ensures (sym c.pair.ensures ∙ c.in-Some.is) in
    let k = f.kind_is in
    rw c.at-then-kind-gt1.ensures (part_kind _ _ _ _ f.long c.if-part-gt10.false (omega arith))

pub returns-then-atoms-head : goal.returns-then-atoms-head
returns-then-atoms-head c = let f = front c.args.part.now _ _ _ _ c.start.ensures (sym c.pair.ensures ∙ c.in-Some.is) in
    let k = f.kind_is in
    let h = f.head_is in
    rw c.at-then-atoms-head.ensures (part_head _ _ _ _ f.long c.if-part-gt10.false (omega arith) (omega (arith, c.from-head.ensures)))

pub slice_bounds-body_set-count : goal.slice_bounds-body_set-count
slice_bounds-body_set-count c = let f = front c.args.part.now _ _ _ _ c.start.ensures (sym c.pair.ensures ∙ c.in-Some.is) in f.long

pub slice_bounds-body_set-start : goal.slice_bounds-body_set-start
slice_bounds-body_set-start c = let f = front c.args.part.now _ _ _ _ c.start.ensures (sym c.pair.ensures ∙ c.in-Some.is) in f.long

pub returns-in_err-body : goal.returns-in_err-body
returns-in_err-body c = let f = front c.args.part.now _ _ _ _ c.start.ensures (sym c.pair.ensures ∙ c.in-Some.is) in
    let k = f.kind_is in
    let h = f.head_is in
    let e = err_from_is_err_and c.from_residual.result c.from_residual.ensures.1 in
    rw (e.1, e.2) (part_body _ _ _ _ f.long c.if-part-gt10.false (omega arith) (omega (arith, c.from-head.ensures)) _ (rw take_rest at c.in_err-body.ensures))

pub returns-then-part-eq2 : goal.returns-then-part-eq2
returns-then-part-eq2 c = let f = front c.args.part.now _ _ _ _ c.start.ensures (sym c.pair.ensures ∙ c.in-Some.is) in
    let k = f.kind_is in
    let h = f.head_is in
    let g : c.from-head.result ≡ c.in-Some.second = c.from-head.ensures in
    rw c.at-then-part-eq2.ensures (part_empty _ _ _ _ f.long c.if-part-gt10.false (omega arith) (omega arith) _ (rw take_rest at c.in_ok-body.ensures) _ (g ∙ h) _ k c.if-defeasible.true c.if-part-eq2.true)

pub returns-then-bits-ge16 : goal.returns-then-bits-ge16
returns-then-bits-ge16 c = let f = front c.args.part.now _ _ _ _ c.start.ensures (sym c.pair.ensures ∙ c.in-Some.is) in
    let k = f.kind_is in
    let h = f.head_is in
    let g : c.from-head.result ≡ c.in-Some.second = c.from-head.ensures in
    rw c.at-then-bits-ge16.ensures (part_seventeenth _ _ _ _ f.long c.if-part-gt10.false (omega arith) (omega arith) _ (rw take_rest at c.in_ok-body.ensures) _ (g ∙ h) _ k c.else-defeasible.either c.if-defeasible-2.true c.if-bits-ge16.true)

pub returns : goal.returns
returns c = let f = front c.args.part.now _ _ _ _ c.start.ensures (sym c.pair.ensures ∙ c.in-Some.is) in
    let k = f.kind_is in
    let h = f.head_is in
    let g : c.from-head.result ≡ c.in-Some.second = c.from-head.ensures in
    rule_read _ _ _ _ f.long c.if-part-gt10.false (omega arith) (omega arith) _ (rw take_rest at c.in_ok-body.ensures) _ (g ∙ h) _ k c.else-defeasible.either c.else-defeasible-2.either
