-- `rule` meets its contract: the part, then cause 10, then the table.
use mathlib.Core.Path.{sym, ◌∙◌}
use mathlib.Core.Bool.{true}
use Rattle.std.proofs.lemmas.Result.{err_from_is_err_and}
use Rattle.layout.specs.Layout.{part_of}
use Rattle.layout.specs.Causes.{accepted}
use Rattle.layout.specs.Reading.{rule_in}
use Rattle.layout.proofs.Parts.{located_part}
use Rattle.image.proofs.EachRule.{rule_by}
use Rattle.image.proofs.Walk.{refused_of, found, next_read}
use Rattle.image.proofs.rules.rule.Goals as goal

pub returns-in_err-rule : goal.returns-in_err-rule
returns-in_err-rule c = let e = err_from_is_err_and c.from_residual.result c.from_residual.ensures.1 in
    rw (e.1, e.2) (refused_of c.args.image.now _ c.args.i c.args.atoms c.args.bits _ (located_part _ _ _ _ c.requires.1) c.requires.5 c.in_err-rule.ensures)

pub repeated-requires : goal.repeated-requires
repeated-requires c = let f = found c.args.image.now c.args.i c.args.bits c.args.table.now c.args.links.now c.requires.0 c.requires.3 c.requires.4 _ _ c.args.atoms (located_part _ _ _ _ c.requires.1) c.requires.5 c.requires.6 c.in_ok-rule.ensures in
    (c.requires.0.linked, f.few, f.small)

pub returns-then-repeated : goal.returns-then-repeated
returns-then-repeated c = let s = c.args.image.now in
    let f = found s c.args.i c.args.bits c.args.table.now c.args.links.now c.requires.0 c.requires.3 c.requires.4 _ _ c.args.atoms (located_part _ _ _ _ c.requires.1) c.requires.5 c.requires.6 c.in_ok-rule.ensures in
    rw c.at.ensures (rule_by s c.args.bits c.args.i accepted true f.read.accepts (f.repeat _ c.repeated.ensures ∙ c.if-repeated.true))

pub link-requires : goal.link-requires
link-requires c = let f = found c.args.image.now c.args.i c.args.bits c.args.table.now c.args.links.now c.requires.0 c.requires.3 c.requires.4 _ _ c.args.atoms (located_part _ _ _ _ c.requires.1) c.requires.5 c.requires.6 c.in_ok-rule.ensures in
    (f.small, f.few)

pub store-requires : goal.store-requires
store-requires c = let f = found c.args.image.now c.args.i c.args.bits c.args.table.now c.args.links.now c.requires.0 c.requires.3 c.requires.4 _ _ c.args.atoms (located_part _ _ _ _ c.requires.1) c.requires.5 c.requires.6 c.in_ok-rule.ensures in
    (f.few, f.room, c.requires.0.few)

pub returns : goal.returns
returns c = let s = c.args.image.now in
    let f = found s c.args.i c.args.bits c.args.table.now c.args.links.now c.requires.0 c.requires.3 c.requires.4 _ _ c.args.atoms (located_part _ _ _ _ c.requires.1) c.requires.5 c.requires.6 c.in_ok-rule.ensures in
    next_read s c.args.i c.args.bits c.args.table.now c.args.links.now c.requires.0 c.requires.3 c.requires.4 _ f _ _ _ c.repeated.ensures c.if-repeated.false
    (c.store.array_long ∙ sym c.requires.0.long) c.store.ensures.0 (c.store.ensures.1 (rule_in (part_of s c.args.i)) f.is) _ c.link.ensures
