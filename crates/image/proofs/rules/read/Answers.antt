-- `read` meets its contract: entry by entry, cause 3 before those of the rules.
use mathlib.Core.Path.{◌≡◌, sym, ap, subst, ◌∙◌}
use Prim.Native.Nat.{ℕ, ◌+◌, ◌*◌, ◌<◌}
use Rattle.layout.specs.Layout.{rules_of}
use Rattle.layout.specs.Inside.Steps.{Along}
use Rattle.image.proofs.Walk.{walk_start, walk_broken, walk_refused, walk_part, walk_inside, walk_along, walk_next, walk_done, rules_broken, rules_refused, directory_fine}
use native.Mathlib.Omega.{arith}
use Rattle.image.proofs.rules.read.Goals as goal

pub loop-i-init : goal.loop-i-init
loop-i-init c = walk_start c.args.image.now _ _ _ _ c.requires.5 (ap (λ (n : ℕ). 12 + 4 * n) c.requires.3) c.told-table c.told-links c.requires.0

pub returns-in_default : goal.returns-in_default
returns-in_default c = rw c.at.ensures (rules_broken c.args.image.now (walk_broken c.args.image.now _ c.loop-i.ends c.loop-i.bits c.loop-i.i _ _ c.loop-i.invariant (omega (arith, c.requires.3)) (sym c.follow.ensures ∙ c.in_default.is)))

pub rule-requires : goal.rule-requires
rule-requires c = let s = c.args.image.now in
    let more : c.loop-i.i < rules_of s = omega (arith, c.requires.3) in
    let e = sym c.follow.ensures ∙ c.in-Some.is in
    let w = c.loop-i.invariant in
    (w.read, walk_part s _ c.loop-i.ends c.loop-i.bits c.loop-i.i _ _ w more _ _ e, walk_inside s _ c.loop-i.ends c.loop-i.bits c.loop-i.i _ _ w more _ _ e, more, omega (arith, c.requires.3, c.requires.4), c.requires.1, c.requires.2)

pub directory_sound-requires : goal.directory_sound-requires
directory_sound-requires c = let s = c.args.image.now in
    let more : c.loop-i.i < rules_of s = omega (arith, c.requires.3) in
    (c.requires.3, c.requires.4, walk_along s _ c.loop-i.ends c.loop-i.bits c.loop-i.i _ _ c.loop-i.invariant more _ _ (sym c.follow.ensures ∙ c.in-Some.is))

pub returns-then-directory_sound : goal.returns-then-directory_sound
returns-then-directory_sound c = let s = c.args.image.now in
    let more : c.loop-i.i < rules_of s = omega (arith, c.requires.3) in
    rules_refused s _ (directory_fine s _ c.directory_sound.ensures c.if-directory_sound.true) (walk_refused s _ c.loop-i.ends c.loop-i.bits c.loop-i.i _ _ c.loop-i.invariant more _ c.in-Err.ensures)

pub loop-i-preserved : goal.loop-i-preserved
loop-i-preserved c = let s = c.args.image.now in
    let more : c.loop-i.i < rules_of s = omega (arith, c.requires.3) in
    walk_next s _ c.loop-i.ends c.loop-i.bits c.loop-i.i _ _ c.loop-i.invariant more _ _ (sym c.follow.ensures ∙ c.in-Some.is) _ _ _ c.in-Ok.ensures

pub directory_sound-requires-2 : goal.directory_sound-requires-2
directory_sound-requires-2 c = let last : c.loop-i.i ≡ c.args.counts.rules = omega arith in
    (c.requires.3, c.requires.4, subst (Along c.args.image.now c.loop-i.cursor c.loop-i.ends) last c.loop-i.invariant.along)

pub returns-then-directory_sound-2 : goal.returns-then-directory_sound-2
returns-then-directory_sound-2 c = let s = c.args.image.now in
    let l = c.loop-i.invariant.inside in
    walk_done s _ c.loop-i.ends c.loop-i.bits c.loop-i.i _ _ c.loop-i.invariant (omega (arith, c.requires.3)) (directory_fine s _ c.directory_sound-2.ensures c.if-directory_sound-2.true)
