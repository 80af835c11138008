-- The tests in turn: of attack, of the candidate's side, of the line, of defeat, of the rule on blocking defeaters.
use mathlib.Core.Path.{refl, subst}
use Rattle.defeat.specs.Inside.Kinds.{number_of, number_of_kind}
use Rattle.defeat.specs.Inside.Steps.{AttacksBy}
use Rattle.tree.proofs.Asking.{asking_numbers, asking_x, asking_y, asking_apart, asking_discordant, asking_used, asking_free}
use Rattle.tree.proofs.candidates.reply_kind.Goals as goal

pub attacks-requires : goal.attacks-requires
attacks-requires c = c.requires.asked.prepared.laid

pub returns-then-not-attacks : goal.returns-then-not-attacks
returns-then-not-attacks c = λ w. asking_apart c.requires.asked c.args.j c.requires.j_in_list w
    (subst (AttacksBy c.args.framework.now.exclusions.now c.args.framework.now.rows.now _ _) c.if-not-attacks.true c.attacks.ensures)

pub contradictory-requires : goal.contradictory-requires
contradictory-requires c = c.requires.asked.prepared.laid

pub returns-then-contradictory : goal.returns-then-contradictory
returns-then-contradictory c = λ w. asking_discordant c.requires.asked c.args.j c.requires.j_in_list w c.mask_of-mask.result c.mask_of-mask.ensures c.contradictory.result c.contradictory.ensures
    c.if-contradictory.true

pub returns-then-used : goal.returns-then-used
returns-then-used c = λ w. asking_used c.requires.asked c.args.j c.requires.j_in_list w c.mask_of-mask.result c.mask_of-mask.ensures c.contradictory.result c.contradictory.ensures c.used.result
    c.used.ensures c.if-used.true

pub kind-requires : goal.kind-requires
kind-requires c = let x = asking_x c.requires.asked c.args.j c.requires.j_in_list in
    let y = asking_y c.requires.asked c.args.j c.requires.j_in_list in
    record {
      numbers = asking_numbers c.requires.asked c.args.j c.requires.j_in_list;
      x_bound = (x, y);
    }

pub returns-in_err-kind : goal.returns-in_err-kind
returns-in_err-kind c = rw c.from_residual.ensures (λ w.
    asking_free c.requires.asked c.args.j c.requires.j_in_list w c.mask_of-mask.result c.mask_of-mask.ensures c.contradictory.result c.contradictory.ensures c.used.result
    c.used.ensures c.if-contradictory.false c.if-used.false 0 0
    (c.in_err-kind.ensures w.program w.conclusions c.args.framework.now.rows.now w.made) refl)

pub returns : goal.returns
returns c = λ w. asking_free c.requires.asked c.args.j c.requires.j_in_list w c.mask_of-mask.result c.mask_of-mask.ensures c.contradictory.result c.contradictory.ensures c.used.result
    c.used.ensures c.if-contradictory.false c.if-used.false (number_of c.in_ok-kind.kind) (number_of_kind c.follow.result)
    (c.in_ok-kind.ensures w.program w.conclusions c.args.framework.now.rows.now w.made) c.follow.ensures
