-- `with_rows` meets its contract.
use mathlib.Core.Path.{sym, subst}
use Rattle.literals.specs.Inside.Words.{set_of}
use Rattle.collecting.specs.Inside.Columns.{Derivable}
use Rattle.closing.proofs.Masks.{plan_derivable}
use Rattle.sizes.proofs.with_rows.Goals as goal

pub returns : goal.returns
returns _ c = (
  λ p limits so.
      c.list.ensures.result p limits (c.fill.ensures.tells p so)
      (subst (Derivable p.rules) (sym c.union.ensures) (plan_derivable p c.args.live.now (set_of c.args.plan.derived) (set_of c.args.plan.literals) so)),
  λ p limits so.
      c.list.ensures.written p limits (c.fill.ensures.tells p so)
      (subst (Derivable p.rules) (sym c.union.ensures) (plan_derivable p c.args.live.now (set_of c.args.plan.derived) (set_of c.args.plan.literals) so)),
)
