-- `same` meets its contract: body, then kind.
use mathlib.Core.Path.{◌≡◌, sym, ap, ◌∙◌}
use mathlib.Core.Bool.{Bool, true, false, not}
use Prim.Native.Nat.{ℕ}
use lib.Dec.{eqb}
use borrow.Author.Rules.{rules}
use Rattle.literals.specs.Inside.Words.{set_of}
use Rattle.literals.proofs.Words.{same_set}
use Rattle.program.specs.Inside.Table.{body_at}
use Rattle.image.proofs.Repeated.{other_body}
use Rattle.image.proofs.rules.same.Goals as goal
use Rattle.image.proofs.rules.same.Goals.{After-ne}

not_swapped : (x y : Bool) → x ≡ not y → y ≡ not x
not_swapped x true e = ap not (sym e)
not_swapped x false e = ap not (sym e)

-- whether the bodies are the same
module _ (c : After-ne) where
  bodies : eqb (body_at c.args.table.now c.args.j) (set_of c.args.rule.body) ≡ not c.ne.result
  bodies =
      ap (λ (n : ℕ). eqb n (set_of c.args.rule.body)) (sym c.body.ensures)
      ∙ sym (same_set c.body.result c.args.rule.body (search rules) (search rules))
      ∙ not_swapped _ _ c.ne.ensures

pub returns-then-ne : goal.returns-then-ne
returns-then-ne c = other_body c.args.table.now c.args.j c.args.rule.defeasible _ _ (bodies (goal.at.returns-then-ne c).After-ne ∙ ap not c.if-ne.true)
