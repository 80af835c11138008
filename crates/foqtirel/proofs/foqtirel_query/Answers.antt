-- `foqtirel_query` meets its contract: two tables of its own are lent to `query`, and its answer is packed.
use mathlib.Core.Path.{sym, ap, subst, ◌∙◌}
use Prim.Native.Nat.{◌<◌}
use Rattle.answer.specs.declared.Answer.{Answer}
use Rattle.calls.specs.Outcomes.{Outcome}
use Rattle.calls.specs.Calls.{packed, host_call}
use Rattle.warrant.proofs.Calls.{query_packs}
use Rattle.foqtirel.proofs.foqtirel_query.Goals as goal

pub pack-requires : goal.pack-requires
pack-requires c =
    subst (λ (a : Outcome Answer). packed a < 0x1_0000_0000) (sym c.query.ensures.0)
    (query_packs c.args.image.now c.args.literal c.args.budget _ _)

pub returns : goal.returns
unfolding host_call
returns c = c.pack.ensures ∙ ap packed c.query.ensures.0
