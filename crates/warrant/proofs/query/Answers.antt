-- `query` meets its contract: `columns::query` answers over four tables of numbers, and as many of their rows are written as the
-- answer counts.
use mathlib.Core.Path.{◌≡◌, ap, ◌∙◌}
use Prim.Native.Nat.{ℕ, ◌≤◌}
use native.Mathlib.Omega.{arith}
use lib.ListN.{length, length-replicate}
use Rattle.tree.specs.Inside.Tables.{Columns, held}
use Rattle.tree.proofs.Tables.{hold_kept}
use Rattle.answer.specs.Tables.{front}
use Rattle.nodes.specs.Inside.Rows.{rows}
use Rattle.calls.specs.Outcomes.{nodes_in}
use Rattle.calls.specs.Calls.{queried}
use Rattle.warrant.proofs.Rows.{nodes_counted, query_nodes_within, query_rows}
use Rattle.warrant.proofs.query.Goals as goal

pub write-requires : goal.write-requires
write-requires c =
    let a = c.args in
    let k = query_nodes_within a.image.now a.literal a.budget (length a.arguments.now) (length a.nodes.now) in
    let n : c.map_or.result ≡ nodes_in (queried a.image.now a.literal a.budget (length a.arguments.now) (length a.nodes.now)) =
    nodes_counted c.query-answered.result c.map_or.result c.map_or.ensures ∙ ap nodes_in c.query-answered.ensures.answer.0 in
    let room : (m : ℕ) → m ≡ 4096 → c.map_or.result ≤ m = λ m e. omega (arith, k.0, n, e) in (
      omega (arith, k.1, n),
      hold_kept c.query-answered.ensures.kept record {
        indexes_hold = room _ (length-replicate {A = ℕ} 4096 0);
        parents_hold = room _ (length-replicate {A = ℕ} 4096 0);
        kinds_hold = room _ (length-replicate {A = ℕ} 4096 0);
        marks_hold = room _ (length-replicate {A = ℕ} 4096 0);
      },
    )

pub returns : goal.returns
returns c =
    let a = c.args in
    let said = c.query-answered.ensures.answer in
    let t = held c.query-answered.new.columns in
    let r = queried a.image.now a.literal a.budget (length a.arguments.now) (length a.nodes.now) in (
      said.0,
      said.1,
      c.write.ensures
          ∙ ap (λ k. front (rows k t) a.nodes.now) (nodes_counted c.query-answered.result c.map_or.result c.map_or.ensures ∙ ap nodes_in said.0)
          ∙ ap (λ (u : Columns). front (rows (nodes_in r) u) a.nodes.now) said.2
          ∙ query_rows a.image.now a.literal a.budget (length a.arguments.now) a.nodes.now _,
    )
