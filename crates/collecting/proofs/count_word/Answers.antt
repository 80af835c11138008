-- `count_word` meets its contract, a law for each answer.
use mathlib.Core.Path.{◌≡◌, sym, subst, ◌∙◌}
use Prim.Native.Nat.{ℕ, ◌/◌, ◌<◌}
use lib.ListN.{set}
use Rattle.literals.proofs.Within.{within_le}
use Rattle.closures.specs.Inside.Table.{keeps_at}
use Rattle.collecting.specs.Inside.Columns.{word_count, InWord, Marks}
use Rattle.collecting.proofs.Counts.{word_count_lem, word_none, word_few}
use Rattle.collecting.proofs.Marks.{marks_idle, marks_word}
use native.Mathlib.Omega.{arith}
use borrow.Author.Rules.{rules}
use Rattle.collecting.proofs.count_word.Goals as goal
use Rattle.collecting.proofs.count_word.Goals.{Start}

low : (c : Start) → c.args.w < 1024
low c =
    omega
    (arith, within_le c.args.w (keeps_at c.args.rows.now c.args.literal) c.requires.literal_value, c.requires.laid.0.few c.args.literal (omega (arith, c.requires.laid.1)))

pub returns-then-x-eq0 : goal.returns-then-x-eq0
returns-then-x-eq0 c = let a = c.args in
    record {
      value = (word_none a.rows.now a.literal a.w c.arguments_for-x.result c.if-x-eq0.true c.arguments_for-x.ensures, omega arith);
      marks = marks_idle a.rows.now a.touched.now a.literal a.w c.arguments_for-x.result c.arguments_for-x.ensures c.if-x-eq0.true;
    }

pub returns : goal.returns
returns c = let a = c.args in
    let same : c.count.result ≡ word_count a.rows.now a.literal a.w = c.count.ensures ∙ word_count_lem a.rows.now a.literal a.w c.arguments_for-x.result (search rules) c.arguments_for-x.ensures in record {
      value = (same, omega (arith, same, word_few a.rows.now a.literal a.w));
      marks = subst (λ (y : ℕ). Marks a.rows.now (InWord a.literal a.w) a.touched.now (set a.touched.now (a.w / 64) y)) (sym c.with_bit.ensures)
          (marks_word a.rows.now a.touched.now a.literal a.w (low (goal.at.returns c).Start) c.requires.laid.2);
    }
