-- `list` meets its contract: the list that the table tells of is the list of the arguments.
use mathlib.Core.Path.{◌≡◌}
use Rattle.literals.specs.Inside.Words.{set_of}
use Rattle.program.specs.Program.{Program}
use Rattle.program.specs.Limits.{Limits}
use Rattle.argument.specs.List.{argument_list}
use Rattle.listing.proofs.Listings.{listed_over, kept_over, listed_count, written_list}
use Rattle.closures.specs.Inside.Table.{Tells}
use Rattle.collecting.specs.Inside.Columns.{Derivable, list_of}
use Rattle.collecting.proofs.Lists.{list_told}
use Rattle.collecting.proofs.list.Goals as goal
use Rattle.collecting.proofs.list.Goals.{Start}

-- what the table tells of is the program's list
read : (s : Start) (p : Program) → Limits p → Tells p.rules s.args.rows.now → Derivable p.rules (set_of s.args.literals)
    → list_of s.args.rows.now (set_of s.args.literals) ≡ argument_list p.rules
read s p = list_told p s.args.rows.now (set_of s.args.literals)

pub returns-then-arguments-count : goal.returns-then-arguments-count
returns-then-arguments-count c = let n = c.count-count.ensures.value in record {
  result = (λ p limits rows derivable. listed_over _ _ c.args.arguments.now _ (read (goal.at.returns-then-arguments-count c).Start p limits rows derivable) n c.if-arguments-count.true);
  written = (λ p limits rows derivable. kept_over _ _ c.args.arguments.now _ (read (goal.at.returns-then-arguments-count c).Start p limits rows derivable) n c.if-arguments-count.true);
}

pub returns : goal.returns
returns c = let n = c.count-count.ensures.value in record {
  result = (λ p limits rows derivable. listed_count _ _ c.args.arguments.now _ (read (goal.at.returns c).Start p limits rows derivable) n c.if-arguments-count.false);
  written = (λ p limits rows derivable. written_list _ _ c.args.arguments.now _ (read (goal.at.returns c).Start p limits rows derivable) n c.if-arguments-count.false _ c.write.ensures);
}
