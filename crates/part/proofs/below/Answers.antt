-- `below` meets its contract: the test of each literal is that of `all_below`.
use mathlib.Core.Path.{◌∙◌}
use lib.Dec.{ltb}
use borrow.Author.Rules.{rules}
use borrow.Author.Tests.{tests}
use Rattle.std.proofs.lemmas.Iterator.{YieldsList-from_slice}
use Rattle.std.proofs.lemmas.Iterator.Search.{all_from_yields_List}
use Rattle.part.proofs.Bytes.{below_all}
use Rattle.part.proofs.below.Goals as goal

pub returns : goal.returns
returns c = all_from_yields_List (λ x. ltb x c.args.limit) _ _ _ c.all.ensures.ran (YieldsList-from_slice c.args.literals.now cc) (λ x b q k. search (rules, tests)) ∙ below_all c.args.limit c.args.literals.now
