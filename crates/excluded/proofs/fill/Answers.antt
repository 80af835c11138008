-- `fill` meets its contract: the strict rules, what each literal derives, and then the table.
use mathlib.Core.Path.{refl}
use lib.ListN.{replicate, get_or-replicate}
use Rattle.literals.specs.Sets.{union}
use Rattle.literals.specs.Inside.Words.{set_of}
use Rattle.literals.proofs.Words.{joined_below}
use Rattle.excluded.specs.Inside.Strict.{Laid}
use Rattle.excluded.proofs.RowWords.{replicate_zero}
use Rattle.excluded.proofs.Takings.{reduced}
use Rattle.excluded.proofs.Fillings.{laid, reached}
use borrow.Author.Rules.{rules}
use Rattle.excluded.proofs.fill.Goals as goal
use Rattle.excluded.proofs.fill.Goals.{After-start}

-- the rules and their rows
module _ (c : After-start) where
  lies : Laid c.rules.new.rules (replicate 128 1) c.place.new.base
  lies =
      laid c.args.table.now (set_of c.args.derived) (union (set_of c.args.u) (set_of c.args.derived)) _ (replicate 128 1) _ c.requires
      c.rules.ensures refl c.place.array_long (λ l h. get_or-replicate 128 l 1 0 h)
      c.place.ensures

pub invariant_of-laid : goal.invariant_of-laid
invariant_of-laid c = record { laid = lies (goal.at.invariant_of-laid c).After-start }

pub returns : goal.returns
unfolding set_of
returns c long p holds derived = let so = lies (goal.at.returns c).After-start in
    let known = c.well_formed.1.0 in
    let asked = c.well_formed.1.1.0 in
    let less = reduced p c.args.table.now (set_of c.args.derived) (set_of c.args.u) _ holds
    (joined_below c.args.derived.hi c.args.derived.lo (search (rules, known)) (search (rules, known))) derived c.rules.ensures in
    c.fill-2.ensures p.rules (set_of c.args.derived) less
    (reached _ _ _ so p.rules (set_of c.args.derived) (set_of c.args.u) less
    (joined_below c.args.u.hi c.args.u.lo (search (rules, asked)) (search (rules, asked))) _ _ c.fill.ensures (c.start.ensures (replicate_zero 256)))
