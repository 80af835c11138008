-- `finish` meets its contract: chains, then counts.
use Rattle.program.proofs.Fillings.{counts_hold}
use Rattle.image.proofs.finish.Goals as goal

pub returns : goal.returns
returns c = λ p limits eb ea er ep b.
    counts_hold p _ _ limits.rules_limit limits.defeasibles_limit _ _ _ c.all.array_long (c.all.ensures p limits eb ep b) er eb ea c.store_counts.ensures
