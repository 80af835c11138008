use Rattle.excluded.proofs.RowWords.{row_read}
use Rattle.excluded.proofs.entry.Goals as goal

pub returns-clause-bits : goal.returns-clause-bits
returns-clause-bits c = row_read c.args.rows.now c.args.literal _ (c.fits-rows _) (c.fits-rows _) c.of_words.ensures
