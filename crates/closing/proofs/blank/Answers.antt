-- `blank` meets its contract.
use Rattle.closing.proofs.Headers.{blank_table}
use Rattle.closing.proofs.blank.Goals as goal

pub returns : goal.returns
returns c = blank_table c.args.rows.now c.clear.new.words c.requires c.clear.ensures.words_len_unchanged c.clear.ensures.by_index
