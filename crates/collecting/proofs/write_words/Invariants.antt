-- `write_words` meets its contract: the words that are left are left to be written.
use Rattle.lists.proofs.Stores.{Writing}
use Rattle.literals.specs.Inside.Words.{set_of}
use Rattle.collecting.specs.Inside.Columns.{words_list}
use Rattle.collecting.proofs.write_words.Given as goal

abbrev pub invariant-loop-b : goal.invariant-loop-b
invariant-loop-b l = Writing l.initial.arguments l.arguments l.at l.next (words_list l.rows (set_of l.literals) l.touched l.i) (words_list l.rows (set_of l.literals) l.b-iterator.left l.i)
