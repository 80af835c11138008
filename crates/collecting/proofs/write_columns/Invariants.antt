-- `write_columns` meets its contract: the columns of the masks that are left are left to be written.
use Rattle.lists.proofs.Stores.{Writing}
use Rattle.collecting.specs.Inside.Columns.{columns_list}
use Rattle.collecting.proofs.write_columns.Given as goal

abbrev pub invariant-loop-k : goal.invariant-loop-k
invariant-loop-k l = Writing l.initial.arguments l.arguments l.at l.next (columns_list l.columns l.masks l.w) (columns_list l.columns l.k-iterator.left l.w)
