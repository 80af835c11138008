-- `arguments::write_set` meets its contract: the members that are left are left to be written.
use Rattle.literals.specs.Inside.Words.{set_of}
use Rattle.listing.specs.Inside.Listing.{members_from}
use Rattle.lists.proofs.Stores.{Writing}
use Rattle.listing.proofs.arguments.write_set.Given as goal

abbrev pub invariant-loop-literal : goal.invariant-loop-literal
invariant-loop-literal l = Writing l.initial.arguments l.arguments l.at l.next (members_from l.base 128 (set_of l.fn.set)) (members_from l.base 128 (set_of l.literal-iterator.left))
