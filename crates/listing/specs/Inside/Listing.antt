-- What the calls that write the argument list return and leave.
use Rattle.std.specs.Prelude.{List, ◌++◌, Option, Some, None, ℕ, leb, length, drop}
use Rattle.lists.specs.Lists.{choose}
use Rattle.literals.specs.Sets.{has}
use Rattle.argument.specs.List.{picked}

-- base + h, for the members h of s below n
abbrev pub members_from : ℕ → ℕ → ℕ → List ℕ
members_from base n s = picked (has s) base 0 n

-- "listing returns the argument count", or says "More arguments than the argument table holds"
abbrev pub listed : List ℕ → List ℕ → Option ℕ
listed l table = choose (leb (length l) (length table)) (Some (length l)) None

-- "the argument table begins with the list", and with more arguments than it holds it is as it was
abbrev pub with_list : List ℕ → List ℕ → List ℕ
with_list l table = choose (leb (length l) (length table)) (l ++ drop (length l) table) table
