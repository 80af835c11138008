-- Lists that are written into tables.
use Rattle.std.specs.Prelude.{◌≡◌, List, ℕ, ◌+◌, length}
use Rattle.std.proofs.lemmas.List.Edits.{sets}

-- a list was written from `at` on, and the next place is `next`
pub record Written (before after : List ℕ) (at next : ℕ) (l : List ℕ) : Type 0 where
  pub stored : after ≡ sets before at l
  pub next_is : next ≡ at + length l
