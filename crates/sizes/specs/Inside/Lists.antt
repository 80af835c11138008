-- What the list leaves and returns, of each program that was planned.
use Rattle.std.specs.Prelude.{◌≡◌, List, Option, ℕ}
use Rattle.program.specs.Program.{Program}
use Rattle.program.specs.Limits.{Limits}
use Rattle.argument.specs.List.{argument_list}
use Rattle.listing.specs.Inside.Listing.{listed, with_list}
use Rattle.closing.specs.Inside.Plan.{PlanOf}

abbrev pub ListsPlanned : (live : List ℕ) (d s : ℕ) (before after : List ℕ) → Option ℕ → Type 0
ListsPlanned live d s before after r =
    ((p : Program) → Limits p → PlanOf p live d s → r ≡ listed (argument_list p.rules) before)
    × ((p : Program) → Limits p → PlanOf p live d s → after ≡ with_list (argument_list p.rules) before)
