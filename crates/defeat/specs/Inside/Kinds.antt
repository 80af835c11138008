-- A defeater's kind in the engine, as document 01's number: "kind 0 root, 1 proper, 2 blocking".
use Rattle.std.specs.Prelude.{ℕ, Option, Some, None}
use Rattle.defeat.specs.declared.kinds.Kind.{Kind}
use Rattle.defeat.specs.declared.kinds.Kind.TheVariants.{Proper, Blocking}

abbrev pub number_of : Kind → ℕ
number_of Proper = 1
number_of Blocking = 2

-- 0 for none
abbrev pub number_of_kind : Option Kind → ℕ
number_of_kind None = 0
number_of_kind (Some k) = number_of k
