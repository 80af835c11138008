-- `preference::beats_some` meets its contract: the bits that are left beat a rule of z exactly if those of x do, and each
-- turn takes one of them away.
use mathlib.Core.Path.{◌≡◌}
use mathlib.Core.List.{List}
use Prim.Native.Nat.{ℕ, ◌≤◌}
use Rattle.program.specs.Program.{Program}
use Rattle.program.specs.Limits.{Limits, Mask}
use Rattle.program.specs.Inside.Table.{Holds}
use Rattle.preference.specs.Preference.{beats_some}
use Rattle.preference.proofs.beats_some.Given as goal

-- what holds while `rest` is left of x
pub record Left (t : List ℕ) (x z rest : ℕ) : Type 0 where
  pub fewer : rest ≤ x
  pub same : (p : Program) → Limits p → Holds p t → Mask p x → beats_some p rest z ≡ beats_some p x z

abbrev pub invariant-loop-bit : goal.invariant-loop-bit
invariant-loop-bit l = Left l.table l.x l.z l.bit-iterator.left
