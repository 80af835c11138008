-- `strict::grow` meets its contract: each turn takes a rule, or is the last.
use mathlib.Core.Path.{◌≡◌}
use mathlib.Core.Bool.{true}
use Prim.Native.Nat.{◌-◌}
use Rattle.literals.specs.Sets.{within}
use Rattle.literals.specs.Inside.Words.{set_of}
use Rattle.excluded.specs.Inside.Strict.{Taken}
use Rattle.excluded.proofs.strict.grow.Given as goal

abbrev pub invariant-loop-p : goal.invariant-loop-p
invariant-loop-p l = (within (set_of l.initial.p.reach) (set_of l.p.reach) ≡ true)
    × Taken l.table (set_of l.derived) l.p.n (set_of l.p.taken) (set_of l.p.reach) l.rules

abbrev pub decreases-loop-p : goal.decreases-loop-p
decreases-loop-p l = 96 - l.p.n
