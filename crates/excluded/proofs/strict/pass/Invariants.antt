-- `strict::pass` meets its contract: the rules of the set that are not left had their turn.
use mathlib.Core.Path.{◌≡◌}
use mathlib.Core.Bool.{true}
use Prim.Native.Nat.{◌≤◌}
use Rattle.literals.specs.Sets.{within}
use Rattle.literals.specs.Inside.Words.{set_of}
use Rattle.excluded.specs.Inside.Strict.{Taken}
use Rattle.excluded.proofs.Takings.{Resting}
use Rattle.excluded.proofs.strict.pass.Given as goal

abbrev pub invariant-loop-i : goal.invariant-loop-i
invariant-loop-i l = record {
  within_left : within (set_of l.i-iterator.left) (set_of l.fn.left) ≡ true;
  n_value : l.initial.p.n ≤ l.p.n;
  reach_value : within (set_of l.initial.p.reach) (set_of l.p.reach) ≡ true;
  taken : Taken l.table (set_of l.derived) l.p.n (set_of l.p.taken) (set_of l.p.reach) l.rules;
  resting : l.p.n ≡ l.initial.p.n → Resting l.table (set_of l.fn.left) (set_of l.initial.p.taken) (set_of l.initial.p.reach) (set_of l.i-iterator.left) (set_of l.p.taken) (set_of l.p.reach);
}
