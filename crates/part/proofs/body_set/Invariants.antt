-- What is left from byte i on completes the set and decides both causes.
use mathlib.Core.Path.{◌≡◌}
use lib.ListN.{drop}
use Rattle.literals.specs.Sets.{insert_all}
use Rattle.literals.specs.Inside.Words.{set_of}
use Rattle.layout.specs.Causes.{all_below, ascending}
use Rattle.part.proofs.Bytes.{rises}
use Rattle.part.proofs.body_set.Given as goal

abbrev pub invariant-loop-i : goal.invariant-loop-i
invariant-loop-i l = record {
  range : all_below l.limit l.literals ≡ all_below l.limit (drop l.i l.literals);
  order : ascending l.literals ≡ rises l.least (drop l.i l.literals);
  whole : insert_all 0 l.literals ≡ insert_all (set_of l.set) (drop l.i l.literals);
}
