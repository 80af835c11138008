-- `plan` meets its contract.
use Prim.Native.Nat.{ℕ, ◌%◌, ◌<◌}
use mathlib.Core.Path.{◌≡◌, subst}
use mathlib.Core.Bool.{true}
use Rattle.literals.specs.Sets.{has}
use Rattle.literals.specs.Inside.Words.{set_of}
use Rattle.literals.proofs.Words.{joined_below}
use Rattle.program.specs.Inside.Table.{Shaped}
use Rattle.rows.specs.Switched.{NeedsOne}
use Rattle.live.specs.Live.{LiveRules}
use Rattle.live.proofs.Takings.{live_shaped, live_needs, live_named_in}
use Rattle.closing.specs.Inside.Plan.{Pairs}
use Rattle.closing.proofs.Pairings.{pair_even}
use borrow.Author.Rules.{rules}
use Rattle.closing.proofs.plan.Goals as goal
use Rattle.closing.proofs.plan.Goals.{After-live_rules, After-pairs_of-pairs}

module _ (c : After-live_rules) where
  live : LiveRules c.args.table.now (set_of c.reach.result.derived) (set_of c.reach.result.literals) c.live_rules.new.live
  live = c.live_rules.ensures

  shaped : Shaped c.live_rules.new.live
  shaped = live_shaped c.args.table.now (set_of c.reach.result.derived) (set_of c.reach.result.literals) _ live c.requires.0

  needed : NeedsOne c.live_rules.new.live
  needed = live_needs c.args.table.now (set_of c.reach.result.derived) (set_of c.reach.result.literals) _ live c.requires.1

module _ (c : After-pairs_of-pairs) where
  even : (l : ℕ) → has (set_of c.pairs_of-pairs.result) l ≡ true → (l < 127) × (l % 2 ≡ 0)
  unfolding set_of
  even = pair_even _ _ c.pairs_of-pairs.ensures (joined_below c.union.result.hi c.union.result.lo (search rules) (search rules))

pub bearing-requires-clause-shaped : goal.bearing-requires-clause-shaped
bearing-requires-clause-shaped c = shaped (goal.at.bearing-requires-clause-shaped c).After-live_rules

pub bearing-requires-clause-needs_one : goal.bearing-requires-clause-needs_one
bearing-requires-clause-needs_one c = needed (goal.at.bearing-requires-clause-needs_one c).After-live_rules

pub span_of-requires : goal.span_of-requires
span_of-requires c = (λ l h. (even (goal.at.span_of-requires c).After-pairs_of-pairs l h).0, c.bearing.ensures.small)

pub returns-clause-planned : goal.returns-clause-planned
returns-clause-planned c = record {
  shaped = shaped (goal.at.returns-clause-planned c).After-live_rules;
  needs = needed (goal.at.returns-clause-planned c).After-live_rules;
  named = live_named_in c.args.table.now (set_of c.reach.result.derived) (set_of c.reach.result.literals) _ (live (goal.at.returns-clause-planned c).After-live_rules);
  bearing = c.bearing.ensures.bearing;
  keeps = c.bearing.array_long;
  bases = c.place-end.array_long;
  small = c.bearing.ensures.small;
  fits = c.place-end.ensures.literals_bound;
  placed = c.place-end.ensures.placed_in;
  behind = c.place-end.ensures.result_bounds.0;
  ends = c.place-end.ensures.result_bounds.1;
  pairs = subst (λ (x : ℕ). Pairs x (set_of c.pairs_of-pairs.result)) c.union.ensures c.pairs_of-pairs.ensures;
  even = even (goal.at.returns-clause-planned c).After-pairs_of-pairs;
  few = c.span_of.ensures.0;
  spans = c.span_of.ensures.1;
}
