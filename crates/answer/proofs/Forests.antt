-- The forest of a literal of a program, N and the node entries: what is computed is what is published, and nothing else is.
use mathlib.Core.Path.{◌≡◌, ap, subst}
use mathlib.Core.List.{List}
use mathlib.Core.Logic.{◌↔◌}
use Prim.Native.Nat.{ℕ}
use Rattle.program.specs.Program.{Program}
use Rattle.derivation.specs.Derivation.{HeadsBelow}
use Rattle.argument.specs.List.{argument_list}
use Rattle.argument.proofs.Lists.{list_is, list_published}
use Rattle.defeat.specs.Frame.{Frame}
use Rattle.preference.specs.Preference.{Preferred, preferred_test}
use Rattle.defeat.specs.OfProgram.{frame_of, tests_of}
use Rattle.defeat.proofs.Renders.{Renders}
use Rattle.defeat.proofs.OfProgram.{frame_laws, frame_renders}
use Rattle.preference.proofs.Preferences.{preferred_renders}
use Rattle.tree.specs.Forest.{Forest, size}
use Rattle.tree.specs.Entries.{Entry}
use Rattle.tree.specs.Published.{ForestFor, EntriesFor}
use Rattle.tree.proofs.Published.{forest_settled}
use Rattle.tree.proofs.Preorder.{entries_settled}
use Rattle.answer.specs.Forest.{ForestIn, EntriesIn}
use Rattle.answer.specs.Answer.{forest, node_count, forest_entries, tests}

module _ (p : Program) (heads : HeadsBelow 128 p.rules) (h : ℕ) where
  abbrev F : Frame ℕ
  F = frame_of p (Preferred p)

  R : Renders F (tests p)
  R = frame_renders p heads (Preferred p) (preferred_test p) (preferred_renders p)

  -- only over the computed list, which is the published one
  computed_forest : {f : Forest ℕ} → ForestIn p h f → ForestFor F (argument_list p.rules) h f
  computed_forest {f} g = subst (λ (l : List ℕ). ForestFor F l h f) ((list_published p.rules heads g.list).0 g.is_list) g.is_forest

  computed_entries : {es : List Entry} → EntriesIn p h es → EntriesFor F (argument_list p.rules) h es
  computed_entries {es} g =
      subst (λ (l : List ℕ). EntriesFor F l h es) ((list_published p.rules heads g.list).0 g.is_list) g.are_entries

  -- "The forest of h is the tree of each argument for h in list order, then those for its complement."
  pub forest_published : (f : Forest ℕ) → ForestIn p h f ↔ (f ≡ forest (tests p) h)
  unfolding tests_of
  forest_published f =
      let settled = forest_settled (frame_laws p (Preferred p)) R h f in (
        λ g. settled.0 (computed_forest g),
        λ e. record { list = argument_list p.rules; is_list = list_is p.rules heads; is_forest = settled.1 e },
      )

  -- "N is its number of nodes, nothing pruned."
  pub count_published : (f : Forest ℕ) → ForestIn p h f → size f ≡ node_count (tests p) h
  count_published f g = ap size ((forest_published f).0 g)

  -- "Node entries stand in preorder .., each with: .."
  pub entries_published : (es : List Entry) → EntriesIn p h es ↔ (es ≡ forest_entries (tests p) h)
  unfolding tests_of
  entries_published es =
      let settled = entries_settled (frame_laws p (Preferred p)) R h es in (
        λ g. settled.0 (computed_entries g),
        λ e. record { list = argument_list p.rules; is_list = list_is p.rules heads; are_entries = settled.1 e },
      )
