-- The forest of a literal of a program and its node entries, as document 01 has them: those of crate `tree`, over the
-- program's argument list and by its preference.
use Rattle.std.specs.Prelude.{List, ℕ}
use Rattle.program.specs.Program.{Program}
use Rattle.argument.specs.Argument.{ArgumentList}
use Rattle.preference.specs.Preference.{Preferred}
use Rattle.defeat.specs.OfProgram.{frame_of}
use Rattle.tree.specs.Forest.{Forest}
use Rattle.tree.specs.Entries.{Entry}
use Rattle.tree.specs.Published.{ForestFor, EntriesFor}

-- "The forest of h is the tree of each argument for h in list order, then those for its complement." N is its `size`.
pub record ForestIn (p : Program) (h : ℕ) (f : Forest ℕ) : Type 0 where
  pub list : List ℕ
  pub is_list : ArgumentList p.rules list
  pub is_forest : ForestFor (frame_of p (Preferred p)) list h f

-- "Node entries stand in preorder .., each with: .."
pub record EntriesIn (p : Program) (h : ℕ) (es : List Entry) : Type 0 where
  pub list : List ℕ
  pub is_list : ArgumentList p.rules list
  pub are_entries : EntriesFor (frame_of p (Preferred p)) list h es
