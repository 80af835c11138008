-- Warrant as document 01 has it, under its heading "Lines and trees".
use Rattle.std.specs.Prelude.{◌≡◌, ℕ}
use Rattle.program.specs.Program.{Program}
use Rattle.argument.specs.Argument.{literal_of}
use Rattle.preference.specs.Preference.{Preferred}
use Rattle.defeat.specs.OfProgram.{frame_of}
use Rattle.tree.specs.Marks.{UndefeatedRoot}

-- "A literal is warranted exactly when some argument for it is the root of a tree and that root is marked U; the whole
-- tree counts, and no budget plays a part." At any preference between masks.
pub record WarrantedBy (p : Program) (Pref : ℕ → ℕ → Type 0) (h : ℕ) : Type 0 where
  pub root : ℕ
  pub argument : (frame_of p Pref).Argument root
  pub for_literal : literal_of root ≡ h
  pub marked_U : UndefeatedRoot (frame_of p Pref) root

-- at document 01's
abbrev pub Warranted : Program → ℕ → Type 0
Warranted p h = WarrantedBy p (Preferred p) h
