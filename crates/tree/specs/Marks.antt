-- Dialectical trees and their marks as document 01 has them, under its heading "Lines and trees". A node is the line that
-- leads to it, so the tree is the relation `Child`; no size, depth or budget plays a part.
use Rattle.std.specs.Prelude.{List, [], ◌∷◌}
use Rattle.defeat.specs.Frame.{Frame}
use Rattle.defeat.specs.Defeat.{Defeater}
use Rattle.tree.specs.Line.{AcceptableLine}

pub data Mark : Type 0 where
  U D : Mark

module _ {A : Type 0} (F : Frame A) where
  -- "The children of a node are all defeaters that keep the line acceptable"
  abbrev pub Child : List A → A → Type 0
  Child [] y = ⊥
  Child (x ∷ l) y = Defeater F y x × AcceptableLine F (y ∷ x ∷ l)

  -- "A leaf is marked U. An inner node is U exactly when every child is D, else D." A leaf has no child, so every child
  -- of it is D. `Marked m l` says that the node at the end of the line l is marked m.
  pub data Marked : Mark → List A → Type 0 where
    undefeated : {l : List A} → ((y : A) → Child l y → Marked D (y ∷ l)) → Marked U l
    defeated : {l : List A} (y : A) → Child l y → Marked U (y ∷ l) → Marked D l

  -- a is "the root of a tree and that root is marked U; the whole tree counts, and no budget plays a part"
  abbrev pub UndefeatedRoot : A → Type 0
  UndefeatedRoot a = Marked U (a ∷ [])
