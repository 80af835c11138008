-- What the theorems ask of a frame: five laws. Nothing is asked of preference: no order, not even that two arguments are
-- never preferred over each other.
use mathlib.Core.List.{List, [], ◌∷◌, Memᴰ}
use Rattle.lists.specs.Lists.{Within}
use Rattle.defeat.specs.Frame.{Frame}

module _ {A : Type 0} (F : Frame A) where
  pub record Laws : Type 0 where
    -- fewer arguments stay concordant
    pub concordant_fewer : (l m : List A) → Within l m → F.Concordant m → F.Concordant l
    -- an argument alone is concordant
    pub concordant_one : (x : A) → F.Argument x → F.Concordant (x ∷ [])
    -- an argument is a sub-argument of itself
    pub sub_refl : (x : A) → F.Argument x → F.SubArgument x x
    -- members x and w of a concordant list have no sub-arguments y and z that exclude each other
    pub concordant_apart : (l : List A) (x w y z : A) → F.Concordant l → Memᴰ x l → Memᴰ w l
        → F.SubArgument y x → F.SubArgument z w → F.Excludes y z → ⊥
    pub excludes_sym : (x y : A) → F.Excludes x y → F.Excludes y x
