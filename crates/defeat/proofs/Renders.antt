-- Tests that answer what a frame states. They are asked about arguments only: of anything else they may say what they
-- like.
use mathlib.Core.List.{List, Memᴰ}
use mathlib.Core.Logic.{◌↔◌}
use Rattle.lists.specs.Decides.{Decides}
use Rattle.defeat.specs.Frame.{Frame}
use Rattle.defeat.specs.Tests.{Tests}

module _ {A : Type 0} (F : Frame A) where
  -- each of the list is an argument
  abbrev pub Arguments : List A → Type 0
  Arguments l = (x : A) → Memᴰ x l → F.Argument x

  pub record Renders (t : Tests A) : Type 0 where
    -- the list holds the arguments, all of them
    pub argument : (x : A) → F.Argument x ↔ Memᴰ x t.arguments
    -- a sub-argument is an argument
    pub sub_argument : (z y : A) → F.SubArgument z y → F.Argument z
    pub sub : (z y : A) → F.Argument z → F.Argument y → Decides (t.sub z y) (F.SubArgument z y)
    pub excludes : (x z : A) → F.Argument x → F.Argument z → Decides (t.excludes x z) (F.Excludes x z)
    pub preferred : (x z : A) → F.Argument x → F.Argument z → Decides (t.preferred x z) (F.Preferred x z)
    pub concordant : (l : List A) → Arguments l → Decides (t.concordant l) (F.Concordant l)
