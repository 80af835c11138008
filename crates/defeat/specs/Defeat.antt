-- Attack and defeat as document 01 has them, under its heading "Attack and defeat".
use Rattle.std.specs.Prelude.{◌⊎◌}
use Rattle.defeat.specs.Frame.{Frame}

module _ {A : Type 0} (F : Frame A) (x y : A) where
  -- "Argument X attacks Y at a sub-argument Z of Y if the literals of X and Z exclude each other."
  pub record AttacksAt (z : A) : Type 0 where
    pub sub : F.SubArgument z y
    pub excludes : F.Excludes x z

  -- "X is a proper defeater of Y if it is preferred at some attacked Z;"
  pub record ProperDefeater : Type 0 where
    pub at : A
    pub attacks : AttacksAt at
    pub preferred : F.Preferred x at

  -- "otherwise a blocking defeater if at some attacked Z neither is preferred; otherwise none."
  pub record BlockingDefeater : Type 0 where
    pub otherwise : ¬ ProperDefeater
    pub at : A
    pub attacks : AttacksAt at
    pub not_preferred : ¬ F.Preferred x at
    pub not_preferred_to : ¬ F.Preferred at x

  -- either kind
  abbrev pub Defeater : Type 0
  Defeater = ProperDefeater ⊎ BlockingDefeater
