-- Attack and defeat as tests that evaluate, over tests of what a frame states.
use Rattle.std.specs.Prelude.{Bool, true, false, not, ◌&&◌, List, ℕ}
use Rattle.lists.specs.Lists.{any, filter}

pub record Tests (A : Type 0) : Type 0 where
  -- all arguments, each once, in list order
  pub arguments : List A
  pub sub : A → A → Bool
  pub excludes : A → A → Bool
  pub preferred : A → A → Bool
  pub concordant : List A → Bool

-- document 01's numbers: 1 proper, 2 blocking, and 0 for none
abbrev pub kind_of : Bool → Bool → ℕ
kind_of true neither = 1
kind_of false true = 2
kind_of false false = 0

module _ {A : Type 0} (t : Tests A) (x y : A) where
  -- the sub-arguments of y at which x attacks it
  unfoldable pub attacked : List A
  attacked = filter (λ z. t.sub z y && t.excludes x z) t.arguments

  -- x is preferred at some attacked one
  unfoldable pub proper : Bool
  proper = any (λ z. t.preferred x z) attacked

  -- at some attacked one neither is preferred
  unfoldable pub neither : Bool
  neither = any (λ z. not (t.preferred x z) && not (t.preferred z x)) attacked

  unfoldable pub blocking : Bool
  blocking = not proper && neither

  -- the kind of x as a defeater of y
  unfoldable pub kind : ℕ
  kind = kind_of proper neither
