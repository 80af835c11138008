-- Two tests that are the same after a renaming of the arguments; the lists may stand in different orders.
use Rattle.std.specs.Prelude.{◌≡◌}
use mathlib.Core.List.{List, map, Memᴰ, Permᴰ}
use Rattle.lists.specs.Lists.{Within}
use Rattle.defeat.specs.Tests.{Tests}

pub record SameTests {A B : Type 0} (t : Tests A) (u : Tests B) (f : A → B) : Type 0 where
  pub listed : Permᴰ (map f t.arguments) u.arguments
  pub sub_same : (x y : A) → Memᴰ x t.arguments → Memᴰ y t.arguments → t.sub x y ≡ u.sub (f x) (f y)
  pub excludes_same : (x y : A) → Memᴰ x t.arguments → Memᴰ y t.arguments
      → t.excludes x y ≡ u.excludes (f x) (f y)
  pub preferred_same : (x y : A) → Memᴰ x t.arguments → Memᴰ y t.arguments
      → t.preferred x y ≡ u.preferred (f x) (f y)
  pub concordant_same : (l : List A) → Within l t.arguments → t.concordant l ≡ u.concordant (map f l)
