-- What defeat, lines and trees are made of. Nothing above asks what an argument is inside: any A will do, with these
-- five statements about it.
use Rattle.std.specs.Prelude.{List}

pub record Frame (A : Type 0) : Type 1 where
  pub Argument : A → Type 0
  -- the first is a sub-argument of the second
  pub SubArgument : A → A → Type 0
  -- their literals exclude each other
  pub Excludes : A → A → Type 0
  -- the first is preferred over the second
  pub Preferred : A → A → Type 0
  -- Π with all their masks is not contradictory
  pub Concordant : List A → Type 0
