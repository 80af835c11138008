-- Argumentation lines as document 01 has them, under its heading "Lines and trees".
-- A line is kept with its LAST argument first: a line grows at its end and a list at its head, so that one more argument
-- is one more `∷`. Positions count from the root, at the far end: in `x ∷ l` the position of x is the length of l.
use mathlib.Core.List.{List, [], ◌∷◌, Memᴰ}
use Rattle.std.specs.Prelude.{ℕ, zero, suc, length}
use Rattle.defeat.specs.Frame.{Frame}
use Rattle.defeat.specs.Defeat.{ProperDefeater, BlockingDefeater, Defeater}

module _ {A : Type 0} where
  -- l, with x before it if n is even
  abbrev pub if_even : ℕ → A → List A → List A
  if_even zero x l = x ∷ l
  if_even (suc zero) x l = l
  if_even (suc (suc n)) x l = if_even n x l

  -- the arguments at even positions, the root's being 0
  abbrev pub at_even : List A → List A
  at_even [] = []
  at_even (x ∷ l) = if_even (length l) x (at_even l)

  -- the arguments at odd positions
  abbrev pub at_odd : List A → List A
  at_odd [] = []
  at_odd (x ∷ l) = if_even (suc (length l)) x (at_odd l)

module _ {A : Type 0} (F : Frame A) where
  -- "A line is a list of arguments, each a defeater of the one before."
  pub data Line : List A → Type 0 where
    root : {a : A} → F.Argument a → Line (a ∷ [])
    reply : {y x : A} {l : List A} → F.Argument y → Defeater F y x → Line (x ∷ l) → Line (y ∷ x ∷ l)

  -- "no argument is a sub-argument of an earlier one"
  abbrev pub NoneWithinEarlier : List A → Type 0
  NoneWithinEarlier [] = Unit {0}
  NoneWithinEarlier (y ∷ l) = ((x : A) → Memᴰ x l → ¬ F.SubArgument y x) × NoneWithinEarlier l

  -- "directly after a blocking defeater stands only a proper one"
  abbrev pub ProperAfterBlocking : List A → Type 0
  ProperAfterBlocking [] = Unit {0}
  ProperAfterBlocking (x ∷ []) = Unit {0}
  ProperAfterBlocking (y ∷ x ∷ []) = Unit {0}
  ProperAfterBlocking (z ∷ y ∷ x ∷ l) = (BlockingDefeater F y x → ProperDefeater F z y) × ProperAfterBlocking (y ∷ x ∷ l)

  -- "It is acceptable if: Π with all masks at even positions (the first position is 0) isn't contradictory, likewise for
  -- odd positions; no argument is a sub-argument of an earlier one; and directly after a blocking defeater stands only a
  -- proper one."
  pub record AcceptableLine (l : List A) : Type 0 where
    pub line : Line l
    pub even : F.Concordant (at_even l)
    pub odd : F.Concordant (at_odd l)
    pub none_within : NoneWithinEarlier l
    pub proper_after : ProperAfterBlocking l
