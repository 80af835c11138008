-- "different non-empty masks in the argument list, or .. one where there are none" (document 02, C-18): what they have to be,
-- and computed.
use Rattle.std.specs.Prelude.{◌≡◌, Bool, not, ℕ, zero, suc, length, eqb}
use mathlib.Core.List.{List, [], ◌∷◌, map, Memᴰ}
use Rattle.lists.specs.Lists.{Distinct, keep, filter, member}
use Rattle.program.specs.Program.{Rule}
use Rattle.argument.specs.Argument.{mask_of, ArgumentList}
use Rattle.argument.specs.List.{argument_list}

-- ---- what they have to be

-- m is not empty, and the mask of an argument of the list
pub record MaskIn (list : List ℕ) (m : ℕ) : Type 0 where
  pub not_empty : ¬ (m ≡ 0)
  pub argument : ℕ
  pub listed : Memᴰ argument list
  pub mask_is : mask_of argument ≡ m

-- each of these masks once, and no other
pub record DifferentMasks (list masks : List ℕ) : Type 0 where
  pub different : Distinct masks
  pub each : (m : ℕ) → MaskIn list m → Memᴰ m masks
  pub no_other : (m : ℕ) → Memᴰ m masks → MaskIn list m

-- "or than one where there are none"
abbrev pub or_one : ℕ → ℕ
or_one zero = 1
or_one (suc n) = suc n

-- so many nodes, and no more, a line may have
pub record LineLimit (rules : List Rule) (most : ℕ) : Type 0 where
  pub list : List ℕ
  pub is_list : ArgumentList rules list
  pub masks : List ℕ
  pub are_masks : DifferentMasks list masks
  pub limit_is : most ≡ or_one (length masks)

-- ---- computed

-- n does not stand in the list
abbrev pub is_new : ℕ → List ℕ → Bool
is_new n l = not (member n l)

-- each number of a list once, where it stands last
unfoldable pub once : List ℕ → List ℕ
once [] = []
once (n ∷ l) = keep (is_new n l) n (once l)

-- the mask is not empty
abbrev pub non_empty : ℕ → Bool
non_empty m = not (eqb m 0)

unfoldable pub masks_in : List ℕ → List ℕ
unfolding once
masks_in list = once (filter non_empty (map mask_of list))

unfoldable pub line_limit : List Rule → ℕ
line_limit rules = or_one (length (masks_in (argument_list rules)))
