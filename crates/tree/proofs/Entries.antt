-- The entries of a forest: how many there are, and the first tree's apart from the others'.
use mathlib.Core.Path.{◌≡◌, refl, ap, ◌∙◌}
use mathlib.Core.List.{List, [], ◌∷◌, ◌++◌, map, append-nil, append_assoc, map-append}
use Prim.Native.Nat.{ℕ, suc, ◌+◌}
use native.Mathlib.Omega.{arith}
use native.Mathlib.Nat.{add-zero, add-suc, suc-add, add_assoc}
use lib.ListN.{length, length-append}
use Rattle.defeat.specs.Tests.{Tests}
use Rattle.tree.specs.Forest.{Forest, none, tree, size, replies, forest_of}
use Rattle.tree.specs.Entries.{Entry, preorder, entries}

module _ {A : Type 0} (place : A → ℕ) where
  pub preorder_length : (at parent : ℕ) (f : Forest A) → length (preorder place at parent f) ≡ size f
  preorder_length at parent none = refl
  preorder_length at parent (tree a k c r) =
      simp (length-append, preorder_length (suc at) at c, preorder_length (suc at + size c) parent r)

  -- N is the number of entries
  pub entries_length : (at : ℕ) (f : Forest A) → length (entries place at f) ≡ size f
  entries_length at none = refl
  entries_length at (tree a k c r) =
      simp (length-append, preorder_length (suc at) at c, entries_length (suc at + size c) r)

  -- ---- the first tree, then the others

  module _ (at : ℕ) (a : A) (k : ℕ) (c r : Forest A) where
    -- the first tree alone, and the number after its nodes
    abbrev first : Forest A
    first = tree a k c none

    abbrev after : ℕ
    after = at + size first

    -- of siblings
    pub preorder_first : (parent : ℕ)
        → preorder place at parent (tree a k c r) ≡ preorder place at parent first ++ preorder place after parent r
    preorder_first parent = simp (append-nil, add-zero, add-suc, suc-add)

    -- of roots: the parent of each is its own number
    pub entries_first : entries place at (tree a k c r) ≡ preorder place at at first ++ entries place after r
    entries_first = simp (append-nil, add-zero, add-suc, suc-add)

    -- the same for one field of the entries
    module _ {B : Type 0} (field : Entry → B) where
      pub preorder_field : (parent : ℕ) → map field (preorder place at parent (tree a k c r))
          ≡ map field (preorder place at parent first) ++ map field (preorder place after parent r)
      preorder_field parent =
          ap (map field) (preorder_first parent)
          ∙ map-append field (preorder place at parent first) (preorder place after parent r)

      pub entries_field : map field (entries place at (tree a k c r))
          ≡ map field (preorder place at at first) ++ map field (entries place after r)
      entries_field = ap (map field) entries_first ∙ map-append field (preorder place at at first) (entries place after r)

-- ---- the trees of some roots, then those of others

module _ {A : Type 0} (t : Tests A) where
  pub size_roots : (l m : List A) → size (forest_of t (l ++ m)) ≡ size (forest_of t l) + size (forest_of t m)
  unfolding forest_of
  size_roots [] m = omega arith
  size_roots (a ∷ l) m = let e = size_roots l m in omega arith

  pub entries_roots : (place : A → ℕ) (at : ℕ) (l m : List A) → entries place at (forest_of t (l ++ m))
      ≡ entries place at (forest_of t l) ++ entries place (at + size (forest_of t l)) (forest_of t m)
  unfolding forest_of
  entries_roots place at [] m = rw add-zero
  entries_roots place at (a ∷ l) m =
      rw (entries_roots place (suc at + size (replies t (a ∷ []))) l m)
      (simp (append_assoc, add-suc, suc-add, add_assoc))
