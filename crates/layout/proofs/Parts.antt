-- Where a part lies, and that the slice there is the part.
use mathlib.Core.Path.{◌≡◌, refl}
use mathlib.Core.List.{List}
use Prim.Native.Nat.{ℕ, ◌-◌, ◌≤◌}
use native.Mathlib.Omega.{arith}
use lib.ListN.{length, take, drop, length-take, length-drop}
use Rattle.layout.specs.Layout.{size_of, part_of}
use Rattle.layout.specs.Inside.Steps.{PartAt, Located}

pub part_length : (s : List ℕ) (i : ℕ) → PartAt s i → length (part_of s i) ≡ size_of s i
part_length s i p = let f = p.inside in simp (length-take, length-drop) (omega arith)

module _ (s : List ℕ) (i from to : ℕ) (l : Located s i from to) where
  pub located_order : from ≤ to
  located_order = let f = l.from_is in let t = l.to_is in omega arith

  pub located_inside : PartAt s i → to ≤ length s
  located_inside p = let t = l.to_is in omega (arith, p.inside)

  pub located_part : take (to - from) (drop from s) ≡ part_of s i
  located_part =
      let f = l.from_is in
      let t = l.to_is in
      let z : to - from ≡ size_of s i = omega arith in
      rw (z, f) refl

  pub located_length : to ≤ length s → length (take (to - from) (drop from s)) ≡ size_of s i
  located_length h = let f = l.from_is in let t = l.to_is in simp (length-take, length-drop) (omega arith)
