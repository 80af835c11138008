-- What the steps that write an image's parts in another order are asked, and what they write.
use Rattle.std.specs.Prelude.{List, [], ◌∷◌, map, ℕ, ◌/◌, ◌%◌, ◌<◌, length, get_or}
use Rattle.layout.specs.Layout.{part_of}
use Rattle.layout.specs.Inside.Steps.{PartAt}

-- the first n parts lie within the image
abbrev pub PartsAt : List ℕ → ℕ → Type 0
PartsAt s n = (i : ℕ) → i < n → PartAt s i

-- numbers, each below how many there are
pub record Numbers (order : List ℕ) : Type 0 where
  pub below : (k : ℕ) → k < length order → get_or order k 0 < length order

-- the parts that some numbers name, in their order
abbrev pub parts_by : List ℕ → List ℕ → List (List ℕ)
parts_by s order = map (part_of s) order

-- the directory entry of a part that begins at a place
abbrev pub entry_bytes : (from size : ℕ) → List ℕ
entry_bytes from size = from % 256 ∷ from / 256 ∷ size % 256 ∷ size / 256 ∷ []
