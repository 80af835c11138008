-- What stands where in an image (document 01, "The program image"). An image is the list of its bytes; a place past the
-- end reads as 0, so that every definition is total.
use Rattle.std.specs.Prelude.{List, ℕ, ◌+◌, ◌*◌, get_or, take, drop}

abbrev pub byte_at : List ℕ → ℕ → ℕ
byte_at s i = get_or s i 0

-- "All two-byte numbers are little-endian."
unfoldable pub number_at : List ℕ → ℕ → ℕ
number_at s i = byte_at s i + 256 * byte_at s (i + 1)

-- "Bytes 0-1: atom count A .. Bytes 2-3: rule count R .. Bytes 4-5: pair count P .."
abbrev pub atoms_of : List ℕ → ℕ
atoms_of s = number_at s 0

abbrev pub rules_of : List ℕ → ℕ
rules_of s = number_at s 2

abbrev pub pair_count_of : List ℕ → ℕ
pair_count_of s = number_at s 4

-- "From byte 8 a directory: R + 1 pairs of offset and length (two bytes each)"
abbrev pub offset_of : List ℕ → ℕ → ℕ
offset_of s i = number_at s (8 + 4 * i)

abbrev pub size_of : List ℕ → ℕ → ℕ
size_of s i = number_at s (10 + 4 * i)

-- the bytes of part i: "Each rule is read within its own part only."
abbrev pub part_of : List ℕ → ℕ → List ℕ
part_of s i = take (size_of s i) (drop (offset_of s i) s)

-- "The first R parts are rules: a kind byte (0 strict, 1 defeasible), a head literal, then 0 to 8 body literals"
abbrev pub kind_byte : List ℕ → ℕ
kind_byte part = byte_at part 0

abbrev pub head_byte : List ℕ → ℕ
head_byte part = byte_at part 1

abbrev pub body_bytes : List ℕ → List ℕ
body_bytes part = drop 2 part

-- "The last part holds P preference pairs of two rule numbers, one byte each"
abbrev pub first_of : List ℕ → ℕ → ℕ
first_of s j = byte_at (part_of s (rules_of s)) (2 * j)

abbrev pub second_of : List ℕ → ℕ → ℕ
second_of s j = byte_at (part_of s (rules_of s)) (2 * j + 1)
