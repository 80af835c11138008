-- The bytes that hold a program (document 01, "The program image"): the image that the reader reads back.
use Rattle.std.specs.Prelude.{List, [], ◌∷◌, ◌++◌, map, ℕ, ◌+◌, ◌*◌, ◌/◌, ◌%◌, ◌<◌, length}
use Rattle.program.specs.Program.{Kind, strict, defeasible, Rule, Program}
use Rattle.layout.specs.Layout.{byte_at}

-- each number is a byte, as in every lent image
abbrev pub Bytes : List ℕ → Type 0
Bytes s = (i : ℕ) → byte_at s i < 256

-- "a kind byte (0 strict, 1 defeasible)"
abbrev pub kind_number : Kind → ℕ
kind_number strict = 0
kind_number defeasible = 1

-- "a kind byte .., a head literal, then 0 to 8 body literals"
abbrev pub rule_bytes : Rule → List ℕ
rule_bytes r = kind_number r.kind ∷ r.head ∷ r.body

-- "preference pairs of two rule numbers, one byte each"
abbrev pub pair_bytes : List (ℕ × ℕ) → List ℕ
pair_bytes [] = []
pair_bytes (q ∷ l) = q.0 ∷ q.1 ∷ pair_bytes l

-- "The first R parts are rules"; "The last part holds P preference pairs"
abbrev pub parts_of : Program → List (List ℕ)
parts_of p = map rule_bytes p.rules ++ (pair_bytes p.pairs ∷ [])

-- "pairs of offset and length (two bytes each)", the first part at a place, each later one where the one before ends
abbrev pub directory : ℕ → List (List ℕ) → List ℕ
directory at [] = []
directory at (part ∷ parts) =
    at % 256 ∷ at / 256 ∷ length part % 256 ∷ length part / 256 ∷ directory (at + length part) parts

abbrev pub together : List (List ℕ) → List ℕ
together [] = []
together (part ∷ parts) = part ++ together parts

-- "Bytes 0-1: atom count A .. Bytes 2-3: rule count R .. Bytes 4-5: pair count P .. Bytes 6-7: zero."
abbrev pub header_bytes : (atoms rules pairs : ℕ) → List ℕ
header_bytes a r p = a % 256 ∷ a / 256 ∷ r % 256 ∷ r / 256 ∷ p % 256 ∷ p / 256 ∷ 0 ∷ 0 ∷ []

unfoldable pub image_of : Program → List ℕ
image_of p =
    header_bytes p.atoms (length p.rules) (length p.pairs)
    ++ (directory (12 + 4 * length p.rules) (parts_of p) ++ together (parts_of p))

-- "Pairs ascend strictly by first, then second number."
abbrev pub pair_key : ℕ × ℕ → List ℕ
pair_key q = q.0 ∷ q.1 ∷ []
