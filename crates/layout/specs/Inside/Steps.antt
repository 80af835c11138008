-- What each step of the reader hands back: what it read with the next cursor, or that it cannot.
use Rattle.std.specs.Prelude.{◌&&◌, List, Option, None, Some, Result, Ok, ◌≡◌, ℕ, ◌+◌, ◌-◌, ◌*◌, ◌≤◌, length, leb, eqb}
use Rattle.lists.specs.Lists.{choose}
use Rattle.layout.specs.declared.Cause.TheVariants.{ImageLength, Header}
use Rattle.layout.specs.declared.Refusal.{Refusal}
use Rattle.layout.specs.declared.cursor.Cursor.{Cursor}
use Rattle.layout.specs.declared.header.Counts.{Counts}
use Rattle.layout.specs.Layout.{byte_at, number_at, atoms_of, rules_of, pair_count_of, offset_of, size_of}
use Rattle.layout.specs.Causes.{and_then, refuse, bad_length, bad_counts, parts_follow}

abbrev pub cursor_at : ℕ → Cursor
cursor_at n = record { at = n }

-- the byte at a place with the place after it, or none, since the bytes end before that
unfoldable pub byte_from : List ℕ → ℕ → Option (ℕ × Cursor)
byte_from s at = choose (leb (at + 1) (length s)) (Some (byte_at s at, cursor_at (at + 1))) None

-- the same for two bytes, one after the other
unfoldable pub pair_from : List ℕ → ℕ → Option (ℕ × ℕ × Cursor)
pair_from s at = choose (leb (at + 2) (length s)) (Some (byte_at s at, byte_at s (at + 1), cursor_at (at + 2))) None

-- the two-byte number at a place with the place after it, or none, since the image ends before that
unfoldable pub number_from : List ℕ → ℕ → Option (ℕ × Cursor)
number_from s at = choose (leb (at + 2) (length s)) (Some (number_at s at, cursor_at (at + 2))) None

-- the same for two of them, one after the other
unfoldable pub numbers_from : List ℕ → ℕ → Option (ℕ × ℕ × Cursor)
numbers_from s at = choose (leb (at + 4) (length s)) (Some (number_at s at, number_at s (at + 2), cursor_at (at + 4))) None

-- where the part ends that the entry at a place names, if it begins where the one before it ends and lies within the image
unfoldable pub follow_from : List ℕ → (at ends : ℕ) → Option (ℕ × Cursor)
follow_from s at ends =
    choose (leb (at + 4) (length s) && (eqb (number_at s at) ends && leb (ends + number_at s (at + 2)) (length s)))
    (Some (ends + number_at s (at + 2), cursor_at (at + 4))) None

-- the cursor stands at entry i of the directory, and what is left from there on decides whether all parts follow
pub record Along (s : List ℕ) (cursor : Cursor) (ends i : ℕ) : Type 0 where
  pub here : cursor.at ≡ 8 + 4 * i
  pub inside : i ≤ rules_of s + 1
  pub far : 12 + 4 * rules_of s ≤ ends
  pub rest : parts_follow s (12 + 4 * rules_of s) 0 (rules_of s + 1) ≡ parts_follow s ends i (rules_of s + 1 - i)

-- the counts and the cursor after them
abbrev pub header_read : List ℕ → Counts × Cursor
header_read s = (record { atoms = atoms_of s; rules = rules_of s; pairs = pair_count_of s }, cursor_at 8)

-- the same, or the first of causes 1 and 2 that applies
unfoldable pub header_of : List ℕ → Result (Counts × Cursor) Refusal
header_of s = and_then (refuse (bad_length s) ImageLength 0) (and_then (refuse (bad_counts s) Header 0) (Ok (header_read s)))

-- the directory has an entry i, and its part lies within the image
pub record PartAt (s : List ℕ) (i : ℕ) : Type 0 where
  pub fits : 12 + 4 * i ≤ length s
  pub inside : offset_of s i + size_of s i ≤ length s

-- part i lies from one place of the image to another
pub record Located (s : List ℕ) (i from to : ℕ) : Type 0 where
  pub from_is : from ≡ offset_of s i
  pub to_is : to ≡ offset_of s i + size_of s i
