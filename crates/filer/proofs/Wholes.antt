-- An accepted image with its rules in an order: its pieces, one after the other.
use mathlib.Core.Path.{◌≡◌, refl, sym, ap, ap₂, ◌∙◌, subst}
use mathlib.Core.List.{List, [], ◌∷◌, ◌++◌, map, Memᴰ, append_assoc, append-nil}
use Prim.Native.Nat.{ℕ, ◌+◌, ◌*◌, ◌≤◌}
use native.Mathlib.Omega.{arith}
use lib.ListN.{length, take, drop, length-append}
use lib.Seq.{sets, take_at}
use Rattle.lists.specs.Inside.Numbering.{Numbering}
use Rattle.lists.specs.Inside.Stores.{Written}
use Rattle.lists.proofs.Numberings.{numbering_length}
use Rattle.lists.proofs.Stores.{written_append}
use Rattle.program.specs.Program.{Rule, Program, rule_at}
use Rattle.layout.specs.Layout.{atoms_of, rules_of, pair_count_of, part_of}
use Rattle.layout.specs.Reading.{program_in}
use Rattle.writing.specs.Image.{Bytes, rule_bytes, pair_bytes, parts_of, directory, together, header_bytes, image_of}
use Rattle.writing.specs.Inside.Steps.{PartsAt, Numbers, parts_by, entry_bytes}
use Rattle.writing.proofs.Reading.{image_length}
use Rattle.writing.proofs.Written.{rule_count_lem, pair_count, image_as_long, header_written}
use Rattle.writing.proofs.Accepting.{image_short, pair_bytes_length}
use Rattle.writing.proofs.Outputs.{together_append, directory_append}
use Rattle.filing.specs.Filed.{ordered}
use Rattle.filing.specs.Claims.{AcceptedImage}
use Rattle.filing.proofs.Orders.{ordered_length}
use Rattle.filing.proofs.Images.{pairs_count, ordered_image_length}
use Rattle.filing.proofs.Reordering.{reads, writable, wellformed}
use Rattle.filer.proofs.Rules.{rule_of, accepted_ruled, numbering_table}

map_bytes : (s : List ℕ) (rules : List Rule) (l : List ℕ) → ((i : ℕ) → Memᴰ i l → rule_bytes (rule_at rules i) ≡ part_of s i)
    → map rule_bytes (map (rule_at rules) l) ≡ map (part_of s) l
map_bytes s rules [] h = refl
map_bytes s rules (i ∷ l) h = ap₂ ◌∷◌ (h i (Memᴰ.head refl)) (map_bytes s rules l (λ j m. h j (Memᴰ.tail m)))

module _ (s : List ℕ) (acc : AcceptedImage s) (order : List ℕ) (o : Numbering (rules_of s) order) where
  abbrev n : ℕ
  n = length order

  rules_are : n ≡ rules_of s
  rules_are = numbering_length (rules_of s) order o

  abbrev moved : Program
  moved = ordered (program_in s) order

  abbrev parts : List (List ℕ)
  parts = parts_by s order

  abbrev last : List ℕ
  last = pair_bytes moved.pairs

  many : length (program_in s).rules ≡ rules_of s
  many = rule_count_lem s (reads s acc)

  numbering : Numbering (length (program_in s).rules) order
  numbering = subst (λ (m : ℕ). Numbering m order) (sym many) o

  pub numbers : Numbers order
  numbers = numbering_table (rules_of s) order o

  pub parts_at : PartsAt s n
  parts_at = (accepted_ruled s acc n rules_are).parts

  rules_count : length moved.rules ≡ n
  rules_count = ordered_length (program_in s) order numbering (wellformed s acc)

  pairs_are : length moved.pairs ≡ pair_count_of s
  pairs_are = pairs_count (program_in s) order numbering (writable s acc) ∙ pair_count s (reads s acc)

  last_length : length last ≡ 2 * pair_count_of s
  last_length = pair_bytes_length moved.pairs ∙ ap (λ (k : ℕ). 2 * k) pairs_are

  parts_are : parts_of moved ≡ parts ++ (last ∷ [])
  unfolding ordered
  parts_are =
      ap (λ (l : List (List ℕ)). l ++ (last ∷ []))
      (map_bytes s (program_in s).rules order (λ i m. rule_of s acc i (o.below i m)))

  together_is : together (parts_of moved) ≡ together parts ++ last
  together_is =
      ap together parts_are ∙ together_append parts (last ∷ []) ∙ ap (λ (l : List ℕ). together parts ++ l) (append-nil last)

  pub total : 12 + 4 * n + (length (together parts) + 2 * pair_count_of s) ≡ length s
  total =
      omega (arith, rules_count, last_length, ap (λ (l : List ℕ). length l) together_is, length-append (together parts) last, image_length moved, ordered_image_length (program_in s) order numbering (writable s acc), image_as_long s (reads s acc))

  pub short : length s ≤ 1836
  short = omega (arith, image_short (program_in s) (writable s acc), image_as_long s (reads s acc))

  module _ (bytes : Bytes s) where
    same_atoms : moved.atoms ≡ atoms_of s
    unfolding ordered program_in
    same_atoms = refl

    header : header_bytes moved.atoms (length moved.rules) (length moved.pairs) ≡ take 8 s
    header =
        ap (λ (a : ℕ). header_bytes a (length moved.rules) (length moved.pairs)) same_atoms
        ∙ ap₂ (header_bytes (atoms_of s)) (rules_count ∙ rules_are) pairs_are
        ∙ sym (ap (take 8) (header_written s (reads s acc) bytes) ∙ take_at (header_bytes (atoms_of s) (rules_of s) (pair_count_of s)) (drop 8 s) 8 refl)

    entries : directory (12 + 4 * n) (parts_of moved) ≡ directory (12 + 4 * n) parts ++ entry_bytes (12 + 4 * n + length (together parts)) (2 * pair_count_of s)
    entries =
        ap (directory (12 + 4 * n)) parts_are
        ∙ directory_append (12 + 4 * n) parts (last ∷ [])
        ∙ ap (λ (k : ℕ). directory (12 + 4 * n) parts ++ entry_bytes (12 + 4 * n + length (together parts)) k) last_length

    pieces : image_of moved
        ≡ take 8 s ++ (directory (12 + 4 * n) parts ++ (entry_bytes (12 + 4 * n + length (together parts)) (2 * pair_count_of s) ++ (together parts ++ last)))
    unfolding image_of
    pieces =
        ap₂ (λ (h : List ℕ) (k : ℕ). h ++ (directory (12 + 4 * k) (parts_of moved) ++ together (parts_of moved))) header rules_count
        ∙ ap₂ (λ (d t : List ℕ). take 8 s ++ (d ++ t)) entries together_is
        ∙ ap (λ (l : List ℕ). take 8 s ++ l)
        (append_assoc (directory (12 + 4 * n) parts) (entry_bytes (12 + 4 * n + length (together parts)) (2 * pair_count_of s)) (together parts ++ last))

    -- each piece written after the one before
    pub pieces_written : (count : ℕ) → count ≡ pair_count_of s → (a b c d e after : List ℕ) (h at from next end : ℕ)
        → Written a b 0 h (take 8 s) → Written b c h at (directory (12 + 4 * n) parts) → from ≡ 12 + 4 * n + length (together parts)
        → Written c d at next (entry_bytes from (2 * count)) → Written d e next end (together parts) → after ≡ sets e end last
        → after ≡ sets a 0 (image_of moved)
    pieces_written count count_is a b c d e after h at from next end first second from_is third fourth fifth =
        (written_append a b after 0 h (end + length last) (take 8 s) rest₁ (image_of moved) pieces first
        (written_append b c after h at (end + length last) (directory (12 + 4 * n) parts) rest₂ rest₁ refl second
        (written_append c d after at next (end + length last) entry rest₃ rest₂ refl (subst (Written c d at next) entry_is third)
        (written_append d e after next end (end + length last) (together parts) last rest₃ refl fourth
        (record { stored = fifth; next_is = refl }))))).stored
      where
        entry : List ℕ
        entry = entry_bytes (12 + 4 * n + length (together parts)) (2 * pair_count_of s)

        entry_is : entry_bytes from (2 * count) ≡ entry_bytes (12 + 4 * n + length (together parts)) (2 * pair_count_of s)
        entry_is = ap₂ entry_bytes from_is (ap (λ (k : ℕ). 2 * k) count_is)

        rest₃ : List ℕ
        rest₃ = together parts ++ last

        rest₂ : List ℕ
        rest₂ = entry ++ rest₃

        rest₁ : List ℕ
        rest₁ = directory (12 + 4 * n) parts ++ rest₂
