-- Parts in the order of some numbers, and their directory entries: what is left to be written of them.
use mathlib.Core.Path.{◌≡◌, refl, sym, ap, ◌∙◌}
use mathlib.Core.List.{List, [], ◌∷◌, ◌++◌, map, append_assoc}
use Prim.Native.Nat.{ℕ, ◌+◌, ◌-◌, ◌*◌, ◌<◌, ◌≤◌}
use native.Mathlib.Numerals.{add-one}
use native.Mathlib.Omega.{arith}
use lib.ListN.{length, get_or, take, drop, set, length-append, length-map, drop_of_length-le}
use Rattle.lists.specs.Inside.Stores.{Written}
use Rattle.lists.proofs.Stores.{Writing, writing_all, writing_room, writing_part, writing_none, written_length}
use Rattle.layout.specs.Layout.{part_of}
use Rattle.layout.specs.Inside.Steps.{Located}
use Rattle.layout.proofs.Parts.{part_length, located_part}
use Rattle.part.proofs.Bytes.{drop_at}
use Rattle.writing.specs.Image.{directory, together}
use Rattle.writing.specs.Inside.Steps.{PartsAt, Numbers, parts_by, entry_bytes}
use Rattle.writing.proofs.Reading.{directory_length}

-- ---- two bytes, one after the other

pub written_two : (t : List ℕ) (at a b : ℕ) → Written t (set (set t at a) (at + 1) b) at (at + 2) (a ∷ b ∷ [])
written_two t at a b = record { stored = ap (λ (k : ℕ). set (set t at a) k b) (add-one at); next_is = refl }

-- ---- some parts, and others after them

pub together_append : (l m : List (List ℕ)) → together (l ++ m) ≡ together l ++ together m
together_append [] m = refl
together_append (part ∷ l) m = ap (λ (x : List ℕ). part ++ x) (together_append l m) ∙ sym (append_assoc part (together l) (together m))

pub directory_append : (at : ℕ) (l m : List (List ℕ))
    → directory at (l ++ m) ≡ directory at l ++ directory (at + length (together l)) m
directory_append at [] m = let e : at ≡ at + 0 = omega arith in ap (λ (k : ℕ). directory k m) e
directory_append at (part ∷ l) m =
    let e : at + length part + length (together l) ≡ at + length (part ++ together l) = omega (arith, length-append part (together l)) in
    ap (λ (x : List ℕ). entry_bytes at (length part) ++ x)
    (directory_append (at + length part) l m ∙ ap (λ (k : ℕ). directory (at + length part) l ++ directory k m) e)

-- ---- the parts that are left

module _ (s order : List ℕ) where
  -- from the k-th number on
  abbrev pub parts_from : ℕ → List (List ℕ)
  parts_from k = map (part_of s) (drop k order)

  pub entries_length : (start : ℕ) → length (directory start (parts_by s order)) ≡ 4 * length order
  entries_length start = directory_length start (parts_by s order) ∙ ap (λ (m : ℕ). 4 * m) (length-map order (part_of s))

  pub parts_none : (k : ℕ) → length order ≤ k → parts_from k ≡ []
  parts_none k h = ap (map (part_of s)) (drop_of_length-le order {i = k} h)

  module _ (k : ℕ) (h : k < length order) (i : ℕ) (e : i ≡ get_or order k 0) where
    pub parts_next : parts_from k ≡ part_of s i ∷ parts_from (k + 1)
    parts_next = ap (map (part_of s)) (drop_at order k h) ∙ ap (λ (j : ℕ). part_of s j ∷ parts_from (k + 1)) (sym e)

    -- one part more
    module _ (from to : ℕ) (l : Located s i from to) (before after : List ℕ) (at next : ℕ)
        (state : Writing before after at next (together (parts_by s order)) (together (parts_from k))) where
      abbrev bytes : List ℕ
      bytes = take (to - from) (drop from s)

      part_first : together (parts_from k) ≡ bytes ++ together (parts_from (k + 1))
      part_first = ap together parts_next ∙ ap (λ (x : List ℕ). x ++ together (parts_from (k + 1))) (sym (located_part s i from to l))

      pub part_room : at + length (together (parts_by s order)) ≤ length before → next + length bytes ≤ length after
      part_room = writing_room before after at next _ _ state bytes (together (parts_from (k + 1))) part_first

      pub part_written : (more : List ℕ) (end : ℕ) → Written after more next end bytes
          → Writing before more at end (together (parts_by s order)) (together (parts_from (k + 1)))
      part_written more end w =
          writing_part before after at next _ _ state bytes (together (parts_from (k + 1))) part_first more end (written_length after more next end bytes w) w

-- ---- the entries that are left

-- those of the parts from the k-th number on, the first of which begins at `from`
pub record Entering (s order before after : List ℕ) (at next start from k : ℕ) : Type 0 where
  pub writing : Writing before after at next (directory start (parts_by s order)) (directory from (parts_from s order k))
  pub begins : from + length (together (parts_from s order k)) ≡ start + length (together (parts_by s order))

module _ (s order before : List ℕ) (at start : ℕ) where
  pub entering_all : Entering s order before before at at start start 0
  entering_all = record { writing = writing_all before at _ _ refl; begins = refl }

  module _ (after : List ℕ) (next from k : ℕ) (state : Entering s order before after at next start from k) where
    pub entering_none : length order ≤ k
        → Written before after at next (directory start (parts_by s order)) × (from ≡ start + length (together (parts_by s order)))
    entering_none h =
        let e = parts_none s order k h in (
          writing_none before after at next _ _ state.writing (ap (directory from) e),
          omega (arith, state.begins, ap (λ (l : List (List ℕ)). length (together l)) e),
        )

    -- one entry more
    module _ (h : k < length order) (i : ℕ) (e : i ≡ get_or order k 0) (first to : ℕ) (l : Located s i first to)
        (o : Numbers order) (p : PartsAt s (length order)) where
      abbrev size : ℕ
      size = to - first

      abbrev rest : List (List ℕ)
      rest = parts_from s order (k + 1)

      size_is : size ≡ length (part_of s i)
      size_is = omega (arith, l.from_is, l.to_is, part_length s i (p i (omega (arith, o.below k h))))

      entry_first : directory from (parts_from s order k) ≡ entry_bytes from size ++ directory (from + size) rest
      entry_first =
          ap (directory from) (parts_next s order k h i e)
          ∙ ap (λ (m : ℕ). entry_bytes from m ++ directory (from + m) rest) (sym size_is)

      begins_next : from + size + length (together rest) ≡ start + length (together (parts_by s order))
      begins_next =
          let left = ap (λ (x : List (List ℕ)). length (together x)) (parts_next s order k h i e) in
          omega (arith, state.begins, size_is, left, length-append (part_of s i) (together rest))

      pub entry_fits : at + 4 * length order ≤ length before → start + length (together (parts_by s order)) < 65536
          → (next + 4 ≤ length after) × (from + size < 65536)
      entry_fits room small = (
        writing_room before after at next _ _ state.writing (entry_bytes from size) (directory (from + size) rest) entry_first
            (omega (arith, entries_length s order start)),
        omega (arith, begins_next),
      )

      pub entry_written : (more : List ℕ) (end : ℕ) → Written after more next end (entry_bytes from size)
          → Entering s order before more at end start (from + size) (k + 1)
      entry_written more end w =
          record {
            writing = writing_part before after at next _ _ state.writing (entry_bytes from size) (directory (from + size) rest) entry_first
                more end (written_length after more next end (entry_bytes from size) w) w;
            begins = begins_next;
          }
