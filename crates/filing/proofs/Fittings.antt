-- The filed form and the way back evaluated from bytes to bytes, and what the calls leave.
use mathlib.Core.Path.{◌≡◌, refl}
use mathlib.Core.List.{List, [], ◌∷◌, ◌++◌, map}
use Prim.Native.Nat.{ℕ, ◌*◌}
use lib.ListN.{replicate}
use Rattle.lists.specs.Lists.{inverse}
use Rattle.literals.specs.Sets.{has, insert, clash_below}
use Rattle.program.specs.Program.{strict, defeasible, Rule, Program, defeasibles_from, chosen_from}
use Rattle.layout.specs.Layout.{number_at}
use Rattle.layout.specs.Causes.{verdict}
use Rattle.layout.specs.Reading.{program_in}
use Rattle.derivation.specs.Closure.{closure}
use Rattle.calls.specs.Calls.{check_image}
use Rattle.writing.specs.Image.{image_of}
use Rattle.filing.specs.Filed.{filed_order, ordered, filed, typed}
use Rattle.filing.specs.Calls.{filed_image, old_numbers, file_verdict, filed_by, file_table, file_numbers, file_call}
use Rattle.filing.specs.Calls.{typed_image, unfile_verdict, unfiled_by, unfile_table, unfile_call}

abbrev rule : ℕ → List ℕ → Rule
rule head body = record { kind = defeasible; head = head; body = body }

-- a fact, a strict rule, and defeasible rules that each key tells apart: by head, by number of body literals, by body
abbrev one : Program
one = record {
  atoms = 6;
  rules = rule 8 (0 ∷ []) ∷ rule 4 (2 ∷ 6 ∷ []) ∷ record { kind = strict; head = 10; body = 0 ∷ [] } ∷ rule 4 (2 ∷ 5 ∷ []) ∷ rule 4 (7 ∷ []) ∷ record { kind = strict; head = 0; body = [] } ∷ [];
  pairs = (0, 1) ∷ (0, 4) ∷ (4, 3) ∷ [];
}

-- the same in another order
abbrev other : Program
other = record {
  atoms = 6;
  rules = record { kind = strict; head = 0; body = [] } ∷ rule 4 (2 ∷ 5 ∷ []) ∷ rule 4 (7 ∷ []) ∷ rule 8 (0 ∷ []) ∷ rule 4 (2 ∷ 6 ∷ []) ∷ record { kind = strict; head = 10; body = 0 ∷ [] } ∷ [];
  pairs = (2, 1) ∷ (3, 2) ∷ (3, 4) ∷ [];
}

abbrev both : List Program
both = one ∷ other ∷ []

-- "Rules ascend by kind byte, then head, then number of body literals, then body bytes; pairs are renumbered and sorted."
abbrev expected : List ℕ
expected =
    6 ∷ 0 ∷ 6 ∷ 0 ∷ 3 ∷ 0 ∷ 0 ∷ 0
    ∷ 36 ∷ 0 ∷ 2 ∷ 0 ∷ 38 ∷ 0 ∷ 3 ∷ 0 ∷ 41 ∷ 0 ∷ 3 ∷ 0 ∷ 44 ∷ 0 ∷ 4 ∷ 0 ∷ 48 ∷ 0 ∷ 4 ∷ 0 ∷ 52 ∷ 0 ∷ 3 ∷ 0 ∷ 55 ∷ 0 ∷ 6 ∷ 0
    ∷ 0 ∷ 0 ∷ 0 ∷ 10 ∷ 0 ∷ 1 ∷ 4 ∷ 7 ∷ 1 ∷ 4 ∷ 2 ∷ 5 ∷ 1 ∷ 4 ∷ 2 ∷ 6 ∷ 1 ∷ 8 ∷ 0
    ∷ 2 ∷ 3 ∷ 5 ∷ 2 ∷ 5 ∷ 4 ∷ []

pub filed_alike : map (λ p. filed_image (image_of p)) both ≡ expected ∷ expected ∷ []
unfolding filed_image filed filed_order ordered image_of program_in number_at
filed_alike = refl

-- what the writer returns and leaves: with two bytes and an entry more than it needs, with a byte too few, with an entry too few,
-- with both
abbrev told : ℕ → ℕ → Program → ℕ × List ℕ × List ℕ
told room entries p = (file_call (image_of p) room entries, file_table (image_of p) (replicate room 9) entries, file_numbers (image_of p) room (replicate entries 9))

pub filed_called : map (told 63 7) both ++ (map (told 60 6) both ++ (map (told 61 5) both ++ map (told 60 5) both))
    ≡ (61, expected ++ (9 ∷ 9 ∷ []), 5 ∷ 2 ∷ 4 ∷ 3 ∷ 1 ∷ 0 ∷ 9 ∷ [])
    ∷ (61, expected ++ (9 ∷ 9 ∷ []), 0 ∷ 5 ∷ 2 ∷ 1 ∷ 4 ∷ 3 ∷ 9 ∷ [])
    ∷ (24 * 0x1_0000_0000, replicate 60 9, replicate 6 9)
    ∷ (24 * 0x1_0000_0000, replicate 60 9, replicate 6 9)
    ∷ (25 * 0x1_0000_0000, replicate 61 9, replicate 5 9)
    ∷ (25 * 0x1_0000_0000, replicate 61 9, replicate 5 9)
    ∷ (24 * 0x1_0000_0000, replicate 60 9, replicate 5 9)
    ∷ (24 * 0x1_0000_0000, replicate 60 9, replicate 5 9)
    ∷ []
unfolding filed_image old_numbers filed filed_order ordered image_of file_verdict filed_by file_table file_numbers check_image program_in number_at verdict has
    insert clash_below defeasibles_from chosen_from closure
filed_called = refl

-- the way back with the numbers of the one program, of the other, and with some more; with a number out of range, with one
-- that stands twice, with too few numbers, with a byte too few, and of an image that is not in filed form
abbrev back : ℕ → List ℕ → List ℕ → ℕ × List ℕ
back room s numbers = (unfile_call s numbers room, unfile_table s numbers (replicate room 9))

pub typed_called : back 62 expected (5 ∷ 2 ∷ 4 ∷ 3 ∷ 1 ∷ 0 ∷ [])
    ∷ back 61 expected (0 ∷ 5 ∷ 2 ∷ 1 ∷ 4 ∷ 3 ∷ [])
    ∷ back 61 expected (0 ∷ 5 ∷ 2 ∷ 1 ∷ 4 ∷ 3 ∷ 3 ∷ 77 ∷ [])
    ∷ back 61 expected (0 ∷ 6 ∷ 2 ∷ 1 ∷ 4 ∷ 3 ∷ [])
    ∷ back 61 expected (0 ∷ 5 ∷ 2 ∷ 1 ∷ 0 ∷ 3 ∷ [])
    ∷ back 61 expected (0 ∷ 5 ∷ 2 ∷ 1 ∷ 0 ∷ [])
    ∷ back 60 expected (0 ∷ 5 ∷ 2 ∷ 1 ∷ 0 ∷ [])
    ∷ back 61 (image_of other) (0 ∷ 5 ∷ 2 ∷ 1 ∷ 4 ∷ 3 ∷ [])
    ∷ []
    ≡ (61, image_of one ++ (9 ∷ []))
    ∷ (61, (image_of other))
    ∷ (61, (image_of other))
    ∷ (26 * 0x1_0000_0000, replicate 61 9)
    ∷ (26 * 0x1_0000_0000, replicate 61 9)
    ∷ (25 * 0x1_0000_0000, replicate 61 9)
    ∷ (24 * 0x1_0000_0000, replicate 60 9)
    ∷ (26 * 0x1_0000_0000, replicate 61 9)
    ∷ []
unfolding typed_image typed inverse filed_order ordered image_of file_verdict unfile_verdict unfiled_by unfile_table check_image program_in number_at verdict
    has insert clash_below defeasibles_from chosen_from closure
typed_called = refl
