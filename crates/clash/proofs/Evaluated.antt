-- Small clashes evaluated from bytes to bytes, and what the call leaves.
use mathlib.Core.Path.{◌≡◌, refl}
use mathlib.Core.List.{List, [], ◌∷◌}
use Prim.Native.Nat.{ℕ, ◌*◌}
use lib.ListN.{replicate}
use Rattle.literals.specs.Sets.{has, insert, clash_below}
use Rattle.program.specs.Program.{defeasibles_from, chosen_from}
use Rattle.layout.specs.Layout.{number_at}
use Rattle.layout.specs.Causes.{verdict}
use Rattle.layout.specs.Reading.{program_in}
use Rattle.derivation.specs.Closure.{closure}
use Rattle.clash.specs.Clash.{among_from, clash_of}
use Rattle.clash.specs.Calls.{clash_verdict, marks_of, clashed_by, clash_table, clash_call}

-- a; b <- a; ~b <- a; ~a <- b; c: two clashes share rules, and c is in none
abbrev chained : List ℕ
chained =
    3 ∷ 0 ∷ 5 ∷ 0 ∷ 0 ∷ 0 ∷ 0 ∷ 0
    ∷ 32 ∷ 0 ∷ 2 ∷ 0 ∷ 34 ∷ 0 ∷ 3 ∷ 0 ∷ 37 ∷ 0 ∷ 3 ∷ 0 ∷ 40 ∷ 0 ∷ 3 ∷ 0 ∷ 43 ∷ 0 ∷ 2 ∷ 0 ∷ 45 ∷ 0 ∷ 0 ∷ 0
    ∷ 0 ∷ 0 ∷ 0 ∷ 2 ∷ 0 ∷ 0 ∷ 3 ∷ 0 ∷ 0 ∷ 1 ∷ 2 ∷ 0 ∷ 4 ∷ []

-- ~a; b -< ~a; a; b; ~b: two clashes apart, and a defeasible rule, without which there would be a third
abbrev apart : List ℕ
apart =
    2 ∷ 0 ∷ 5 ∷ 0 ∷ 0 ∷ 0 ∷ 0 ∷ 0
    ∷ 32 ∷ 0 ∷ 2 ∷ 0 ∷ 34 ∷ 0 ∷ 3 ∷ 0 ∷ 37 ∷ 0 ∷ 2 ∷ 0 ∷ 39 ∷ 0 ∷ 2 ∷ 0 ∷ 41 ∷ 0 ∷ 2 ∷ 0 ∷ 43 ∷ 0 ∷ 0 ∷ 0
    ∷ 0 ∷ 1 ∷ 1 ∷ 2 ∷ 1 ∷ 0 ∷ 0 ∷ 0 ∷ 2 ∷ 0 ∷ 3 ∷ []

-- a; ~a -< a: accepted
abbrev sound : List ℕ
sound = 1 ∷ 0 ∷ 2 ∷ 0 ∷ 0 ∷ 0 ∷ 0 ∷ 0 ∷ 20 ∷ 0 ∷ 2 ∷ 0 ∷ 22 ∷ 0 ∷ 3 ∷ 0 ∷ 25 ∷ 0 ∷ 0 ∷ 0 ∷ 0 ∷ 0 ∷ 1 ∷ 1 ∷ 0 ∷ []

abbrev told : List ℕ → ℕ → ℕ × List ℕ
told s room = (clash_call s room, clash_table s (replicate room 9))

-- with a byte for each rule, with more, and with one too few; of an accepted image with and without room; of eleven bytes
pub clashes_called : told chained 5
    ∷ told chained 7
    ∷ told chained 4
    ∷ told apart 6
    ∷ told sound 2
    ∷ told sound 1
    ∷ told (replicate 11 0) 3
    ∷ []
    ≡ (5, 1 ∷ 1 ∷ 1 ∷ 0 ∷ 0 ∷ [])
    ∷ (5, 1 ∷ 1 ∷ 1 ∷ 0 ∷ 0 ∷ 9 ∷ 9 ∷ [])
    ∷ (29 * 0x1_0000_0000, replicate 4 9)
    ∷ (5, 1 ∷ 0 ∷ 1 ∷ 0 ∷ 0 ∷ 9 ∷ [])
    ∷ (28 * 0x1_0000_0000, replicate 2 9)
    ∷ (28 * 0x1_0000_0000, replicate 1 9)
    ∷ (1 * 0x1_0000_0000, replicate 3 9)
    ∷ []
unfolding clash_verdict marks_of clashed_by clash_table clash_of program_in number_at verdict has insert clash_below defeasibles_from chosen_from
    closure among_from
clashes_called = refl
