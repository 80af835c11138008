-- The twelve fittings of document 01, evaluated on the definitions: "These twelve form a small table, proved as a whole
-- about the definitions".
use mathlib.Core.Path.{◌≡◌, refl}
use mathlib.Core.List.{List, [], ◌∷◌, map}
use Prim.Native.Nat.{ℕ}
use Rattle.literals.specs.Sets.{has, insert, clash_below}
use Rattle.program.specs.Program.{Rule, Program, strict, defeasible, defeasibles_from, chosen_from}
use Rattle.derivation.specs.Closure.{closure}
use Rattle.argument.specs.List.{argument_list}
use Rattle.defeat.specs.Tests.{attacked, proper, neither, blocking, kind}
use Rattle.preference.specs.Reached.{spread, rounds}
use Rattle.preference.specs.Preference.{beats_some}
use Rattle.defeat.specs.OfProgram.{tests_of}
use Rattle.tree.specs.Reply.{unused, joins, reply_kind}
use Rattle.tree.specs.Forest.{replies_to, remaining, replies, forest_of, undefeated_root}
use Rattle.answer.specs.Answer.{occurs, arguments_for, forest, warranted, answer_by, answer, code_of, nodes_of}

-- "Rules are written head<body, d for defeasible, rule numbers from 0"
abbrev s : ℕ → List ℕ → Rule
s head body = record { kind = strict; head = head; body = body }

abbrev d : ℕ → List ℕ → Rule
d head body = record { kind = defeasible; head = head; body = body }

-- F and G, each with its pairs
abbrev pub F : List (ℕ × ℕ) → Program
F pairs = record { atoms = 2; rules = s 0 [] ∷ d 2 (0 ∷ []) ∷ d 3 (0 ∷ []) ∷ []; pairs = pairs }

abbrev G : List (ℕ × ℕ) → Program
G pairs = record {
  atoms = 3;
  rules = s 0 [] ∷ d 2 (0 ∷ []) ∷ d 4 (0 ∷ []) ∷ d 3 (4 ∷ []) ∷ d 5 (0 ∷ []) ∷ [];
  pairs = pairs;
}

abbrev H : Program
H = record { atoms = 3; rules = s 0 [] ∷ d 2 (0 ∷ []) ∷ d 4 (0 ∷ []) ∷ s 5 (2 ∷ []) ∷ []; pairs = [] }

abbrev K : Program
K = record { atoms = 2; rules = s 0 [] ∷ s 3 [] ∷ d 2 (0 ∷ []) ∷ []; pairs = [] }

abbrev L : Program
L = record { atoms = 3; rules = s 0 [] ∷ d 2 (0 ∷ []) ∷ d 4 (0 ∷ []) ∷ d 4 (2 ∷ []) ∷ []; pairs = [] }

abbrev T : Program
T = record {
  atoms = 4;
  rules = s 0 [] ∷ d 2 (0 ∷ []) ∷ d 4 (0 ∷ []) ∷ d 6 (0 ∷ []) ∷ s 5 (2 ∷ []) ∷ s 7 (2 ∷ [])
      ∷ s 3 (4 ∷ []) ∷ s 7 (4 ∷ []) ∷ s 3 (6 ∷ []) ∷ s 5 (6 ∷ []) ∷ [];
  pairs = [];
}

abbrev empty : Program
empty = record { atoms = 0; rules = []; pairs = [] }

-- a program, a literal, a budget, and the answer: its code and its nodes
record Fitting : Type 0 where
  program : Program
  literal : ℕ
  budget : ℕ
  expected : ℕ × ℕ

abbrev fit : Program → ℕ → ℕ → ℕ → ℕ → Fitting
fit p h b code nodes = record { program = p; literal = h; budget = b; expected = (code, nodes) }

-- P1 to P12
abbrev fittings : List Fitting
fittings =
    fit (F ((1, 2) ∷ [])) 2 4096 1 3
    ∷ fit (F ((1, 2) ∷ [])) 2 2 5 2
    ∷ fit (F []) 2 4096 3 4
    ∷ fit (G []) 2 4096 3 5
    ∷ fit (G ((4, 2) ∷ [])) 2 4096 1 6
    ∷ fit H 2 4096 3 2
    ∷ fit H 4 4096 3 5
    ∷ fit K 2 4096 2 1
    ∷ fit L 4 4096 1 2
    ∷ fit T 2 4096 3 15
    ∷ fit empty 100 4096 4 0
    ∷ fit (F ((1, 2) ∷ [])) 3 4096 2 3
    ∷ []

abbrev answered : Fitting → ℕ × ℕ
answered f = let a = answer f.program f.literal f.budget in (code_of a, nodes_of a)

pub fittings_hold : map answered fittings ≡ map (λ f. f.expected) fittings
unfolding has insert clash_below defeasibles_from chosen_from closure argument_list
    attacked proper neither blocking kind spread rounds beats_some tests_of unused joins reply_kind replies_to remaining replies
    forest_of undefeated_root occurs arguments_for forest warranted answer_by
fittings_hold = refl

-- ---- chains of pairs (document 02, C-11)

-- rule 3 beats rule 0 through rule 1, where these two pairs are listed
abbrev chained : List (ℕ × ℕ) → Program
chained pairs = record { atoms = 5; rules = d 4 (0 ∷ []) ∷ d 6 (0 ∷ []) ∷ s 0 [] ∷ d 5 (0 ∷ []) ∷ []; pairs = pairs }

-- rule 3 is in no argument, and still a link
abbrev linked : Program
linked = record {
  atoms = 4;
  rules = s 0 [] ∷ d 2 (0 ∷ []) ∷ d 3 (0 ∷ []) ∷ d 4 (6 ∷ []) ∷ [];
  pairs = (1, 3) ∷ (3, 2) ∷ [];
}

-- the arguments for 4 and for 5 share rule 1
abbrev shared : List (ℕ × ℕ) → Program
shared pairs = record {
  atoms = 5;
  rules = s 0 [] ∷ d 2 (0 ∷ []) ∷ d 4 (2 ∷ []) ∷ d 5 (2 ∷ []) ∷ d 6 (8 ∷ []) ∷ [];
  pairs = pairs;
}

-- a chain decides; a closed one does not, and where it makes rule 1 beat itself it takes away what pair (3, 2) decided
abbrev chains : List Fitting
chains =
    fit (chained ((1, 0) ∷ (3, 1) ∷ [])) 4 4096 2 3
    ∷ fit (chained ((1, 0) ∷ (3, 1) ∷ [])) 5 4096 1 3
    ∷ fit (chained ((0, 3) ∷ (1, 0) ∷ (3, 1) ∷ [])) 4 4096 3 4
    ∷ fit linked 2 4096 1 3
    ∷ fit (shared ((3, 2) ∷ [])) 4 4096 2 3
    ∷ fit (shared ((1, 4) ∷ (3, 2) ∷ (4, 1) ∷ [])) 4 4096 3 4
    ∷ []

pub chains_hold : map answered chains ≡ map (λ f. f.expected) chains
unfolding has insert clash_below defeasibles_from chosen_from closure argument_list
    attacked proper neither blocking kind spread rounds beats_some tests_of unused joins reply_kind replies_to remaining replies
    forest_of undefeated_root occurs arguments_for forest warranted answer_by
chains_hold = refl
