-- The calls on the image that document 01 prints for F, evaluated from its bytes to result and tables; and what refuses it
-- where one byte is another, or where the question does not fit.
use mathlib.Core.Path.{◌≡◌, refl}
use mathlib.Core.List.{List, [], ◌∷◌, ◌++◌, map}
use Prim.Native.Nat.{ℕ, zero, suc, ◌+◌, ◌*◌, ◌/◌, ◌%◌}
use lib.ListN.{take, drop, replicate}
use Rattle.lists.specs.Lists.{upto}
use Rattle.literals.specs.Sets.{has, insert, clash_below}
use Rattle.program.specs.Program.{defeasibles_from, chosen_from}
use Rattle.calls.specs.Verdicts.{Verdict}
use Rattle.calls.specs.Verdicts as verdicts
use Rattle.layout.specs.Layout.{number_at}
use Rattle.layout.specs.Causes.{verdict}
use Rattle.layout.specs.Reading.{program_in}
use Rattle.derivation.specs.Closure.{closure}
use Rattle.argument.specs.List.{argument_list}
use Rattle.preference.specs.Reached.{spread, rounds}
use Rattle.preference.specs.Preference.{beats_some}
use Rattle.defeat.specs.Tests.{attacked, proper, neither, blocking, kind}
use Rattle.defeat.specs.OfProgram.{tests_of}
use Rattle.tree.specs.Reply.{unused, joins, reply_kind}
use Rattle.tree.specs.Forest.{replies_to, remaining, replies, forest_of, undefeated_root}
use Rattle.answer.specs.declared.Answer.{Answer}
use Rattle.answer.specs.declared.Answer.TheVariants.{Yes, No, Unknown, Unfinished}
use Rattle.answer.specs.Answer.{occurs, arguments_for, forest, warranted, answer_by}
use Rattle.answer.proofs.Fittings.{F}
use Rattle.nodes.specs.declared.Node.{Node}
use Rattle.calls.specs.Outcomes.{Outcome, Given, Refused}
use Rattle.calls.specs.Outcomes as outcomes
use Rattle.calls.specs.Calls.{check_image, list_verdict, listed, list_table, query_verdict, queried, query_arguments}
use Rattle.calls.specs.Calls.{query_column, query_nodes, check_call, list_call, trees_call, host_call}

-- "F as an image"
abbrev F_image : List ℕ
F_image =
    0x02 ∷ 0x00 ∷ 0x03 ∷ 0x00 ∷ 0x01 ∷ 0x00 ∷ 0x00 ∷ 0x00 ∷ 0x18 ∷ 0x00 ∷ 0x02 ∷ 0x00 ∷ 0x1A ∷ 0x00 ∷ 0x03 ∷ 0x00 ∷ 0x1D
    ∷ 0x00 ∷ 0x03 ∷ 0x00 ∷ 0x20 ∷ 0x00 ∷ 0x02 ∷ 0x00 ∷ 0x00 ∷ 0x00 ∷ 0x01 ∷ 0x02 ∷ 0x00 ∷ 0x01 ∷ 0x03 ∷ 0x00 ∷ 0x01 ∷ 0x02
    ∷ []

-- F with another byte at one place
abbrev at : ℕ → ℕ → List ℕ → List ℕ
at i byte image = take i image ++ (byte ∷ drop (suc i) image)

-- a directory of n parts of one size from an offset on, and of an empty part after them
abbrev directory : (offset size n : ℕ) → List ℕ
directory offset size zero = offset % 256 ∷ offset / 256 ∷ 0 ∷ 0 ∷ []
directory offset size (suc n) = offset % 256 ∷ offset / 256 ∷ size ∷ 0 ∷ directory (offset + size) size n

-- n defeasible rules for the literals from h on, each with so many body literals
abbrev rules_from : (h body n : ℕ) → List ℕ
rules_from h body zero = []
rules_from h body (suc n) = 1 ∷ h ∷ upto 100 body ++ rules_from (suc h) body n

-- n such rules, and no pair
abbrev many : (n body : ℕ) → List ℕ
many n body =
    (64 ∷ 0 ∷ n ∷ 0 ∷ 0 ∷ 0 ∷ 0 ∷ 0 ∷ []) ++ directory (12 + 4 * n) (2 + body) n ++ rules_from 0 body n

-- an image, and document 01's word on it: 0 and 0 where it is accepted, else number and place
abbrev spoilt : List (List ℕ × (ℕ × ℕ))
spoilt =
    (F_image, (0, 0))
    -- the least image and one byte less, the longest and one byte more
    ∷ (take 12 F_image, (3, 0))
    ∷ (take 11 F_image, (1, 0))
    ∷ (F_image ++ replicate 1802 0, (3, 0))
    ∷ (F_image ++ replicate 1803 0, (1, 0))
    -- bytes 6-7 not zero; 64 atoms, 96 rules, 240 pairs and one more of each
    ∷ (at 6 1 F_image, (2, 0))
    ∷ (at 7 1 F_image, (2, 0))
    ∷ (at 0 64 F_image, (0, 0))
    ∷ (at 0 65 F_image, (2, 0))
    ∷ (at 2 96 F_image, (3, 0))
    ∷ (at 2 97 F_image, (2, 0))
    ∷ (at 4 240 F_image, (11, 0))
    ∷ (at 4 241 F_image, (2, 0))
    -- the first offset; a later one; the last part ends before the image does
    ∷ (at 8 0x19 F_image, (3, 0))
    ∷ (at 12 0x1B F_image, (3, 0))
    ∷ (F_image ++ (0 ∷ []), (3, 0))
    -- rule 0 has one byte; 16 defeasible rules with 8 body literals, and with 9
    ∷ (at 10 1 (at 12 0x19 (at 14 4 F_image)), (4, 0))
    ∷ (many 16 8, (0, 0))
    ∷ (many 16 9, (4, 0))
    -- a body literal that is not below 2 × A; one of 17 rules strict; strict, with the head and body of rule 1
    ∷ (at 28 4 F_image, (6, 1))
    ∷ (at 80 0 (many 17 8), (0, 0))
    ∷ (at 29 0 (at 30 2 F_image), (12, 0))
    -- rule 1: a body of 1 and 1; rule 0 defeasible; a 17th defeasible rule
    ∷ (at 14 4 (at 16 0x1E (at 18 2 (at 28 1 F_image))), (7, 1))
    ∷ (at 24 1 F_image, (8, 0))
    ∷ (many 17 8, (9, 16))
    -- rule 2: kind 2; head 4; both; as rule 1
    ∷ (at 29 2 F_image, (5, 2))
    ∷ (at 30 4 F_image, (6, 2))
    ∷ (at 30 4 (at 29 2 F_image), (5, 2))
    ∷ (at 30 2 F_image, (10, 2))
    -- in one rule: 4 before 5, 6 before 7, 8 before 9, 9 before 10
    ∷ (at 76 2 (many 16 9), (4, 0))
    ∷ (at 14 4 (at 16 0x1E (at 18 2 (at 28 5 F_image))), (6, 1))
    ∷ (take 242 (at 74 2 (at 76 242 (many 17 8))), (8, 16))
    ∷ (at 241 0 (many 17 8), (9, 16))
    -- rule 2 is rejected before the last part, the last part before the pair, the pair's names before Π
    ∷ (at 4 2 (at 29 2 F_image), (5, 2))
    ∷ (at 4 2 (at 32 0 F_image), (11, 0))
    ∷ (at 32 0 F_image, (12, 0))
    ∷ (at 33 1 F_image, (12, 0))
    ∷ (at 33 3 F_image, (12, 0))
    -- (1, 2) then (2, 1), then the other way; (1, 1) after (1, 2); 13 at pair 1 before 12 at pair 2
    ∷ (at 4 2 (at 22 4 F_image) ++ (2 ∷ 1 ∷ []), (0, 0))
    ∷ (at 4 2 (at 22 4 (at 32 2 (at 33 1 F_image))) ++ (1 ∷ 2 ∷ []), (13, 1))
    ∷ (at 4 2 (at 22 4 F_image) ++ (1 ∷ 1 ∷ []), (12, 1))
    ∷ (at 4 3 (at 22 6 F_image) ++ (1 ∷ 2 ∷ 0 ∷ 0 ∷ []), (13, 1))
    -- the pair twice; no pair, and two strict rules for a literal and its complement
    ∷ (at 4 2 (at 22 4 F_image) ++ (1 ∷ 2 ∷ []), (13, 1))
    ∷ (take 32 (at 4 0 (at 22 0 (at 26 0 (at 29 0 F_image)))), (14, 0))
    ∷ []

abbrev word_on : Verdict → ℕ × ℕ
word_on verdicts.Accepted = (0, 0)
word_on (verdicts.Refused number place) = (number, place)

-- a literal, a budget and the lengths of the two tables, and the answer
record Question : Type 0 where
  literal : ℕ
  budget : ℕ
  argument_room : ℕ
  node_room : ℕ
  expected : Outcome Answer

abbrev ask : ℕ → ℕ → ℕ → ℕ → Outcome Answer → Question
ask h budget argument_room node_room a =
    record { literal = h; budget = budget; argument_room = argument_room; node_room = node_room; expected = a }

abbrev questions : List Question
questions =
    -- what `advise` prints
    ask 0 4096 4096 4096 (Given (Yes 1))
    ∷ ask 1 4096 4096 4096 (Given (No 1))
    ∷ ask 2 4096 4096 4096 (Given (Yes 3))
    ∷ ask 3 4096 4096 4096 (Given (No 3))
    -- budgets of N and one less; tables as short as they may be; an atom that stands in no rule
    ∷ ask 2 3 3 3 (Given (Yes 3))
    ∷ ask 2 2 3 2 (Given (Unfinished 2))
    ∷ ask 2 0 3 0 (Given (Unfinished 0))
    ∷ ask 127 0 3 0 (Given Unknown)
    -- 20 to 23, each before those after it
    ∷ ask 128 4096 4096 4096 (Refused 20 0)
    ∷ ask 2 4097 4097 4097 (Refused 21 0)
    ∷ ask 2 3 3 2 (Refused 22 0)
    ∷ ask 2 3 2 3 (Refused 23 0)
    ∷ ask 128 4097 2 2 (Refused 20 0)
    ∷ ask 2 4097 2 2 (Refused 21 0)
    ∷ ask 2 3 2 2 (Refused 22 0)
    ∷ ask 127 0 2 0 (Refused 23 0)
    ∷ []

-- an entry of the node table, and one that was there before
abbrev node : ℕ → ℕ → ℕ → ℕ → Node
node argument parent kind mark = record { argument = argument; parent = parent; kind = kind; mark = mark }

abbrev used : Node
used = node 9 9 9 9

-- what the calls give
pub record Called : Type 0 where
  -- it holds F with its pair
  pub holds : program_in F_image ≡ F ((1, 2) ∷ [])
  -- check: number and place, and as one number
  pub checked : map (λ c. word_on (check_image c.0)) spoilt ≡ map (λ c. c.1) spoilt
  pub checked_number : map check_call (F_image ∷ take 11 F_image ∷ at 29 2 F_image ∷ [])
      ≡ 0 ∷ 0x1_0000_0000 ∷ 0x5_0000_0002 ∷ []
  -- list: "arguments 3"; 23 with a table of two
  pub lists_three : map (listed F_image) (4096 ∷ 3 ∷ 2 ∷ []) ≡ outcomes.Given 3 ∷ outcomes.Given 3 ∷ outcomes.Refused 23 0 ∷ []
  pub list_number : map (list_call F_image) (3 ∷ 2 ∷ []) ≡ 3 ∷ 0x17_0000_0000 ∷ []
  -- the empty mask with 0, rule 1 with 2, rule 2 with 3
  pub list_table_lem : map (list_table F_image) ((7 ∷ 7 ∷ 7 ∷ 7 ∷ []) ∷ (7 ∷ 7 ∷ []) ∷ [])
      ≡ (0 ∷ 130 ∷ 259 ∷ 7 ∷ []) ∷ (7 ∷ 7 ∷ []) ∷ []
  -- query; the image's causes come before those of the question
  pub answers : map (λ q. queried F_image q.literal q.budget q.argument_room q.node_room) questions
      ≡ map (λ q. q.expected) questions
  pub image_first : queried (at 32 0 F_image) 128 4097 0 0 ≡ Refused 12 0
  -- the two calls from C that answer a literal
  pub host_number : host_call F_image 0 4096 ∷ host_call F_image 1 4096 ∷ host_call F_image 2 4096 ∷ host_call F_image 3 4096
      ∷ host_call F_image 2 2 ∷ host_call F_image 127 2 ∷ host_call F_image 128 0 ∷ host_call F_image 2 4097
      ∷ host_call (at 29 2 F_image) 2 4096 ∷ []
      ≡ 0x1_0001 ∷ 0x2_0001 ∷ 0x1_0003 ∷ 0x2_0003 ∷ 0x5_0002 ∷ 0x4_0000 ∷ 20 ∷ 21 ∷ 5 ∷ []
  pub trees_number : trees_call F_image 2 3 3 3 ∷ trees_call F_image 2 3 3 2 ∷ trees_call (at 29 2 F_image) 2 3 3 3 ∷ []
      ≡ 0x1_0003 ∷ 0x16_0000_0000 ∷ 0x5_0000_0002 ∷ []
  -- the argument table: after an answer, of whatever kind; after a refusal
  pub arguments_left_lem : query_arguments F_image 2 3 (7 ∷ 7 ∷ 7 ∷ 7 ∷ []) 3 ∷ query_arguments F_image 127 0 (7 ∷ 7 ∷ 7 ∷ []) 0
      ∷ query_arguments F_image 2 3 (7 ∷ 7 ∷ 7 ∷ 7 ∷ []) 2 ∷ []
      ≡ (0 ∷ 130 ∷ 259 ∷ 7 ∷ []) ∷ (0 ∷ 130 ∷ 259 ∷ []) ∷ (7 ∷ 7 ∷ 7 ∷ 7 ∷ []) ∷ []
  -- the node table. The forest of 2: its own root stands; that for 3 has a proper defeater. Then a budget that is too
  -- small, an atom that stands in no rule, and a refusal.
  pub nodes_left_lem : query_nodes F_image 2 3 4096 (used ∷ used ∷ used ∷ used ∷ [])
      ∷ query_nodes F_image 2 2 4096 (used ∷ used ∷ used ∷ []) ∷ query_nodes F_image 127 2 4096 (used ∷ used ∷ [])
      ∷ query_nodes F_image 2 3 4096 (used ∷ used ∷ []) ∷ []
      ≡ (node 1 0 0 1 ∷ node 2 1 0 2 ∷ node 1 1 1 1 ∷ used ∷ [])
      ∷ (node 0 0 0 0 ∷ node 0 0 0 0 ∷ used ∷ []) ∷ (used ∷ used ∷ []) ∷ (used ∷ used ∷ []) ∷ []

pub F_called : Called
unfolding number_at verdict program_in has insert clash_below defeasibles_from chosen_from closure argument_list
    attacked proper neither blocking kind spread rounds beats_some tests_of unused joins reply_kind replies_to remaining replies
    forest_of undefeated_root occurs arguments_for forest warranted answer_by check_image list_verdict listed list_table
    query_verdict queried query_arguments query_column host_call
F_called = record {
  holds = refl;
  checked = refl;
  checked_number = refl;
  lists_three = refl;
  list_number = refl;
  list_table_lem = refl;
  answers = refl;
  image_first = refl;
  host_number = refl;
  trees_number = refl;
  arguments_left_lem = refl;
  nodes_left_lem = refl;
}
