-- What each public call returns and what it leaves in each lent table, from the image's bytes (document 01, "Answers" and
-- "Causes for turning an order away").
use Rattle.std.specs.Prelude.{◌≡◌, List, map, ℕ, ◌+◌, ◌*◌, ◌/◌, ◌%◌, length, ltb, leb}
use Rattle.program.specs.Program.{Π}
use Rattle.calls.specs.Verdicts.{Verdict}
use Rattle.calls.specs.Verdicts as verdicts
use Rattle.layout.specs.Causes.{verdict}
use Rattle.calls.specs.Verdicts.{told, cause_of, place_of, refuse, and_then}
use Rattle.layout.specs.Reading.{program_in}
use Rattle.derivation.specs.Closure.{contradictory}
use Rattle.argument.specs.List.{argument_list}
use Rattle.tree.specs.Entries.{Entry}
use Rattle.answer.specs.declared.Answer.{Answer}
use Rattle.calls.specs.Outcomes.{Outcome, Refused, by_verdict, cause_in, place_in, value_in, code_in, nodes_in}
use Rattle.calls.specs.Outcomes as outcomes
use Rattle.nodes.specs.declared.Node.{Node}
pub use Rattle.nodes.specs.Nodes.{node_of}
pub use Rattle.answer.specs.Tables.{front, nodes_after, zeroed, column_after}
use Rattle.answer.specs.Answer.{tests, forest_entries, answer}

-- ---- check an image

-- "Checked in the order listed: 1 to 3; 4 to 10 for each rule in turn; 11; 12 and 13 for each pair in turn; 14": "Π
-- contradictory"
unfoldable pub check_image : List ℕ → Verdict
check_image s = and_then (told (verdict s)) (refuse (contradictory (Π (program_in s).rules)) 14 0)

-- ---- list arguments

-- the argument list of the program that the image holds
abbrev pub list_in : List ℕ → List ℕ
list_in s = argument_list (program_in s).rules

-- 23: "More arguments than the argument table holds", where it holds `room`
unfoldable pub list_verdict : List ℕ → ℕ → Verdict
list_verdict s room = and_then (check_image s) (refuse (ltb room (length (list_in s))) 23 0)

-- "listing returns the argument count and writes the list"
unfoldable pub listed : List ℕ → ℕ → Outcome ℕ
listed s room = by_verdict (list_verdict s room) (length (list_in s))

-- where a cause applies, "all tables" are "Left as it was"
abbrev pub unless_refused : {A : Type 0} → Verdict → A → A → A
unless_refused verdicts.Accepted after before = after
unless_refused (verdicts.Refused number place) after before = before

unfoldable pub list_table : List ℕ → List ℕ → List ℕ
list_table s table = unless_refused (list_verdict s (length table)) (front (list_in s) table) table

-- ---- query

-- "then 20 to 23": "Query literal 128 or more", "Budget over 4,096", "Node table shorter than the budget", "More arguments
-- than the argument table holds"
unfoldable pub query_verdict : List ℕ → (literal budget argument_room node_room : ℕ) → Verdict
query_verdict s h budget argument_room node_room =
    and_then (check_image s)
    (and_then (refuse (leb 128 h) 20 0)
    (and_then (refuse (ltb 4096 budget) 21 0)
    (and_then (refuse (ltb node_room budget) 22 0)
    (refuse (ltb argument_room (length (list_in s))) 23 0))))

-- "UNKNOWN comes after 23."
unfoldable pub queried : List ℕ → (literal budget argument_room node_room : ℕ) → Outcome Answer
queried s h budget argument_room node_room =
    by_verdict (query_verdict s h budget argument_room node_room) (answer (program_in s) h budget)

-- the argument table: "After every answer the argument table begins with the list."
unfoldable pub query_arguments : List ℕ → (literal budget : ℕ) → List ℕ → (node_room : ℕ) → List ℕ
query_arguments s h budget table node_room =
    unless_refused (query_verdict s h budget (length table) node_room) (front (list_in s) table) table

-- the node table, or one column of it, after a query: a refusal leaves it as it was
abbrev pub nodes_left : {A : Type 0} → Outcome Answer → List A → A → List A → List A
nodes_left (outcomes.Given a) forest empty table = nodes_after a forest empty table
nodes_left (outcomes.Refused number place) forest empty table = table

abbrev pub column_in : {A : Type 0} → (Entry → A) → Outcome Answer → List Entry → List A → List A
column_in field a forest table = nodes_left a (map field forest) (field zeroed) table

-- what a field of the entries, or the whole entry, leaves in a table of its own, beside a node table of so many entries
unfoldable pub query_column : {A : Type 0} → (Entry → A) → List ℕ → (literal budget argument_room node_room : ℕ) → List A
    → List A
query_column field s h budget argument_room node_room table =
    column_in field (queried s h budget argument_room node_room) (forest_entries (tests (program_in s)) h) table

-- in the node table itself
abbrev pub query_table : {A : Type 0} → (Entry → A) → List ℕ → (literal budget argument_room : ℕ) → List A → List A
query_table field s h budget argument_room table = query_column field s h budget argument_room (length table) table

abbrev pub query_nodes : List ℕ → (literal budget argument_room : ℕ) → List Node → List Node
query_nodes = query_table node_of

-- ---- the call from the host program in C

-- "code × 65,536 + nodes"
abbrev pub code_and_nodes : Outcome Answer → ℕ
code_and_nodes a = code_in a * 65536 + nodes_in a

-- "It returns code × 65,536 + nodes, or a bare refusal number.": an answer has no cause, and a refusal neither code nor
-- nodes
abbrev pub packed : Outcome Answer → ℕ
packed a = cause_in a + code_and_nodes a

-- "which brings its own two tables of 4,096 entries, zeroed"
unfoldable pub host_call : List ℕ → (literal budget : ℕ) → ℕ
host_call s h budget = packed (queried s h budget 4096 4096)

-- ---- the calls of the C library: each result is one number

-- a cause, 0 for none, with what comes with it: number * 2^32 + value
abbrev pub refusal_number : (number value : ℕ) → ℕ
refusal_number number value = number * 0x1_0000_0000 + value

-- 0 where an image is accepted
abbrev pub verdict_number : Verdict → ℕ
verdict_number v = refusal_number (cause_of v) (place_of v)

abbrev pub check_call : List ℕ → ℕ
check_call s = verdict_number (check_image s)

-- the argument count, or the length of what a call wrote, "its length is returned where nothing else is"; or a cause with its
-- place
abbrev pub count_number : Outcome ℕ → ℕ
count_number l = refusal_number (cause_in l) (value_in l)

abbrev pub list_call : List ℕ → (room : ℕ) → ℕ
list_call s room = count_number (listed s room)

-- code * 2^16 + nodes, or a cause with its place
abbrev pub answered_number : Outcome Answer → ℕ
answered_number a = refusal_number (cause_in a) (place_in a) + code_and_nodes a

-- the query with lent tables
abbrev pub trees_call : List ℕ → (literal budget argument_room node_room : ℕ) → ℕ
trees_call s h budget argument_room node_room = answered_number (queried s h budget argument_room node_room)

-- a result that carries a cause with its place
abbrev pub Carries : ℕ → (number place : ℕ) → Type 0
Carries result number place = (result / 0x1_0000_0000 ≡ number) × (result % 0x1_0000_0000 ≡ place)

-- ---- the calls that give a literal's answer

-- "each may be any call that gives a literal's answer, as these two do, with any budget and, where tables are lent, tables
-- of any length and contents"
pub data Call : Type 0 where
  query : (literal budget argument_room node_room : ℕ) → Call
  host : (literal budget : ℕ) → Call
  trees : (literal budget argument_room node_room : ℕ) → Call

-- what a call asks for, with its budget and the number of entries of its two tables
pub record Asked : Type 0 where
  pub literal : ℕ
  pub budget : ℕ
  pub argument_room : ℕ
  pub node_room : ℕ

abbrev pub asked : Call → Asked
asked (query h budget argument_room node_room) =
    record { literal = h; budget = budget; argument_room = argument_room; node_room = node_room }
asked (host h budget) = record { literal = h; budget = budget; argument_room = 4096; node_room = 4096 }
asked (trees h budget argument_room node_room) =
    record { literal = h; budget = budget; argument_room = argument_room; node_room = node_room }

abbrev pub literal_asked : Call → ℕ
literal_asked c = (asked c).literal

-- accepted, or the first cause that turns the call away
abbrev pub verdict_of : List ℕ → Call → Verdict
verdict_of s c = query_verdict s (asked c).literal (asked c).budget (asked c).argument_room (asked c).node_room

-- the answer's code and its nodes, as the caller reads them from the result
abbrev pub code_from : List ℕ → Call → ℕ
code_from s (query h budget argument_room node_room) = code_in (queried s h budget argument_room node_room)
code_from s (host h budget) = host_call s h budget / 65536
code_from s (trees h budget argument_room node_room) = trees_call s h budget argument_room node_room / 65536

abbrev pub nodes_from : List ℕ → Call → ℕ
nodes_from s (query h budget argument_room node_room) = nodes_in (queried s h budget argument_room node_room)
nodes_from s (host h budget) = host_call s h budget % 65536
nodes_from s (trees h budget argument_room node_room) = trees_call s h budget argument_room node_room % 65536

-- the result is a refusal by this cause; the host call's has no place
abbrev pub HandsBack : List ℕ → Call → (number place : ℕ) → Type 0
HandsBack s (query h budget argument_room node_room) number place =
    queried s h budget argument_room node_room ≡ Refused number place
HandsBack s (host h budget) number place = host_call s h budget ≡ number
HandsBack s (trees h budget argument_room node_room) number place =
    Carries (trees_call s h budget argument_room node_room) number place

-- the call says YES to its literal
abbrev pub SaysYes : List ℕ → Call → Type 0
SaysYes s c = code_from s c ≡ 1
