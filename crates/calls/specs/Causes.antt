-- The causes for turning an order away, as document 01's table has them: each with its number, its place and when it
-- applies; and which is given. The tests of 1 to 13 are those of crate `layout`, specs/Causes.antt.
use Rattle.std.specs.Prelude.{◌≡◌, List, ◌⊎◌, ℕ, zero, suc, ◌≤◌, ◌<◌, length, T}
use Rattle.program.specs.Program.{Π}
use Rattle.calls.specs.Verdicts.{Verdict, Accepted, Refused}
use Rattle.layout.specs.Layout.{atoms_of, rules_of, pair_count_of, part_of, kind_byte}
use Rattle.layout.specs.Causes.{bad_length, bad_counts, bad_directory, bad_size, bad_kind, bad_literal, bad_body, bad_empty}
use Rattle.layout.specs.Causes.{bad_seventeenth, bad_repeat, bad_pairs, bad_pair, bad_order, count_kind}
use Rattle.layout.specs.Reading.{program_in}
use Rattle.derivation.specs.Derivation.{Contradictory}
use Rattle.argument.specs.Argument.{ArgumentList}
use Rattle.calls.specs.Calls.{Asked}

-- ---- which cause is given

-- 4 to 10 are of a rule, 12 and 13 of a pair
abbrev pub OfRule : ℕ → Type 0
OfRule n = (4 ≤ n) × (n ≤ 10)

abbrev pub OfPair : ℕ → Type 0
OfPair n = (12 ≤ n) × (n ≤ 13)

abbrev pub InTurn : ℕ → ℕ → Type 0
InTurn m n = (OfRule m × OfRule n) ⊎ (OfPair m × OfPair n)

-- "Checked in the order listed: 1 to 3; 4 to 10 for each rule in turn; 11; 12 and 13 for each pair in turn; 14; then 20 to
-- 23.": cause m at place q is looked for before cause n at place p
pub data Earlier (m q n p : ℕ) : Type 0 where
  by_number : ¬ InTurn m n → m < n → Earlier m q n p
  by_place : InTurn m n → q < p → Earlier m q n p
  at_place : InTurn m n → q ≡ p → m < n → Earlier m q n p

-- what a verdict is: accepted where no cause applies, else refused by the first that does
pub data Judged (Cause : (number place : ℕ) → Type 0) : Verdict → Type 0 where
  accepted : ((number place : ℕ) → ¬ Cause number place) → Judged Cause Accepted
  refused : {number place : ℕ} → Cause number place
      → ((m q : ℕ) → Earlier m q number place → ¬ Cause m q) → Judged Cause (Refused number place)

-- ---- when each applies

-- so many of the rules before rule i are defeasible
unfoldable pub defeasible_before : List ℕ → ℕ → ℕ
defeasible_before image zero = 0
defeasible_before image (suc i) = count_kind (kind_byte (part_of image i)) (defeasible_before image i)

module _ (image : List ℕ) where
  -- of rule i
  pub data RuleCause (i : ℕ) : (number : ℕ) → Type 0 where
    part_size : T (bad_size (part_of image i)) → RuleCause i 4
    kind : T (bad_kind (part_of image i)) → RuleCause i 5
    literal_range : T (bad_literal (atoms_of image) (part_of image i)) → RuleCause i 6
    body_order : T (bad_body (part_of image i)) → RuleCause i 7
    no_body : T (bad_empty (part_of image i)) → RuleCause i 8
    seventeenth : T (bad_seventeenth (defeasible_before image i) (part_of image i)) → RuleCause i 9
    repeated : T (bad_repeat image i) → RuleCause i 10

  -- of pair j
  pub data PairCause (j : ℕ) : (number : ℕ) → Type 0 where
    names : T (bad_pair image j) → PairCause j 12
    order : T (bad_order image j) → PairCause j 13

  -- "Place is the rule or pair number for 4-10, 12 and 13, else 0."
  pub data ImageCause : (number place : ℕ) → Type 0 where
    image_size : T (bad_length image) → ImageCause 1 0
    counts : T (bad_counts image) → ImageCause 2 0
    directory : T (bad_directory image) → ImageCause 3 0
    of_rule : {i number : ℕ} → i < rules_of image → RuleCause i number → ImageCause number i
    last_part : T (bad_pairs image) → ImageCause 11 0
    of_pair : {j number : ℕ} → j < pair_count_of image → PairCause j number → ImageCause number j
    -- "Π contradictory"
    contradictory : Contradictory (Π (program_in image).rules) → ImageCause 14 0

  -- "The list call can give 23 but not 20 to 22."
  pub data ListCause (room : ℕ) : (number place : ℕ) → Type 0 where
    of_image : {number place : ℕ} → ImageCause number place → ListCause room number place
    -- "More arguments than the argument table holds"
    arguments : {list : List ℕ} → ArgumentList (program_in image).rules list → room < length list → ListCause room 23 0

  pub data QueryCause (a : Asked) : (number place : ℕ) → Type 0 where
    of_list : {number place : ℕ} → ListCause a.argument_room number place → QueryCause a number place
    -- "Query literal 128 or more"
    literal : 128 ≤ a.literal → QueryCause a 20 0
    -- "Budget over 4,096"
    budget : 4096 < a.budget → QueryCause a 21 0
    -- "Node table shorter than the budget"
    nodes : a.node_room < a.budget → QueryCause a 22 0
