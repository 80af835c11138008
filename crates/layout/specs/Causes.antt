-- The causes 1 to 13 that refuse an image (document 01, "Causes for turning an order away"), each with its number and its
-- place, and the order in which they are looked for.
use Rattle.std.specs.Prelude.{Bool, true, false, not, ◌&&◌, ◌||◌, List, [], ◌∷◌, ℕ, zero, suc, ◌+◌, ◌*◌, length, drop, ltb, leb, eqb, Result, Ok, Err}
use Rattle.lists.specs.Lists.{choose}
use Rattle.layout.specs.declared.Cause.{Cause}
use Rattle.layout.specs.declared.Cause.TheVariants.{ImageLength, Header, Directory, RuleLength, RuleKind, LiteralRange, BodyOrder, DefeasibleWithoutBody, TooManyDefeasible, RepeatedRule, LastPartLength}
use Rattle.layout.specs.declared.Cause.TheVariants.{PairNames, PairOrder, StrictContradiction, QueryLiteral, Budget, NodeTable, ArgumentTable, OutputTable, NumberTable, Misfiled, ImageAccepted, MarkTable}
use Rattle.layout.specs.declared.Refusal.{Refusal}
use Rattle.layout.specs.Layout.{number_at, atoms_of, rules_of, pair_count_of, offset_of, size_of, part_of, kind_byte, body_bytes, first_of, second_of}

-- document 01's number of each cause
abbrev pub number_of : Cause → ℕ
number_of ImageLength = 1
number_of Header = 2
number_of Directory = 3
number_of RuleLength = 4
number_of RuleKind = 5
number_of LiteralRange = 6
number_of BodyOrder = 7
number_of DefeasibleWithoutBody = 8
number_of TooManyDefeasible = 9
number_of RepeatedRule = 10
number_of LastPartLength = 11
number_of PairNames = 12
number_of PairOrder = 13
number_of StrictContradiction = 14
number_of QueryLiteral = 20
number_of Budget = 21
number_of NodeTable = 22
number_of ArgumentTable = 23
number_of OutputTable = 24
number_of NumberTable = 25
number_of Misfiled = 26
number_of ImageAccepted = 28
number_of MarkTable = 29

-- accepted, or the first cause that applies, with its place
abbrev pub Verdict : Type 0
Verdict = Result Unit Refusal

abbrev pub accepted : Verdict
accepted = Ok tt

abbrev pub refused : {A : Type 0} → Cause → ℕ → Result A Refusal
refused cause place = Err (record { cause = cause; place = place })

-- a cause with its place, where it applies
abbrev pub refuse : Bool → Cause → ℕ → Verdict
refuse true cause place = refused cause place
refuse false cause place = accepted

-- "Checked in the order listed": the first of two that refuses
abbrev pub and_then : {A : Type 0} → Verdict → Result A Refusal → Result A Refusal
and_then (Ok a) v = v
and_then (Err r) v = Err r

-- 1: "Image under 12 or over 1,836 bytes"
abbrev pub bad_length : List ℕ → Bool
bad_length s = ltb (length s) 12 || ltb 1836 (length s)

-- 2: "A, R or P over its limit, or bytes 6-7 not zero"
abbrev pub bad_counts : List ℕ → Bool
bad_counts s = ltb 64 (atoms_of s) || (ltb 96 (rules_of s) || (ltb 240 (pair_count_of s) || not (eqb (number_at s 6) 0)))

-- 3: "Directory doesn't fit the image or breaks the offset rule": "The first offset is 12 + 4R; each later one is the
-- previous offset plus the previous length; the last part ends where the image ends." `ends` is where the part before
-- entry i ends, and n entries are left from entry i on.
unfoldable pub parts_follow : List ℕ → ℕ → ℕ → ℕ → Bool
parts_follow s ends i zero = eqb ends (length s)
parts_follow s ends i (suc n) = eqb (offset_of s i) ends && parts_follow s (offset_of s i + size_of s i) (suc i) n

abbrev pub bad_directory : List ℕ → Bool
bad_directory s = ltb (length s) (12 + 4 * rules_of s) || not (parts_follow s (12 + 4 * rules_of s) 0 (rules_of s + 1))

-- 4: "Rule part under 2 or over 10 bytes"
abbrev pub bad_size : List ℕ → Bool
bad_size part = ltb (length part) 2 || ltb 10 (length part)

-- 5: "Kind neither 0 nor 1"
abbrev pub bad_kind : List ℕ → Bool
bad_kind part = ltb 1 (kind_byte part)

-- 6: "A literal not below 2 × A", the head among them
unfoldable pub all_below : ℕ → List ℕ → Bool
all_below n [] = true
all_below n (l ∷ ls) = ltb l n && all_below n ls

abbrev pub bad_literal : ℕ → List ℕ → Bool
bad_literal atoms part = not (all_below (2 * atoms) (drop 1 part))

-- 7: "Body not strictly ascending"
unfoldable pub ascending : List ℕ → Bool
ascending [] = true
ascending (x ∷ []) = true
ascending (x ∷ y ∷ l) = ltb x y && ascending (y ∷ l)

abbrev pub bad_body : List ℕ → Bool
bad_body part = not (ascending (body_bytes part))

-- 8: "Defeasible with empty body"
abbrev pub bad_empty : List ℕ → Bool
bad_empty part = eqb (kind_byte part) 1 && eqb (length part) 2

-- 9: "A 17th defeasible rule", where `before` of the earlier rules are defeasible
abbrev pub bad_seventeenth : ℕ → List ℕ → Bool
bad_seventeenth before part = eqb (kind_byte part) 1 && leb 16 before

-- 10: "Same bytes as an earlier rule"
unfoldable pub same_bytes : List ℕ → List ℕ → Bool
same_bytes [] [] = true
same_bytes [] (y ∷ b) = false
same_bytes (x ∷ a) [] = false
same_bytes (x ∷ a) (y ∷ b) = eqb x y && same_bytes a b

-- the bytes are those of one of the n parts from part j on
unfoldable pub stands_in : List ℕ → List ℕ → ℕ → ℕ → Bool
unfolding same_bytes
stands_in s part j zero = false
stands_in s part j (suc n) = same_bytes (part_of s j) part || stands_in s part (suc j) n

abbrev pub bad_repeat : List ℕ → ℕ → Bool
bad_repeat s i = stands_in s (part_of s i) 0 i

-- 4 to 9 of a rule in its part, and 10 of rule i of an image
unfoldable pub part_verdict : List ℕ → ℕ → ℕ → ℕ → Verdict
unfolding all_below ascending
part_verdict part atoms before place =
    and_then (refuse (bad_size part) RuleLength place)
    (and_then (refuse (bad_kind part) RuleKind place)
    (and_then (refuse (bad_literal atoms part) LiteralRange place)
    (and_then (refuse (bad_body part) BodyOrder place)
    (and_then (refuse (bad_empty part) DefeasibleWithoutBody place) (refuse (bad_seventeenth before part) TooManyDefeasible place)))))

unfoldable pub rule_verdict : List ℕ → ℕ → ℕ → Verdict
unfolding part_verdict stands_in
rule_verdict s before i = and_then (part_verdict (part_of s i) (atoms_of s) before i) (refuse (bad_repeat s i) RepeatedRule i)

-- one defeasible rule more, where the kind byte says so
abbrev pub count_kind : ℕ → ℕ → ℕ
count_kind kind before = choose (eqb kind 1) (suc before) before

-- "4 to 10 for each rule in turn": the n rules from rule i on, `before` of the earlier ones defeasible
unfoldable pub rules_verdict : List ℕ → ℕ → ℕ → ℕ → Verdict
unfolding rule_verdict
rules_verdict s before i zero = accepted
rules_verdict s before i (suc n) = and_then (rule_verdict s before i) (rules_verdict s (count_kind (kind_byte (part_of s i)) before) (suc i) n)

-- 11: "Last part isn't 2 × P bytes"
abbrev pub bad_pairs : List ℕ → Bool
bad_pairs s = not (eqb (size_of s (rules_of s)) (2 * pair_count_of s))

-- 12: "A pair naming a rule that is absent or not defeasible, or one rule twice"
abbrev pub not_defeasible : List ℕ → ℕ → Bool
not_defeasible s a = leb (rules_of s) a || not (eqb (kind_byte (part_of s a)) 1)

abbrev pub bad_pair : List ℕ → ℕ → Bool
bad_pair s j = not_defeasible s (first_of s j) || (not_defeasible s (second_of s j) || eqb (first_of s j) (second_of s j))

-- 13: "Pairs not strictly ascending": "by first, then second number"
abbrev pub pair_code : List ℕ → ℕ → ℕ
pair_code s j = 256 * first_of s j + second_of s j

abbrev pub bad_order : List ℕ → ℕ → Bool
bad_order s zero = false
bad_order s (suc j) = leb (pair_code s (suc j)) (pair_code s j)

unfoldable pub pair_verdict : List ℕ → ℕ → Verdict
pair_verdict s j = and_then (refuse (bad_pair s j) PairNames j) (refuse (bad_order s j) PairOrder j)

-- "12 and 13 for each pair in turn": the n pairs from pair j on
unfoldable pub pairs_verdict : List ℕ → ℕ → ℕ → Verdict
unfolding pair_verdict
pairs_verdict s j zero = accepted
pairs_verdict s j (suc n) = and_then (pair_verdict s j) (pairs_verdict s (suc j) n)

-- "1 to 3; 4 to 10 for each rule in turn; 11; 12 and 13 for each pair in turn"
unfoldable pub verdict : List ℕ → Verdict
unfolding parts_follow rules_verdict pairs_verdict
verdict s =
    and_then (refuse (bad_length s) ImageLength 0)
    (and_then (refuse (bad_counts s) Header 0)
    (and_then (refuse (bad_directory s) Directory 0)
    (and_then (rules_verdict s 0 0 (rules_of s))
    (and_then (refuse (bad_pairs s) LastPartLength 0) (pairs_verdict s 0 (pair_count_of s))))))
