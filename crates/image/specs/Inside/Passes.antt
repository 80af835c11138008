-- The pass over an image: what the rule table holds so far, and what each step of the pass hands back.
use Rattle.std.specs.Prelude.{◌≡◌, Bool, true, false, not, ◌||◌, List, ℕ, suc, ◌+◌, ◌*◌, ◌<◌, ◌≤◌, length, get_or, set, ltb, leb, eqb, Result, Ok, Err}
use Rattle.lists.specs.Lists.{choose}
use Rattle.literals.specs.Sets.{insert_all}
use Rattle.program.specs.Program.{strict, defeasible, Rule, bit_of, defeasibles}
use Rattle.program.specs.Inside.Table.{head_at, body_at, need_at}
use Rattle.program.specs.Inside.Filling.{RowsTo}
use Rattle.layout.specs.declared.Cause.TheVariants.{Directory, PairNames, PairOrder}
use Rattle.layout.specs.declared.Refusal.{Refusal}
use Rattle.layout.specs.Layout.{atoms_of, rules_of, offset_of, size_of, part_of, kind_byte}
use Rattle.layout.specs.Causes.{Verdict, accepted, refuse, and_then, bad_directory, part_verdict, rule_verdict, count_kind, rules_verdict}
use Rattle.layout.specs.Reading.{rules_in}

-- ---- repeated rules

-- `after` is one more than the number of the last rule below n with this head, or 0 where none has it
pub record LastWith (t : List ℕ) (head after n : ℕ) : Type 0 where
  pub early : after ≤ n
  pub named : (j : ℕ) → after ≡ suc j → head_at t j ≡ head
  pub others : (j : ℕ) → after ≤ j → j < n → head_at t j ≡ head → ⊥

-- the links of the first n rules
pub record Linked (t links : List ℕ) (n : ℕ) : Type 0 where
  pub last : (head : ℕ) → head < 128 → LastWith t head (get_or links head 0) n
  pub earlier : (k : ℕ) → k < n → LastWith t (head_at t k) (get_or links (128 + k) 0) k

-- the links with rule i as the last of its head
abbrev pub linked_with : List ℕ → (head i : ℕ) → List ℕ
linked_with links head i = set (set links (128 + i) (get_or links head 0)) head (i + 1)

-- row j has this kind, head and body
pub record RowIs (t : List ℕ) (j : ℕ) (d : Bool) (head set : ℕ) : Type 0 where
  pub head_same : head_at t j ≡ head
  pub body_same : body_at t j ≡ set
  pub kind_same : not (eqb (need_at t j) 0) ≡ d

abbrev pub SameIs : Bool → List ℕ → ℕ → Bool → (head set : ℕ) → Type 0
SameIs true t j d head set = RowIs t j d head set
SameIs false t j d head set = RowIs t j d head set → ⊥

-- one of the first n rows has them
abbrev pub Repeats : Bool → List ℕ → ℕ → Bool → (head set : ℕ) → Type 0
Repeats true t n d head set = (j : ℕ) × (j < n) × RowIs t j d head set
Repeats false t n d head set = (j : ℕ) → j < n → RowIs t j d head set → ⊥

-- ---- rules

-- the rule has this kind, head and body
pub record RuleIs (q : Rule) (d : Bool) (head set : ℕ) : Type 0 where
  pub kind_is : q.kind ≡ choose d defeasible strict
  pub head_is : head ≡ q.head
  pub body_is : set ≡ insert_all 0 q.body

abbrev pub all_rules : List ℕ → List Rule
all_rules s = rules_in s 0 (rules_of s)

-- the first i rules are in the table, `bits` of them defeasible; none of causes 4 to 9 applies to one
pub record ReadTo (s : List ℕ) (i bits : ℕ) (t links : List ℕ) : Type 0 where
  pub long : length t ≡ 419
  pub links_long : length links ≡ 224
  pub bits_are : bits ≡ bit_of (all_rules s) i
  pub few : bits ≤ 16
  pub accepts : (j : ℕ) → j < i → part_verdict (part_of s j) (atoms_of s) (bit_of (all_rules s) j) j ≡ accepted
  pub rows : RowsTo (all_rules s) i t
  pub linked : Linked t links i

-- what reading rule i hands back
pub record NextRead (s : List ℕ) (i bits more : ℕ) (t links : List ℕ) : Type 0 where
  pub accepts : rule_verdict s bits i ≡ accepted
  pub counted : more ≡ count_kind (kind_byte (part_of s i)) bits
  pub read : ReadTo s (i + 1) more t links

abbrev pub StepRead : Result ℕ Refusal → (s : List ℕ) (i bits : ℕ) (t links : List ℕ) → Type 0
StepRead (Ok more) s i bits t links = NextRead s i bits more t links
StepRead (Err refusal) s i bits t links = rule_verdict s bits i ≡ Err refusal

-- what reading all rules hands back
pub record AllRead (s t : List ℕ) (bits from : ℕ) : Type 0 where
  pub directory : bad_directory s ≡ false
  pub accepts : rules_verdict s 0 0 (rules_of s) ≡ accepted
  pub from_is : from ≡ offset_of s (rules_of s)
  pub ends : offset_of s (rules_of s) + size_of s (rules_of s) ≡ length s
  pub long : length t ≡ 419
  pub bits_are : bits ≡ defeasibles (all_rules s)
  pub few : bits ≤ 16
  pub rows : RowsTo (all_rules s) (rules_of s) t

abbrev pub RulesRead : Result (ℕ × ℕ) Refusal → (s t : List ℕ) → Type 0
RulesRead (Ok read) s t = AllRead s t read.0 read.1
RulesRead (Err refusal) s t = and_then (refuse (bad_directory s) Directory 0) (rules_verdict s 0 0 (rules_of s)) ≡ Err refusal

-- ---- pairs

-- 12 by the table: the rule with this number is absent or has no bit
abbrev pub absent_in : List ℕ → (rules number : ℕ) → Bool
absent_in t rules number = leb rules number || eqb (need_at t number) 0

-- 12 and 13 by the table, where the pair has to be `least` or more
abbrev pub pair_tested : List ℕ → (rules first second least place : ℕ) → Verdict
pair_tested t rules first second least place =
    and_then (refuse (absent_in t rules first || (absent_in t rules second || eqb first second)) PairNames place)
    (refuse (ltb (256 * first + second) least) PairOrder place)
