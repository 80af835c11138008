-- The rule table: the words that the engine reads a program from, and which program they hold. Its layout stands here and
-- in the accessors, and nowhere else.
use Rattle.std.specs.Prelude.{◌≡◌, true, List, ℕ, ◌+◌, ◌*◌, ◌^◌, ◌<◌, ◌≤◌, length, get_or}
use Rattle.literals.specs.Sets.{has, insert_all}
use Rattle.literals.specs.Inside.Words.{joined}
use Rattle.program.specs.Program.{Kind, strict, defeasible, Rule, Program, is_defeasible, defeasibles, bit_of, rule_at}
use Rattle.program.specs.Beats.{Beats}

-- four words a rule: its head, its body as a set in two words, its need
abbrev pub head_at : List ℕ → ℕ → ℕ
head_at t i = get_or t (4 * i) 0

abbrev pub body_at : List ℕ → ℕ → ℕ
body_at t i = joined (get_or t (4 * i + 2) 0) (get_or t (4 * i + 1) 0)

abbrev pub need_at : List ℕ → ℕ → ℕ
need_at t i = get_or t (4 * i + 3) 0

-- from word 384 on, for each bit the number of its rule; from word 400 on, the mask of those that it beats
abbrev pub rule_of_bit : List ℕ → ℕ → ℕ
rule_of_bit t b = get_or t (384 + b) 0

abbrev pub beaten_at : List ℕ → ℕ → ℕ
beaten_at t b = get_or t (400 + b) 0

-- words 416 to 418: how many rules, how many defeasible ones, how many atoms
abbrev pub rule_count : List ℕ → ℕ
rule_count t = get_or t 416 0

abbrev pub bit_count : List ℕ → ℕ
bit_count t = get_or t 417 0

abbrev pub atom_count : List ℕ → ℕ
atom_count t = get_or t 418 0

-- the bits that a rule needs chosen: none if it is strict, else its own, b
abbrev pub need_of : Kind → ℕ → ℕ
need_of strict b = 0
need_of defeasible b = 2 ^ b

-- the row of a rule whose bit, if it is defeasible, is b
pub record Row (r : Rule) (b : ℕ) (t : List ℕ) (i : ℕ) : Type 0 where
  pub head_is : head_at t i ≡ r.head
  pub body_is : body_at t i ≡ insert_all 0 r.body
  pub need_is : need_at t i ≡ need_of r.kind b

-- the mask m has the bits of the rules that rule a beats, and no other
pub record BeatenMask (p : Program) (a m : ℕ) : Type 0 where
  pub found : (k : ℕ) → has m k ≡ true → (b : ℕ) × Beats p a b × (bit_of p.rules b ≡ k)
  pub each : {b : ℕ} → Beats p a b → has m (bit_of p.rules b) ≡ true

-- the table holds the program
pub record Holds (p : Program) (t : List ℕ) : Type 0 where
  pub rules_are : rule_count t ≡ length p.rules
  pub bits_are : bit_count t ≡ defeasibles p.rules
  pub atoms_are : atom_count t ≡ p.atoms
  pub row : (i : ℕ) → i < length p.rules → Row (rule_at p.rules i) (bit_of p.rules i) t i
  pub rule_of : (i : ℕ) → i < length p.rules → is_defeasible (rule_at p.rules i).kind ≡ true → rule_of_bit t (bit_of p.rules i) ≡ i
  pub beaten_is : (i : ℕ) → i < length p.rules → is_defeasible (rule_at p.rules i).kind ≡ true → BeatenMask p i (beaten_at t (bit_of p.rules i))

-- what the table of each accepted program is like: 96 rules at most, and the head of each is one of the 128 literals
pub record Shaped (t : List ℕ) : Type 0 where
  pub few : rule_count t ≤ 96
  pub literals : (i : ℕ) → i < rule_count t → head_at t i < 128
