-- What a program is (document 01, "The program image" and "Derivation and arguments"). No byte of an image stands here:
-- a program may come from anywhere.
use Rattle.std.specs.Prelude.{Bool, true, false, ◌&&◌, ◌||◌, not, List, [], ◌∷◌, ℕ, suc, get_or, take}
use Rattle.lists.specs.Lists.{keep}
use Rattle.literals.specs.Sets.{has}

-- "a kind byte (0 strict, 1 defeasible)"
pub data Kind : Type 0 where
  strict : Kind
  defeasible : Kind

-- "a kind byte .., a head literal, then 0 to 8 body literals"; "A literal is .. 2 × atom + sign"
pub record Rule : Type 0 where
  pub kind : Kind
  pub head : ℕ
  pub body : List ℕ

-- an atom count, the rules in table order, and the listed pairs: "the first beats the second"
pub record Program : Type 0 where
  pub atoms : ℕ
  pub rules : List Rule
  pub pairs : List (ℕ × ℕ)

-- "A strict rule without a body is a fact."
abbrev pub fact : ℕ → Rule
fact l = record { kind = strict; head = l; body = [] }

abbrev pub is_defeasible : Kind → Bool
is_defeasible strict = false
is_defeasible defeasible = true

-- the number of defeasible rules, counted on from n
abbrev pub next_bit : Kind → ℕ → ℕ
next_bit strict n = n
next_bit defeasible n = suc n

unfoldable pub defeasibles_from : ℕ → List Rule → ℕ
defeasibles_from n [] = n
defeasibles_from n (r ∷ l) = defeasibles_from (next_bit r.kind n) l

abbrev pub defeasibles : List Rule → ℕ
defeasibles l = defeasibles_from 0 l

-- "they get bits 0 to 15 in table order": the bit of rule i, where it is defeasible
abbrev pub bit_of : List Rule → ℕ → ℕ
bit_of l i = defeasibles (take i l)

-- rule i, and a fact past the end
abbrev pub rule_at : List Rule → ℕ → Rule
rule_at l i = get_or l i (fact 0)

-- "A set of defeasible rules is its mask, the sum of 2^bit": rule i is in the set with mask m
abbrev pub in_mask : List Rule → ℕ → ℕ → Bool
in_mask l m i = is_defeasible (rule_at l i).kind && has m (bit_of l i)

-- the strict rules, and the defeasible ones whose bit is chosen; the first defeasible rule has bit b
unfoldable pub chosen_from : (ℕ → Bool) → ℕ → List Rule → List Rule
chosen_from chosen b [] = []
chosen_from chosen b (r ∷ l) = keep (not (is_defeasible r.kind) || chosen b) r (chosen_from chosen (next_bit r.kind b) l)

-- "Π is all facts and strict rules": Π with the defeasible rules whose bit is chosen
abbrev pub Π_with : (ℕ → Bool) → List Rule → List Rule
Π_with chosen l = chosen_from chosen 0 l

-- Π with the set of defeasible rules that has mask m
abbrev pub Π_mask : ℕ → List Rule → List Rule
Π_mask m l = Π_with (has m) l

-- Π alone
abbrev pub Π : List Rule → List Rule
Π l = Π_with (λ _. false) l
