-- The literals that are derived, computed: all rules in turn, again and again until a round adds nothing. Each function
-- computes, so that small programs are evaluated in a proof.
use Rattle.std.specs.Prelude.{Bool, true, false, List, [], ◌∷◌, ℕ, zero, suc, eqb, length}
use Rattle.lists.specs.Lists.{choose}
use Rattle.literals.specs.Sets.{has, insert, has_all, clash}
use Rattle.program.specs.Program.{Rule, Π}

-- s, with the rule's head if s has its whole body
unfoldable pub fire : Rule → ℕ → ℕ
unfolding has_all insert
fire r s = choose (has_all s r.body) (insert s r.head) s

-- each rule once, in table order
unfoldable pub round : List Rule → ℕ → ℕ
unfolding fire
round [] s = s
round (r ∷ rules) s = round rules (fire r s)

-- rounds until one adds nothing, n at most
unfoldable pub rounds : ℕ → List Rule → ℕ → ℕ
unfolding round
rounds zero rules s = s
rounds (suc n) rules s =
    let t = round rules s in
    elim (eqb t s) [ true ↦ s | false ↦ rounds n rules t ]

-- a round that adds something adds the head of one rule more, so that there are no more of those than rules
abbrev pub enough : List Rule → ℕ
enough rules = length rules

-- what the rules derive where some literals are given
unfoldable pub closure : List Rule → ℕ → ℕ
unfolding rounds
closure rules given = rounds (enough rules) rules given

-- "A literal is derived from a set of rules"
abbrev pub derives : List Rule → ℕ → Bool
derives rules l = has (closure rules 0) l

-- "A set is contradictory if it derives some literal and its complement."
abbrev pub contradictory : List Rule → Bool
contradictory rules = clash (closure rules 0)

-- "Two literals exclude each other if Π with both added as facts is contradictory."
abbrev pub excludes : List Rule → ℕ → ℕ → Bool
excludes rules a b = clash (closure (Π rules) (insert (insert 0 a) b))
