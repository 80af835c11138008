-- Preference between arguments (document 01, "Attack and defeat"), of the rules that two masks stand for: as published,
-- and as a test that evaluates.
use Rattle.std.specs.Prelude.{◌≡◌, Bool, true, not, ◌&&◌, ℕ, eqb}
use Rattle.lists.specs.Lists.{any, member}
use Rattle.literals.specs.Sets.{has}
use Rattle.program.specs.Program.{Program, bit_of, in_mask, defeasibles_from}
use Rattle.program.specs.Limits.{DefeasibleAt}
use Rattle.program.specs.Beats.{Beats}
use Rattle.preference.specs.Reached.{rounds, reached}

module _ (p : Program) where
  -- "A set of defeasible rules is its mask, the sum of 2^bit": rule a is in the set with mask m
  pub record RuleOf (m a : ℕ) : Type 0 where
    pub rule : DefeasibleAt p.rules a
    pub member : has m (bit_of p.rules a) ≡ true

  -- "some rule of X beats some rule of Z": by a chain of listed pairs
  pub record SomeBeats (m n : ℕ) : Type 0 where
    pub winner : ℕ
    pub loser : ℕ
    pub of_first : RuleOf m winner
    pub of_second : RuleOf n loser
    pub beats : Beats p winner loser

  -- "X is preferred over Z if some rule of X beats some rule of Z .., and no rule of Z beats any rule of X."
  abbrev pub Preferred : ℕ → ℕ → Type 0
  Preferred m n = SomeBeats m n × ¬ SomeBeats n m

  -- the same as tests: rule a beats rule b
  abbrev pub beats_test : ℕ → ℕ → Bool
  beats_test a b = member b (reached p (eqb a))

  -- among the rules that those of m beat is one of n
  unfoldable pub beats_some : ℕ → ℕ → Bool
  unfolding has defeasibles_from rounds
  beats_some m n = any (in_mask p.rules n) (reached p (in_mask p.rules m))

  abbrev pub preferred_test : ℕ → ℕ → Bool
  preferred_test m n = beats_some m n && not (beats_some n m)
