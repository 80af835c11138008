-- A program under other rule numbers has the same answers and the same N.
use mathlib.Core.Path.{◌≡◌, sym, ap, ap₂, ◌∙◌, subst}
use mathlib.Core.Bool.{Bool, not, ◌&&◌}
use mathlib.Core.List.Memᴰ
use mathlib.Core.List.Permᴰ
use mathlib.Core.List.{List, ◌++◌, map, Permᴰ}
use mathlib.Core.Logic.{⊎_elim}
use Prim.Native.Nat.{ℕ}
use lib.Dec.{eqb, ltb}
use Rattle.lists.specs.Lists.{Within, filter}
use Rattle.lists.proofs.Lists.{filter_found}
use Rattle.lists.proofs.Decides.{decides_iff, decides_same}
use Rattle.lists.proofs.Places.{map-append}
use Rattle.lists.proofs.Permutations.{any_match, filter_perm, filter_map}
use Rattle.literals.specs.Sets.{has}
use Rattle.program.specs.Program.{Program, bit_of}
use Rattle.program.specs.Beats.{Beats, listed, through}
use Rattle.derivation.specs.Derivation.{complement, HeadsBelow}
use Rattle.argument.specs.Argument.{literal_of}
use Rattle.preference.specs.Preference.{RuleOf, SomeBeats, beats_some, preferred_test}
use Rattle.preference.proofs.Preferences.{beats_some_renders}
use Rattle.defeat.specs.Tests.{Tests}
use Rattle.defeat.specs.OfProgram.{tests_of}
use Rattle.tree.specs.Forest.{undefeated_root}
use Rattle.tree.specs.OfLiteral.{arguments_for, forest, node_count, warranted}
use Rattle.answer.specs.Answer.{Occurs, occurs, answer_of, answer_by, tests, answer}
use Rattle.answer.proofs.Warrant.{occurs_renders}
use Rattle.renaming.specs.Inside.Tests.{SameTests}
use Rattle.renaming.specs.Programs.{Renumbered, carried, carried_argument}
use Rattle.renaming.proofs.Trees.{root_same, forest_same}
use Rattle.renaming.proofs.Masks.{renumbered_sym, rules_to, defeasible_to, carried_has}
use Rattle.renaming.proofs.Arguments.{tests_same, literal_is}

-- ---- of tests over numbers, where a renaming keeps the literals

module _ (t u : Tests ℕ) (f : ℕ → ℕ) (s : SameTests t u f) (keeps : (x : ℕ) → literal_of (f x) ≡ literal_of x) where
  for_perm : (h : ℕ) → Permᴰ (map f (arguments_for t h)) (arguments_for u h)
  unfolding arguments_for
  for_perm h =
      subst (λ (l : List ℕ). Permᴰ l (filter (λ x. eqb (literal_of x) h) u.arguments))
      (sym (filter_map f (λ x. eqb (literal_of x) h) (λ x. eqb (literal_of x) h) t.arguments (λ x i. ap (λ (k : ℕ). eqb k h) (sym (keeps x)))))
      (filter_perm (λ x. eqb (literal_of x) h) s.listed)

  for_within : (h : ℕ) → Within (arguments_for t h) t.arguments
  unfolding arguments_for
  for_within h x i = (filter_found (λ y. eqb (literal_of y) h) t.arguments i).0

  -- N
  pub node_count_same : (h : ℕ) → node_count t h ≡ node_count u h
  unfolding forest
  node_count_same h =
      forest_same t u f s (arguments_for t h ++ arguments_for t k) (arguments_for u h ++ arguments_for u k)
      (λ x i. ⊎_elim (for_within h x) (for_within k x) (Memᴰ.append_cases (arguments_for t h) i))
      (subst (λ (l : List ℕ). Permᴰ l (arguments_for u h ++ arguments_for u k))
      (sym (map-append f (arguments_for t h) (arguments_for t k)))
      (Permᴰ.trans (Permᴰ.append_right (map f (arguments_for t k)) (for_perm h))
      (Permᴰ.append_left (arguments_for u h) (for_perm k))))
    where
      k : ℕ
      k = complement h

  -- "h has a root marked U"
  pub warranted_same : (h : ℕ) → warranted t h ≡ warranted u h
  unfolding warranted
  warranted_same h =
      any_match f (for_perm h) (undefeated_root t) (undefeated_root u) (λ x i. root_same t u f s x (for_within h x i))

-- ---- of programs

-- a chain of listed pairs
beats_to : {p q : Program} {to from : ℕ → ℕ} → Renumbered p q to from → {a b : ℕ} → Beats p a b → Beats q (to a) (to b)
beats_to n (listed {a = a} {b = b} i) = listed (n.pairs_to a b i)
beats_to n (through {a = a} {c = c} i more) = through (n.pairs_to a c i) (beats_to n more)

module _ {p q : Program} {to from : ℕ → ℕ} (n : Renumbered p q to from) where
  occurs_to : (h : ℕ) → Occurs p h → Occurs q h
  occurs_to h o = record {
    rule = o.rule;
    in_program = rules_to n o.rule o.in_program;
    literal = o.literal;
    in_rule = o.in_rule;
    same_atom = o.same_atom;
  }

  some_beats_to : (a b : ℕ) → SomeBeats p a b → SomeBeats q (carried p q to a) (carried p q to b)
  some_beats_to a b s = record {
    winner = to s.winner;
    loser = to s.loser;
    of_first = rule_to a s.winner s.of_first;
    of_second = rule_to b s.loser s.of_second;
    beats = beats_to n s.beats;
  }
    where
      rule_to : (m i : ℕ) → RuleOf p m i → RuleOf q (carried p q to m) (to i)
      rule_to m i r = record { rule = defeasible_to n r.rule; member = sym (carried_has n m i r.rule) ∙ r.member }

  some_beats_from : (a b : ℕ) → SomeBeats q (carried p q to a) (carried p q to b) → SomeBeats p a b
  some_beats_from a b s = record {
    winner = from s.winner;
    loser = from s.loser;
    of_first = rule_from a s.winner s.of_first;
    of_second = rule_from b s.loser s.of_second;
    beats = beats_to (renumbered_sym n) s.beats;
  }
    where
      rule_from : (m j : ℕ) → RuleOf q (carried p q to m) j → RuleOf p m (from j)
      rule_from m j r =
          let d = defeasible_to (renumbered_sym n) r.rule in
          record {
            rule = d;
            member = carried_has n m (from j) d
                ∙ ap (λ (k : ℕ). has (carried p q to m) (bit_of q.rules k)) (n.to_from j r.rule.there)
                ∙ r.member;
          }

  beats_some_same : (a b : ℕ) → beats_some p a b ≡ beats_some q (carried p q to a) (carried p q to b)
  beats_some_same a b =
      decides_same (beats_some_renders p a b)
      (decides_iff (some_beats_from a b) (some_beats_to a b) (beats_some_renders q (carried p q to a) (carried p q to b)))

  pub preferred_same : (a b : ℕ) → preferred_test p a b ≡ preferred_test q (carried p q to a) (carried p q to b)
  preferred_same a b = ap₂ (λ (x y : Bool). x && not y) (beats_some_same a b) (beats_some_same b a)

pub occurs_same : {p q : Program} {to from : ℕ → ℕ} → Renumbered p q to from → (h : ℕ) → occurs p h ≡ occurs q h
occurs_same {p} {q} n h =
    decides_same (occurs_renders p h) (decides_iff (occurs_to (renumbered_sym n) h) (occurs_to n h) (occurs_renders q h))

module _ {p q : Program} {to from : ℕ → ℕ} (n : Renumbered p q to from) (heads : HeadsBelow 128 p.rules) where
  -- at any two preferences that agree on the masks that are carried over
  module _ (f g : ℕ → ℕ → Bool) (agree : (a b : ℕ) → f a b ≡ g (carried p q to a) (carried p q to b)) where
    pub nodes_by_same : (h : ℕ) → node_count (tests_of p f) h ≡ node_count (tests_of q g) h
    nodes_by_same =
        node_count_same (tests_of p f) (tests_of q g) (carried_argument p q to) (tests_same n heads f g agree) (literal_is n heads f g agree)

    pub warranted_by_same : (h : ℕ) → warranted (tests_of p f) h ≡ warranted (tests_of q g) h
    warranted_by_same =
        warranted_same (tests_of p f) (tests_of q g) (carried_argument p q to) (tests_same n heads f g agree) (literal_is n heads f g agree)

    pub answer_by_same : (h budget : ℕ) → answer_by p f h budget ≡ answer_by q g h budget
    unfolding answer_by
    answer_by_same h budget =
        ap₂ (λ (o : Bool) (m : ℕ). answer_of o (ltb budget m) (warranted (tests_of p f) h) (warranted (tests_of p f) (complement h)) budget m)
        (occurs_same n h) (nodes_by_same h)
        ∙ ap₂ (λ (won lost : Bool). answer_of (occurs q h) (ltb budget (node_count (tests_of q g) h)) won lost budget (node_count (tests_of q g) h))
        (warranted_by_same h) (warranted_by_same (complement h))

  -- at document 01's
  pub nodes_same : (h : ℕ) → node_count (tests p) h ≡ node_count (tests q) h
  nodes_same = nodes_by_same (preferred_test p) (preferred_test q) (preferred_same n)

  pub answers_same : (h budget : ℕ) → answer p h budget ≡ answer q h budget
  answers_same = answer_by_same (preferred_test p) (preferred_test q) (preferred_same n)
