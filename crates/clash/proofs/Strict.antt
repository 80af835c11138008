-- The set of the strict rules: its members, and that its rules are Π.
use mathlib.Core.Path.{◌≡◌, refl, sym, ap, ap₂, ◌∙◌}
use mathlib.Core.Bool.{Bool, true, false, not, ◌||◌, false≢true}
use mathlib.Core.List.{List, [], ◌∷◌}
use mathlib.Core.Logic.{◌↔◌}
use Prim.Native.Nat.{ℕ, zero, suc, ◌+◌, ◌<◌, ◌≤◌}
use native.Mathlib.Decide.{dec_lt}
use native.Mathlib.Omega.{arith}
use lib.ListN.{length}
use borrow.Author.Tests.{not-true}
use Rattle.lists.specs.Lists.{choose, keep}
use Rattle.literals.specs.Sets.{has, insert}
use Rattle.literals.proofs.Tests.{same_test}
use Rattle.literals.proofs.Members.{has_ext, has_empty, has_insert_same, has_insert_other}
use Rattle.program.specs.Program.{Kind, strict, defeasible, Rule, is_defeasible, next_bit, rule_at, chosen_from, Π}
use Rattle.clash.specs.Clash.{among_from, among, StrictRule, strict_from, strict_rules}

-- ---- one rule more

pub strict_next : (s i : ℕ) (l : List Rule) (r : Rule)
    → strict_from s i (r ∷ l) ≡ strict_from (choose (is_defeasible r.kind) s (insert s i)) (suc i) l
unfolding strict_from
strict_next s i l r = refl

pub strict_end : (s i : ℕ) → strict_from s i [] ≡ s
unfolding strict_from
strict_end s i = refl

step_other : (k : Kind) (s i j : ℕ) → (j ≡ i → ⊥) → has (choose (is_defeasible k) s (insert s i)) j ≡ has s j
step_other strict s i j n = has_insert_other s i j n
step_other defeasible s i j n = refl

step_same : (k : Kind) (s i : ℕ) → has s i ≡ false → has (choose (is_defeasible k) s (insert s i)) i ≡ not (is_defeasible k)
step_same strict s i e = has_insert_same s i
step_same defeasible s i e = e

-- ---- the members

-- no number from i on is in s
abbrev Low : ℕ → ℕ → Type 0
Low s i = (j : ℕ) → i ≤ j → has s j ≡ false

low_next : (k : Kind) (s i : ℕ) → Low s i → Low (choose (is_defeasible k) s (insert s i)) (suc i)
low_next k s i low j l = step_other k s i j (λ e. absurd (away j e l)) ∙ low j (omega arith)
  where
    away : (j : ℕ) → j ≡ i → suc i ≤ j → ⊥
    away j e l = omega arith

strict_below : (s i : ℕ) (l : List Rule) (j : ℕ) → j < i → has (strict_from s i l) j ≡ has s j
unfolding strict_from
strict_below s i [] j h = refl
strict_below s i (r ∷ l) j h =
    strict_below (choose (is_defeasible r.kind) s (insert s i)) (suc i) l j (omega arith)
    ∙ step_other r.kind s i j (λ e. absurd (away e))
  where
    away : j ≡ i → ⊥
    away e = omega arith

strict_at_lem : (s i : ℕ) (l : List Rule) → Low s i → (j : ℕ) → j < length l
    → has (strict_from s i l) (i + j) ≡ not (is_defeasible (rule_at l j).kind)
unfolding strict_from
strict_at_lem s i [] low j h = absurd (omega arith)
strict_at_lem s i (r ∷ l) low zero h =
    ap (has (strict_from (choose (is_defeasible r.kind) s (insert s i)) (suc i) l)) none
    ∙ strict_below (choose (is_defeasible r.kind) s (insert s i)) (suc i) l i (omega arith)
    ∙ step_same r.kind s i (low i (omega arith))
  where
    none : i + 0 ≡ i
    none = omega arith
strict_at_lem s i (r ∷ l) low (suc j) h =
    ap (has (strict_from (choose (is_defeasible r.kind) s (insert s i)) (suc i) l)) shift
    ∙ strict_at_lem (choose (is_defeasible r.kind) s (insert s i)) (suc i) l (low_next r.kind s i low) j (omega arith)
  where
    shift : i + suc j ≡ suc i + j
    shift = omega arith

strict_past : (s i : ℕ) (l : List Rule) → Low s i → (j : ℕ) → i + length l ≤ j → has (strict_from s i l) j ≡ false
unfolding strict_from
strict_past s i [] low j h = low j (omega arith)
strict_past s i (r ∷ l) low j h =
    strict_past (choose (is_defeasible r.kind) s (insert s i)) (suc i) l (low_next r.kind s i low) j (omega arith)

-- a set that has the strict rules of a list and no other turns them on
among_chosen : (k b i : ℕ) (l : List Rule) → ((j : ℕ) → j < length l → has k (i + j) ≡ not (is_defeasible (rule_at l j).kind))
    → among_from k i l ≡ chosen_from (λ _. false) b l
unfolding among_from chosen_from
among_chosen k b i [] f = refl
among_chosen k b i (r ∷ l) f =
    ap₂ (λ (t : Bool) (rest : List Rule). keep t r rest) (ap (has k) here ∙ f 0 (omega arith) ∙ or_none (not (is_defeasible r.kind)))
    (among_chosen k (next_bit r.kind b) (suc i) l (λ j h. ap (has k) (after j) ∙ f (suc j) (omega arith)))
  where
    here : i ≡ i + 0
    here = omega arith

    after : (j : ℕ) → suc i + j ≡ i + suc j
    after j = omega arith

    or_none : (t : Bool) → t ≡ (t || false)
    or_none true = refl
    or_none false = refl

module _ (rules : List Rule) where
  member_at : (j : ℕ) → j < length rules → has (strict_rules rules) j ≡ not (is_defeasible (rule_at rules j).kind)
  member_at j h = ap (has (strict_rules rules)) none ∙ strict_at_lem 0 0 rules (λ k l. has_empty k) j h
    where
      none : j ≡ 0 + j
      none = omega arith

  pub strict_members : (i : ℕ) → (has (strict_rules rules) i ≡ true) ↔ StrictRule rules i
  strict_members i = (λ e. go (dec_lt i (length rules)) e, λ (l, d). member_at i l ∙ ap not d)
    where
      go : Dec (i < length rules) → has (strict_rules rules) i ≡ true → StrictRule rules i
      go (yes l) e = (l, not-true (is_defeasible (rule_at rules i).kind) (sym (member_at i l) ∙ e))
      go (no l) e = absurd (false≢true (sym (strict_past 0 0 rules (λ k m. has_empty k) i (omega arith)) ∙ e))

  -- and no other set has these members
  pub strict_unique : (s : ℕ) → ((i : ℕ) → (has s i ≡ true) ↔ StrictRule rules i) → s ≡ strict_rules rules
  strict_unique s f =
      has_ext s (strict_rules rules) (λ i.
      same_test (has s i) (has (strict_rules rules) i) (λ e. (strict_members i).1 ((f i).0 e)) (λ e. (f i).1 ((strict_members i).0 e)))

  pub among_strict : among (strict_rules rules) rules ≡ Π rules
  among_strict = among_chosen (strict_rules rules) 0 0 rules (strict_at_lem 0 0 rules (λ k l. has_empty k))
