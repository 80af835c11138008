-- A gathering ends in the closure; each set of rules has one from each given set, and that in at most one round more than
-- literals are added.
use mathlib.Core.Path.{◌≡◌, refl, sym, ap, ◌∙◌, subst}
use mathlib.Core.List.{List, [], ◌∷◌}
use Prim.Native.Nat.{ℕ, zero, suc, ◌+◌, ◌<◌, ◌≤◌}
use native.Mathlib.Decide.{ℕ_discrete}
use native.Mathlib.Omega.{arith}
use lib.Count.{ones}
use lib.ListN.{length, take}
use Rattle.lists.specs.Lists.{choose}
use Rattle.literals.specs.Sets.{has}
use Rattle.literals.proofs.Within.{ones_more}
use Rattle.program.specs.Program.{Rule, rule_at}
use Rattle.derivation.specs.Closure.{fire, round, closure}
use Rattle.derivation.specs.Gathering.{bodies_read, Gathers, last, more}
use Rattle.derivation.proofs.Rounds.{missing, round_within, round_grows}
use Rattle.derivation.proofs.Closures.{closure_fixed, closure_round}

module _ (rules : List Rule) where
  pub gathers_closure : {s r n : ℕ} → Gathers rules s r n → r ≡ closure rules s
  gathers_closure {s} (last e) = sym (closure_fixed rules s e)
  gathers_closure {s} (more f g) = gathers_closure g ∙ closure_round rules s

  -- "rounds, at most one more than the literals derived": than those of them that were not given
  pub gathers_few : {s r n : ℕ} → Gathers rules s r n → n + ones s ≤ ones r + 1
  gathers_few (last e) = omega arith
  gathers_few {s} (more f g) =
      omega (arith, gathers_few g, ones_more s (round rules s) (round_within rules s) (λ e. f (sym e)))

  -- the count is one number
  pub gathers_count : {s r q n m : ℕ} → Gathers rules s r n → Gathers rules s q m → n ≡ m
  gathers_count (last e) (last f) = refl
  gathers_count (last e) (more f g) = absurd (f e)
  gathers_count (more f g) (last e) = absurd (f e)
  gathers_count (more f g) (more h k) = ap suc (gathers_count g k)

  -- and there is one
  pub gathers_some : (s : ℕ) → (n : ℕ) × Gathers rules s (closure rules s) n
  gathers_some s = go (suc (missing s rules)) s (omega arith)
    where
      go : (k s : ℕ) → missing s rules < k → (n : ℕ) × Gathers rules s (closure rules s) n
      go zero s l = absurd (omega arith)
      go (suc k) s l = by (ℕ_discrete (round rules s) s) (go k (round rules s))
        where
          by : Dec (round rules s ≡ s)
              → (missing (round rules s) rules < k → (n : ℕ) × Gathers rules (round rules s) (closure rules (round rules s)) n)
              → (n : ℕ) × Gathers rules s (closure rules s) n
          by (yes e) f = (1, subst (λ (r : ℕ). Gathers rules s r 1) (sym (closure_fixed rules s e)) (last e))
          by (no e) f =
              let (n, g) = f (omega (arith, round_grows rules s e)) in
              (suc n, more e (subst (λ (r : ℕ). Gathers rules (round rules s) r n) (closure_round rules s) g))

-- at the turn of rule i one body more is read exactly if the rules before it have not derived its head
pub read_turn : (rules : List Rule) (s i : ℕ) → i < length rules
    → bodies_read (take (suc i) rules) s
    ≡ bodies_read (take i rules) s + choose (has (round (take i rules) s) (rule_at rules i).head) 0 1
unfolding bodies_read round
read_turn [] s i l = absurd (omega arith)
read_turn (r ∷ rules) s zero l = omega arith
read_turn (r ∷ rules) s (suc i) l =
    step (bodies_read (take i rules) (fire r s)) (choose (has (round (take i rules) (fire r s)) (rule_at rules i).head) 0 1)
    (read_turn rules (fire r s) i (omega arith))
  where
    step : {x : ℕ} (y z : ℕ) → x ≡ y + z → choose {A = ℕ} (has s r.head) 0 1 + x ≡ choose (has s r.head) 0 1 + y + z
    step y z e = omega arith
