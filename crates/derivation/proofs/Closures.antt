-- The closure is the least set that has the given literals and is closed under the rules; what follows from that alone.
use mathlib.Core.Path.{◌≡◌, sym, ◌∙◌}
use mathlib.Core.Bool.{true, false, false≢true}
use mathlib.Core.List.{List, Memᴰ}
use mathlib.Core.Logic.{◌⊎◌, ⊎_elim}
use Prim.Native.Nat.{ℕ, ◌^◌, ◌<◌}
use Rattle.literals.specs.Sets.{has, has_all, within}
use Rattle.literals.proofs.Members.{has_bound, members_below}
use Rattle.literals.proofs.Lists.{each_has_all}
use Rattle.literals.proofs.Within.{within_each, each_within, within_refl, within_trans, within_antisym}
use Rattle.program.specs.Program.{Rule}
use Rattle.derivation.specs.Derivation.{HeadsBelow}
use Rattle.derivation.specs.Closure.{round, enough, closure}
use Rattle.derivation.proofs.Rounds.{ClosedUnder, Closed, round_within, round_ind, round_closed}
use Rattle.derivation.proofs.Rounds.{missing_le_length, rounds_stop, rounds_ind, rounds_last}

module _ (rules : List Rule) where
  -- a predicate of the given literals that the rules keep holds of all that is derived
  pub closure_ind : (P : ℕ → Type 0) (s : ℕ) → ClosedUnder rules P → ((k : ℕ) → has s k ≡ true → P k)
      → (k : ℕ) → has (closure rules s) k ≡ true → P k
  unfolding closure
  closure_ind P s c g =
      rounds_ind (λ (x : ℕ). (k : ℕ) → has x k ≡ true → P k) rules (λ x h. round_ind P rules x c h) (enough rules) s g

  pub closure_contains : (s : ℕ) → within s (closure rules s) ≡ true
  unfolding closure
  closure_contains s =
      rounds_ind (λ (x : ℕ). within s x ≡ true) rules (λ x h. within_trans s x (round rules x) h (round_within rules x))
      (enough rules) s (within_refl s)

  -- one more round adds nothing
  pub closure_last : (s : ℕ) → round rules (closure rules s) ≡ closure rules s
  unfolding closure
  closure_last s = rounds_last rules (enough rules) s (missing_le_length s rules)

  pub closure_closed : (s : ℕ) → Closed rules (closure rules s)
  closure_closed s = round_closed rules (closure rules s) (closure_last s)

  pub closure_least : (s c : ℕ) → within s c ≡ true → Closed rules c → within (closure rules s) c ≡ true
  closure_least s c w h =
      each_within (closure rules s) c (closure_ind (λ (k : ℕ). has c k ≡ true) s h (within_each s c w))

  pub closure_fixed : (s : ℕ) → round rules s ≡ s → closure rules s ≡ s
  unfolding closure
  closure_fixed s e = rounds_stop (enough rules) rules s e

  pub closure_idempotent : (s : ℕ) → closure rules (closure rules s) ≡ closure rules s
  closure_idempotent s = closure_fixed (closure rules s) (closure_last s)

  -- derived literals that are given besides derive nothing new
  pub closure_cut : (s t : ℕ) → within s t ≡ true → within t (closure rules s) ≡ true → closure rules t ≡ closure rules s
  closure_cut s t v w =
      within_antisym (closure rules t) (closure rules s) (closure_least t (closure rules s) w (closure_closed s))
      (closure_least s (closure rules t) (within_trans s t (closure rules t) v (closure_contains t)) (closure_closed t))

  pub closure_round : (s : ℕ) → closure rules (round rules s) ≡ closure rules s
  closure_round s =
      closure_cut s (round rules s) (round_within rules s)
      (each_within (round rules s) (closure rules s)
      (round_ind (λ (k : ℕ). has (closure rules s) k ≡ true) rules s (closure_closed s)
      (within_each s (closure rules s) (closure_contains s))))

  pub closure_below : (n s : ℕ) → HeadsBelow n rules → s < 2 ^ n → closure rules s < 2 ^ n
  closure_below n s h l =
      members_below n (closure rules s) (closure_ind (λ (k : ℕ). k < n) s (λ r i f. h r i) (λ k e. has_bound s n k l e))

-- two lists of rules, the first within the second
module _ (rules more : List Rule) (sub : (r : Rule) → Memᴰ r rules → Memᴰ r more) where
  pub closure_mono : (s t : ℕ) → within s t ≡ true → within (closure rules s) (closure more t) ≡ true
  closure_mono s t w =
      closure_least rules s (closure more t) (within_trans s t (closure more t) w (closure_contains more t))
      (λ r i f. closure_closed more t r (sub r i) f)

  -- rules whose body is not derived without them add nothing
  pub closure_idle : (s : ℕ)
      → ((r : Rule) → Memᴰ r more → Memᴰ r rules ⊎ (has_all (closure rules s) r.body ≡ false))
      → closure more s ≡ closure rules s
  closure_idle s idle =
      within_antisym (closure more s) (closure rules s)
      (closure_least more s (closure rules s) (closure_contains rules s) (λ r i f.
      ⊎_elim (λ j. closure_closed rules s r j f)
      (λ e. absurd (false≢true (sym e ∙ each_has_all (closure rules s) r.body f))) (idle r i)))
      (closure_mono s s (within_refl s))

  -- rules whose head is given besides are not needed
  pub closure_given : (s t : ℕ) → within s t ≡ true → within t (closure more s) ≡ true
      → ((r : Rule) → Memᴰ r more → Memᴰ r rules ⊎ (has t r.head ≡ true)) → closure rules t ≡ closure more s
  closure_given s t v w given =
      within_antisym (closure rules t) (closure more s)
      (closure_least rules t (closure more s) w (λ r i f. closure_closed more s r (sub r i) f))
      (closure_least more s (closure rules t) (within_trans s t (closure rules t) v (closure_contains rules t)) (λ r i f.
      ⊎_elim (λ j. closure_closed rules t r j f) (within_each t (closure rules t) (closure_contains rules t) r.head)
      (given r i)))

-- lists with the same rules derive the same
pub closure_same_rules : (a b : List Rule) → ((r : Rule) → Memᴰ r a → Memᴰ r b)
    → ((r : Rule) → Memᴰ r b → Memᴰ r a) → (s : ℕ) → closure a s ≡ closure b s
closure_same_rules a b f g s =
    within_antisym (closure a s) (closure b s) (closure_mono a b f s s (within_refl s)) (closure_mono b a g s s (within_refl s))
