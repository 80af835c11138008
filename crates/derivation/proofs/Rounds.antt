-- One round over the rules: what it adds, and how often it can add something.
use mathlib.Core.Path.{◌≡◌, refl, sym, ap, ◌∙◌, subst}
use mathlib.Core.Bool.{Bool, true, false, false≢true}
use mathlib.Core.List.Memᴰ
use mathlib.Core.List.{List, [], ◌∷◌, Memᴰ}
use mathlib.Core.Logic.{◌⊎◌, inl, inr, ⊎_elim}
use Prim.Native.Nat.{ℕ, zero, suc, ◌+◌, ◌≤◌, ◌<◌}
use native.Mathlib.Decide.{ℕ_discrete}
use native.Mathlib.Omega.{arith}
use lib.ListN.{length}
use borrow.Author.Tests.{eq-eqb, ne_eqb}
use Rattle.lists.specs.Lists.{choose}
use Rattle.literals.specs.Sets.{has, insert, has_all, within}
use Rattle.literals.proofs.Members.{has_insert_same, insert_cases}
use Rattle.literals.proofs.Lists.{has_all_each, each_has_all}
use Rattle.literals.proofs.Within.{within_each, each_within, within_refl, within_trans, within_insert, within_antisym, within_lacks}
use Rattle.program.specs.Program.{Rule}
use Rattle.derivation.specs.Closure.{fire, round, rounds}

test_cases : (t : Bool) → (t ≡ true) ⊎ (t ≡ false)
test_cases true = inl refl
test_cases false = inr refl

-- P holds of the head of each rule whose body has P
abbrev pub ClosedUnder : List Rule → (ℕ → Type 0) → Type 0
ClosedUnder rules P = (r : Rule) → Memᴰ r rules → ((b : ℕ) → Memᴰ b r.body → P b) → P r.head

-- a set that has the head of each rule whose body it has
abbrev pub Closed : List Rule → ℕ → Type 0
Closed rules s = ClosedUnder rules (λ k. has s k ≡ true)

-- a rule whose body is there adds its head, another nothing
pub fire_ready : (r : Rule) (s : ℕ) → has_all s r.body ≡ true → fire r s ≡ insert s r.head
unfolding fire
fire_ready r s e = ap (λ (t : Bool). choose t (insert s r.head) s) e

pub fire_waits : (r : Rule) (s : ℕ) → has_all s r.body ≡ false → fire r s ≡ s
unfolding fire
fire_waits r s e = ap (λ (t : Bool). choose t (insert s r.head) s) e

pub fire_within : (r : Rule) (s : ℕ) → within s (fire r s) ≡ true
fire_within r s =
    ⊎_elim (λ e. subst (λ (x : ℕ). within s x ≡ true) (sym (fire_ready r s e)) (within_insert s r.head))
    (λ e. subst (λ (x : ℕ). within s x ≡ true) (sym (fire_waits r s e)) (within_refl s))
    (test_cases (has_all s r.body))

-- what holds of all members, and of the head if the body is there, holds of all members after
fire_ind : (P : ℕ → Type 0) (r : Rule) (s : ℕ) → (has_all s r.body ≡ true → P r.head) → ((k : ℕ) → has s k ≡ true → P k)
    → (k : ℕ) → has (fire r s) k ≡ true → P k
fire_ind P r s f g k h =
    ⊎_elim
    (λ e.
    ⊎_elim (g k) (λ q. subst P (sym q) (f e)) (insert_cases s r.head k (sym (ap (λ (x : ℕ). has x k) (fire_ready r s e)) ∙ h)))
    (λ e. g k (sym (ap (λ (x : ℕ). has x k) (fire_waits r s e)) ∙ h))
    (test_cases (has_all s r.body))

pub round_within : (rules : List Rule) (s : ℕ) → within s (round rules s) ≡ true
unfolding round
round_within [] s = within_refl s
round_within (r ∷ rules) s =
    within_trans s (fire r s) (round rules (fire r s)) (fire_within r s) (round_within rules (fire r s))

-- a predicate that the rules keep is kept by a round
pub round_ind : (P : ℕ → Type 0) (rules : List Rule) (s : ℕ) → ClosedUnder rules P → ((k : ℕ) → has s k ≡ true → P k)
    → (k : ℕ) → has (round rules s) k ≡ true → P k
unfolding round
round_ind P [] s f g = g
round_ind P (r ∷ rules) s f g =
    round_ind P rules (fire r s) (λ q i. f q (Memᴰ.tail i))
    (fire_ind P r s (λ e. f r (Memᴰ.head refl) (λ b d. g b (has_all_each s r.body e b d))) g)

-- a set that a round leaves as it is is closed, and only such a set is
pub round_closed : (rules : List Rule) (s : ℕ) → round rules s ≡ s → Closed rules s
unfolding round
round_closed [] s e r i f = absurd (Memᴰ.not-nil i)
round_closed (q ∷ rules) s e r i f = ⊎_elim here (λ j. round_closed rules s after r j f) (Memᴰ.cases_cons i)
  where
    same : fire q s ≡ s
    same =
        within_antisym (fire q s) s (subst (λ (x : ℕ). within (fire q s) x ≡ true) e (round_within rules (fire q s)))
        (fire_within q s)

    after : round rules s ≡ s
    after = sym (ap (round rules) same) ∙ e

    here : r ≡ q → has s r.head ≡ true
    here p =
        let ready : has_all s q.body ≡ true = ap (λ (x : Rule). has_all s x.body) (sym p) ∙ each_has_all s r.body f in
        ap (λ (x : Rule). has s x.head) p ∙ ap (λ (x : ℕ). has x q.head) (sym same ∙ fire_ready q s ready)
        ∙ has_insert_same s q.head

pub closed_round : (rules : List Rule) (s : ℕ) → Closed rules s → round rules s ≡ s
closed_round rules s c =
    within_antisym (round rules s) s
    (each_within (round rules s) s (round_ind (λ k. has s k ≡ true) rules s c (λ k h. h))) (round_within rules s)

-- how many rules have a head that is not a member
unfoldable pub missing : ℕ → List Rule → ℕ
missing s [] = 0
missing s (r ∷ rules) = choose (has s r.head) 0 1 + missing s rules

absent_le : (a b : Bool) → (a ≡ true → b ≡ true) → choose {A = ℕ} b 0 1 ≤ choose a 0 1
absent_le true true f = omega arith
absent_le true false f = absurd (false≢true (f refl))
absent_le false true f = omega arith
absent_le false false f = omega arith

pub missing_le_length : (s : ℕ) (rules : List Rule) → missing s rules ≤ length rules
unfolding missing
missing_le_length s [] = omega arith
missing_le_length s (r ∷ rules) =
    omega (arith, missing_le_length s rules, absent_le false (has s r.head) (λ e. absurd (false≢true e)))

module _ (s t : ℕ) (w : within s t ≡ true) where
  absent_less : (r : Rule) → choose {A = ℕ} (has t r.head) 0 1 ≤ choose (has s r.head) 0 1
  absent_less r = absent_le (has s r.head) (has t r.head) (within_each s t w r.head)

  pub missing_le : (rules : List Rule) → missing t rules ≤ missing s rules
  unfolding missing
  missing_le [] = omega arith
  missing_le (r ∷ rules) = omega (arith, absent_less r, missing_le rules)

  pub missing_lt : (rules : List Rule) (r : Rule) → Memᴰ r rules → has s r.head ≡ false → has t r.head ≡ true
      → missing t rules < missing s rules
  unfolding missing
  missing_lt [] r i f g = absurd (Memᴰ.not-nil i)
  missing_lt (q ∷ rules) r i f g =
      ⊎_elim here (λ j. omega (arith, absent_less q, missing_lt rules r j f g)) (Memᴰ.cases_cons i)
    where
      here : r ≡ q → choose {A = ℕ} (has t q.head) 0 1 + missing t rules < choose (has s q.head) 0 1 + missing s rules
      here p =
          let now : has t q.head ≡ true = ap (λ (x : Rule). has t x.head) (sym p) ∙ g in
          let before : has s q.head ≡ false = ap (λ (x : Rule). has s x.head) (sym p) ∙ f in
          let a : choose {A = ℕ} (has t q.head) 0 1 ≡ 0 = ap (λ (b : Bool). choose b 0 1) now in
          let b : choose {A = ℕ} (has s q.head) 0 1 ≡ 1 = ap (λ (b : Bool). choose b 0 1) before in
          omega (arith, missing_le rules)

-- a round that adds something adds the head of a rule
pub round_grows : (rules : List Rule) (s : ℕ) → (round rules s ≡ s → ⊥) → missing (round rules s) rules < missing s rules
round_grows rules s n = found (within_lacks s (round rules s) (round_within rules s) (λ e. n (sym e)))
  where
    Known : ℕ → Type 0
    Known k = (has s k ≡ true) ⊎ ((r : Rule) × Memᴰ r rules × (k ≡ r.head))

    origin : (k : ℕ) → has (round rules s) k ≡ true → Known k
    origin = round_ind Known rules s (λ r i f. inr (r, i, refl)) (λ k h. inl h)

    found : (k : ℕ) × (has (round rules s) k ≡ true) × (has s k ≡ false) → missing (round rules s) rules < missing s rules
    found (k, h, l) = ⊎_elim (λ e. absurd (false≢true (sym l ∙ e))) by (origin k h)
      where
        by : (r : Rule) × Memᴰ r rules × (k ≡ r.head) → missing (round rules s) rules < missing s rules
        by (r, i, e) =
            missing_lt s (round rules s) (round_within rules s) rules r i (ap (has s) (sym e) ∙ l)
            (ap (has (round rules s)) (sym e) ∙ h)

-- a round that adds nothing is the last, and after another the rounds go on
pub rounds_stop : (n : ℕ) (rules : List Rule) (s : ℕ) → round rules s ≡ s → rounds n rules s ≡ s
unfolding rounds
rounds_stop zero rules s e = refl
rounds_stop (suc n) rules s e = rw (eq-eqb (round rules s) s e, rounds)

rounds_next : (n : ℕ) (rules : List Rule) (s : ℕ) → (round rules s ≡ s → ⊥) → rounds (suc n) rules s ≡ rounds n rules (round rules s)
unfolding rounds
rounds_next n rules s e = ap (λ (t : Bool). pick t) (ne_eqb (round rules s) s e)
  where
    pick : Bool → ℕ
    pick t = elim t [ true ↦ s | false ↦ rounds n rules (round rules s) ]

-- what a round keeps, the rounds keep
pub rounds_ind : (Q : ℕ → Type 0) (rules : List Rule) → ((s : ℕ) → Q s → Q (round rules s)) → (n s : ℕ) → Q s → Q (rounds n rules s)
unfolding rounds
rounds_ind Q rules f zero s q = q
rounds_ind Q rules f (suc n) s q = go (ℕ_discrete (round rules s) s) (rounds_ind Q rules f n (round rules s) (f s q))
  where
    go : Dec (round rules s ≡ s) → Q (rounds n rules (round rules s)) → Q (rounds (suc n) rules s)
    go (yes e) w = subst Q (sym (rounds_stop (suc n) rules s e)) q
    go (no e) w = subst Q (sym (rounds_next n rules s e)) w

-- with a round for each missing head nothing is left to add
pub rounds_last : (rules : List Rule) (n s : ℕ) → missing s rules ≤ n → round rules (rounds n rules s) ≡ rounds n rules s
rounds_last rules zero s l = out (ℕ_discrete (round rules s) s)
  where
    out : Dec (round rules s ≡ s) → round rules (rounds zero rules s) ≡ rounds zero rules s
    out (yes e) = ap (round rules) (rounds_stop zero rules s e) ∙ e ∙ sym (rounds_stop zero rules s e)
    out (no e) = absurd (omega (arith, round_grows rules s e))
rounds_last rules (suc n) s l = go (ℕ_discrete (round rules s) s) (rounds_last rules n (round rules s))
  where
    go : Dec (round rules s ≡ s)
        → (missing (round rules s) rules ≤ n → round rules (rounds n rules (round rules s)) ≡ rounds n rules (round rules s))
        → round rules (rounds (suc n) rules s) ≡ rounds (suc n) rules s
    go (yes e) f = ap (round rules) (rounds_stop (suc n) rules s e) ∙ e ∙ sym (rounds_stop (suc n) rules s e)
    go (no e) f =
        ap (round rules) (rounds_next n rules s e) ∙ f (omega (arith, round_grows rules s e)) ∙ sym (rounds_next n rules s e)
