-- A literal and its complement in one set: 2a and 2a + 1.
use mathlib.Core.Path.{◌≡◌}
use mathlib.Core.Bool.{true, ◌&&◌, false≢true}
use mathlib.Core.Logic.{⊎_elim}
use Prim.Native.Nat.{ℕ, zero, suc, ◌+◌, ◌*◌, ◌^◌, ◌<◌}
use native.Mathlib.Nat.{eq-or-lt_of_le}
use native.Mathlib.Omega.{arith}
use Rattle.literals.specs.Sets.{has, within, clash_below, clash}
use Rattle.literals.proofs.Tests.{and_intro, and_left, and_right, or_left, or_right, or_cases}
use Rattle.literals.proofs.Members.{has_bound}
use Rattle.literals.proofs.Within.{within_each}

-- an atom below n with both its literals in s
abbrev pub Pair : ℕ → ℕ → Type 0
Pair n s = (a : ℕ) × (a < n) × (has s (2 * a) ≡ true) × (has s (2 * a + 1) ≡ true)

-- the test passes exactly if there is such an atom
pub clash_pair : (n s : ℕ) → clash_below n s ≡ true → Pair n s
unfolding clash_below
clash_pair zero s e = absurd (false≢true e)
clash_pair (suc n) s e =
    ⊎_elim here (λ q. below (clash_pair n s q)) (or_cases (has s (2 * n) && has s (2 * n + 1)) (clash_below n s) e)
  where
    here : (has s (2 * n) && has s (2 * n + 1)) ≡ true → Pair (suc n) s
    here q = (n, omega arith, and_left (has s (2 * n)) (has s (2 * n + 1)) q, and_right (has s (2 * n)) (has s (2 * n + 1)) q)

    below : Pair n s → Pair (suc n) s
    below (a, l, p, q) = (a, omega arith, p, q)

pub pair_clash : (n s a : ℕ) → a < n → has s (2 * a) ≡ true → has s (2 * a + 1) ≡ true → clash_below n s ≡ true
unfolding clash_below
pair_clash zero s a l p q = absurd (omega arith)
pair_clash (suc n) s a l p q =
    ⊎_elim here (λ h. or_right (has s (2 * n) && has s (2 * n + 1)) (clash_below n s) (pair_clash n s a h p q))
    (eq-or-lt_of_le {n = a} {m = n} (omega arith))
  where
    here : a ≡ n → clash_below (suc n) s ≡ true
    here e =
        or_left (has s (2 * n) && has s (2 * n + 1)) (clash_below n s)
        (and_intro (has s (2 * n)) (has s (2 * n + 1)) (rw e at p) (rw e at q))

-- a set of literals has no atom above the 64
pub literals_clash : (s a : ℕ) → s < 2 ^ 128 → has s (2 * a) ≡ true → has s (2 * a + 1) ≡ true → clash s ≡ true
literals_clash s a l p q = pair_clash 64 s a (omega (arith, has_bound s 128 (2 * a) l p)) p q

-- a set with more members clashes all the more
pub clash_mono : (n a b : ℕ) → within a b ≡ true → clash_below n a ≡ true → clash_below n b ≡ true
clash_mono n a b w e =
    let r : Pair n a = clash_pair n a e in
    pair_clash n b r.0 r.1 (within_each a b w (2 * r.0) r.2) (within_each a b w (2 * r.0 + 1) r.3)
