-- The machine's test of a clash in one word: w & (w >> 1) & 0x55.. is not 0.
use mathlib.Core.Path.{◌≡◌, refl, sym, ap, ◌∙◌}
use mathlib.Core.Bool.{Bool, true, not, ◌&&◌}
use mathlib.Core.List.Memᴰ
use mathlib.Core.List.{List, [], ◌∷◌, Memᴰ}
use mathlib.Core.Logic.{⊎_elim}
use Prim.Native.Nat.{ℕ, zero, suc, ◌*◌, ◌/◌, ◌<◌}
use native.Mathlib.Nat.{eq-or-lt_of_le}
use native.Mathlib.Numerals.{add-one}
use native.Mathlib.Omega.{arith}
use lib.Bits.{bit_and}
use lib.Dec.{eqb}
use borrow.Author.Tests.{eqb-false, ne_eqb, not-true}
use Rattle.literals.specs.Sets.{bit, has, insert, insert_all, clash_below}
use Rattle.literals.proofs.Tests.{same_test, and_intro, and_left, and_right}
use Rattle.literals.proofs.Members.{has_some, has_not_empty, has_and, has_half}
use Rattle.literals.proofs.Lists.{insert_all_cases, has_insert_all}
use Rattle.literals.proofs.Clashes.{Pair, clash_pair, pair_clash}

-- 0, 2, .., 2n - 2
evens : ℕ → List ℕ
evens zero = []
evens (suc n) = 2 * n ∷ evens n

even_in : (n a : ℕ) → a < n → Memᴰ (2 * a) (evens n)
unfolding evens
even_in zero a l = absurd (omega arith)
even_in (suc n) a l =
    ⊎_elim (λ e. Memᴰ.head (ap (λ (x : ℕ). 2 * x) e)) (λ h. Memᴰ.tail (even_in n a h))
    (eq-or-lt_of_le {n = a} {m = n} (omega arith))

even_of : (n k : ℕ) → Memᴰ k (evens n) → (a : ℕ) × (a < n) × (k ≡ 2 * a)
unfolding evens
even_of zero k d = absurd (Memᴰ.not-nil d)
even_of (suc n) k d = ⊎_elim (λ e. (n, omega arith, e)) (λ m. more (even_of n k m)) (Memᴰ.cases_cons d)
  where
    more : (a : ℕ) × (a < n) × (k ≡ 2 * a) → (a : ℕ) × (a < suc n) × (k ≡ 2 * a)
    more (a, l, e) = (a, omega arith, e)

abbrev mask : ℕ
mask = 0x5555_5555_5555_5555

mask_evens : insert_all 0 (evens 32) ≡ mask
unfolding evens insert_all insert has bit
mask_evens = refl

even_mask : (a : ℕ) → a < 32 → has mask (2 * a) ≡ true
even_mask a l = ap (λ (x : ℕ). has x (2 * a)) (sym mask_evens) ∙ has_insert_all 0 (evens 32) (2 * a) (even_in 32 a l)

mask_even : (k : ℕ) → has mask k ≡ true → (a : ℕ) × (a < 32) × (k ≡ 2 * a)
mask_even k e =
    ⊎_elim (λ z. absurd (has_not_empty 0 k z refl)) (even_of 32 k)
    (insert_all_cases 0 (evens 32) k (ap (λ (x : ℕ). has x k) mask_evens ∙ e))

-- digit k of it is set exactly if k is even and the digits k and k + 1 of w are set
abbrev pub pairs : ℕ → ℕ
pairs w = bit_and (bit_and w (w / 2)) mask

has_pairs : (w k : ℕ) → has (pairs w) k ≡ ((has w k && has w (suc k)) && has mask k)
has_pairs w k =
    has_and (bit_and w (w / 2)) mask k
    ∙ ap (λ (t : Bool). t && has mask k) (has_and w (w / 2) k ∙ ap (λ (t : Bool). has w k && t) (has_half w k))

pub pairs_clash : (w : ℕ) → not (eqb (pairs w) 0) ≡ clash_below 32 w
pairs_clash w =
    same_test (not (eqb (pairs w) 0)) (clash_below 32 w)
    (λ e. found (has_some (pairs w) (eqb-false (pairs w) 0 (not-true (eqb (pairs w) 0) e))))
    (λ e. ap not (ne_eqb (pairs w) 0 (seen (clash_pair 32 w e))))
  where
    at : (k : ℕ) → (has w k && has w (suc k)) ≡ true → (a : ℕ) × (a < 32) × (k ≡ 2 * a) → clash_below 32 w ≡ true
    at k both (a, l, q) =
        pair_clash 32 w a l (ap (has w) (sym q) ∙ and_left (has w k) (has w (suc k)) both)
        (ap (has w) (add-one (2 * a) ∙ ap suc (sym q)) ∙ and_right (has w k) (has w (suc k)) both)

    found : (k : ℕ) × (has (pairs w) k ≡ true) → clash_below 32 w ≡ true
    found (k, h) =
        let all : ((has w k && has w (suc k)) && has mask k) ≡ true = sym (has_pairs w k) ∙ h in
        at k (and_left (has w k && has w (suc k)) (has mask k) all)
        (mask_even k (and_right (has w k && has w (suc k)) (has mask k) all))

    seen : Pair 32 w → pairs w ≡ 0 → ⊥
    seen (a, l, p, q) =
        has_not_empty (pairs w) (2 * a)
        (has_pairs w (2 * a)
        ∙ and_intro (has w (2 * a) && has w (suc (2 * a))) (has mask (2 * a))
        (and_intro (has w (2 * a)) (has w (suc (2 * a))) p (ap (has w) (sym (add-one (2 * a))) ∙ q)) (even_mask a l))
