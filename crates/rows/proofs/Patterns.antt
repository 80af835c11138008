-- In which masks from 64 w on a need is: bit b of the mask 64 w + k is bit b of k, or bit b - 6 of w.
use mathlib.Core.Path.{◌≡◌, refl, sym, ap, ◌∙◌, subst}
use mathlib.Core.Bool.{Bool, true, false, not, ◌&&◌, false≢true}
use mathlib.Core.Logic.{⊎_elim}
use Prim.Native.Nat.{ℕ, zero, suc, ◌+◌, ◌-◌, ◌*◌, ◌/◌, ◌%◌, ◌^◌, ◌<◌}
use native.Mathlib.Nat.{eq-or-lt_of_le}
use native.Mathlib.Decide.{dec_lt}
use native.Mathlib.Omega.{arith}
use lib.Bits.{bit_and}
use lib.Dec.{eqb}
use lib.ListN.{get_or}
use lib.Pow.{pow-add, pow-lt, pow_pos}
use borrow.Author.Tests.{eqb-true}
use Rattle.literals.specs.Sets.{bit, has, within}
use Rattle.literals.proofs.Tests.{and_intro, and_left, and_right}
use Rattle.literals.proofs.Bits.{bit_low, bit_high}
use Rattle.literals.proofs.Members.{has_and, has_power}
use Rattle.literals.proofs.Within.{within_each, each_within, within_empty}
use Rattle.program.specs.Program.{Kind, strict, defeasible}
use Rattle.program.specs.Inside.Table.{need_of}
use Rattle.derivation.proofs.Tables.{need_chosen}
use Rattle.rows.specs.Steps.{LowWord}
use Rattle.rows.specs.declared.TheConstants.{PLACES}

-- the first n digits of x are those that f says
alike : Bool → Bool → Bool
alike true b = b
alike false b = not b

alike_same : (a b : Bool) → alike a b ≡ true → a ≡ b
unfolding alike
alike_same true true e = refl
alike_same true false e = absurd (false≢true e)
alike_same false true e = absurd (false≢true e)
alike_same false false e = refl

unfoldable agree : ℕ → (ℕ → Bool) → ℕ → Bool
unfolding alike has
agree x f zero = true
agree x f (suc n) = alike (has x n) (f n) && agree x f n

agree_at : (x : ℕ) (f : ℕ → Bool) (n k : ℕ) → agree x f n ≡ true → k < n → has x k ≡ f k
unfolding agree
agree_at x f zero k e h = absurd (omega arith)
agree_at x f (suc n) k e h =
    ⊎_elim (λ q. subst (λ (j : ℕ). has x j ≡ f j) (sym q) (alike_same (has x n) (f n) (and_left (alike (has x n) (f n)) (agree x f n) e)))
    (λ l. agree_at x f n k (and_right (alike (has x n) (f n)) (agree x f n) e) l)
    (eq-or-lt_of_le {n = k} {m = n} (omega arith))

-- the bits of a mask, from its place in the word and from the block's number
pub has_place : (w k b : ℕ) → b < 6 → has (64 * w + k) b ≡ has k b
unfolding has
has_place w k b h =
    let e : 64 * w + k ≡ w * 2 ^ 6 + k = omega arith in
    ap (λ (x : ℕ). eqb x 1) (ap (λ (x : ℕ). bit x b) e ∙ bit_low w k 6 b h)

pub has_block : (w k b : ℕ) → k < 64 → has (64 * w + k) (6 + b) ≡ has w b
unfolding has
has_block w k b h =
    let e : 64 * w + k ≡ w * 2 ^ 6 + k = omega arith in
    ap (λ (x : ℕ). eqb x 1) (ap (λ (x : ℕ). bit x (6 + b)) e ∙ bit_high w k 6 b h)

-- the places with one of the six lowest bits
agree_places : (b : ℕ) → b < 6 → agree (get_or PLACES b 0) (λ k. has k b) 64 ≡ true
unfolding agree has bit alike
agree_places zero h = refl
agree_places (suc zero) h = refl
agree_places (suc (suc zero)) h = refl
agree_places (suc (suc (suc zero))) h = refl
agree_places (suc (suc (suc (suc zero)))) h = refl
agree_places (suc (suc (suc (suc (suc zero))))) h = refl
agree_places (suc (suc (suc (suc (suc (suc b)))))) h = absurd (omega arith)

pub place_at : (b k : ℕ) → b < 6 → k < 64 → has (get_or PLACES b 0) k ≡ has k b
place_at b k h l = agree_at (get_or PLACES b 0) (λ i. has i b) 64 k (agree_places b h) l

all_place : agree 18446744073709551615 (λ k. true) 64 ≡ true
unfolding agree has bit alike
all_place = refl

-- a power of two, by what it has of the six lowest bits
power_low : (b : ℕ) → b < 6 → 2 ^ b % 64 ≡ 2 ^ b
power_low b h = let small : 2 ^ b < 2 ^ 6 = pow-lt h in omega arith

power_high : (b : ℕ) → (b < 6 → ⊥) → 2 ^ b ≡ 64 * 2 ^ (b - 6)
power_high b n =
    let j : b ≡ 6 + (b - 6) = omega arith in
    ap (λ (x : ℕ). 2 ^ x) j ∙ pow-add 2 6 (b - 6)

-- a need of one of the six lowest bits
pub chooses_place : (need l : ℕ) → (need % 64 ≡ 0 → ⊥) → has (need % 64) l ≡ true → (kind : Kind) (b : ℕ) → need ≡ need_of kind b
    → LowWord need (get_or PLACES l 0)
chooses_place need l some member strict b e w k t h = absurd (some (ap (λ (x : ℕ). x % 64) e))
chooses_place need l some member defeasible b e w k t h = go (dec_lt b 6)
  where
    go : Dec (b < 6) → has (get_or PLACES l 0) k ≡ within need (64 * w + k)
    go (yes q) =
        let low : need % 64 ≡ 2 ^ b = ap (λ (x : ℕ). x % 64) e ∙ power_low b q in
        let same : l ≡ b = eqb-true l b (sym (has_power b l) ∙ ap (λ (x : ℕ). has x l) (sym low) ∙ member) in
        ap (λ (i : ℕ). has (get_or PLACES i 0) k) same ∙ place_at b k q h ∙ sym (has_place w k b q)
        ∙ sym (need_chosen defeasible b (64 * w + k)) ∙ ap (λ (n : ℕ). within n (64 * w + k)) (sym e)
    go (no n) = absurd (some (omega (arith, e, power_high b n)))

-- a need above the lowest six bits
high : (need b : ℕ) → has need (6 + b) ≡ has (need / 64) b
high need b =
    let e : 64 * (need / 64) + need % 64 ≡ need = omega arith in
    ap (λ (x : ℕ). has x (6 + b)) (sym e) ∙ has_block (need / 64) (need % 64) b (omega arith)

-- a need of none of them: strict, or of a bit of the block's number
pub chooses_all : (need : ℕ) → need % 64 ≡ 0 → (kind : Kind) (b : ℕ) → need ≡ need_of kind b → LowWord need 18446744073709551615
chooses_all need none strict b e w k t h =
    agree_at 18446744073709551615 (λ i. true) 64 k all_place h ∙ sym (ap (λ (x : ℕ). within x (64 * w + k)) e ∙ within_empty (64 * w + k))
chooses_all need none defeasible b e w k t h = go (dec_lt b 6)
  where
    go : Dec (b < 6) → has 18446744073709551615 k ≡ within need (64 * w + k)
    go (yes q) = absurd (omega (arith, e, power_low b q, pow_pos b))
    go (no n) =
        let j : b ≡ 6 + (b - 6) = omega arith in
        let above : need / 64 ≡ 2 ^ (b - 6) = omega (arith, e, power_high b n) in
        let there : has w (b - 6) ≡ true = sym (need_chosen defeasible (b - 6) w) ∙ ap (λ (x : ℕ). within x w) (sym above) ∙ t in
        agree_at 18446744073709551615 (λ i. true) 64 k all_place h
        ∙ sym
        (ap (λ (x : ℕ). within x (64 * w + k)) e ∙ need_chosen defeasible b (64 * w + k) ∙ ap (has (64 * w + k)) j
        ∙ has_block w k (b - 6) h ∙ there)

-- where the need is within a mask, what it has above the lowest six bits is within the mask's word number
pub need_word : (need w k : ℕ) → k < 64 → within need (64 * w + k) ≡ true → within (need / 64) w ≡ true
need_word need w k h i =
    each_within (need / 64) w (λ b e. sym (has_block w k b h) ∙ within_each need (64 * w + k) i (6 + b) (high need b ∙ e))

-- and it is within the mask with that number cut down, if what is cut away is not needed
pub need_cut : (need w f k : ℕ) → k < 64 → within (need / 64) f ≡ true → within need (64 * w + k) ≡ true
    → within need (64 * bit_and w f + k) ≡ true
need_cut need w f k h kept i = each_within need (64 * bit_and w f + k) (λ b e. go b e (dec_lt b 6))
  where
    go : (b : ℕ) → has need b ≡ true → Dec (b < 6) → has (64 * bit_and w f + k) b ≡ true
    go b e (yes q) = has_place (bit_and w f) k b q ∙ sym (has_place w k b q) ∙ within_each need (64 * w + k) i b e
    go b e (no q) =
        let j : 6 + (b - 6) ≡ b = omega arith in
        let there : has w (b - 6) ≡ true
        = sym (has_block w k (b - 6) h) ∙ ap (has (64 * w + k)) j ∙ within_each need (64 * w + k) i b e in
        let kept_here : has f (b - 6) ≡ true = within_each (need / 64) f kept (b - 6) (sym (high need (b - 6)) ∙ ap (has need) j ∙ e) in
        ap (has (64 * bit_and w f + k)) (sym j) ∙ has_block (bit_and w f) k (b - 6) h ∙ has_and w f (b - 6)
        ∙ and_intro (has w (b - 6)) (has f (b - 6)) there kept_here

-- with a greater word number the mask has more
pub mask_more : (v w k : ℕ) → k < 64 → within v w ≡ true → within (64 * v + k) (64 * w + k) ≡ true
mask_more v w k h i = each_within (64 * v + k) (64 * w + k) (λ b e. go b e (dec_lt b 6))
  where
    go : (b : ℕ) → has (64 * v + k) b ≡ true → Dec (b < 6) → has (64 * w + k) b ≡ true
    go b e (yes q) = has_place w k b q ∙ sym (has_place v k b q) ∙ e
    go b e (no q) =
        let j : 6 + (b - 6) ≡ b = omega arith in
        let there : has v (b - 6) ≡ true = sym (has_block v k (b - 6) h) ∙ ap (has (64 * v + k)) j ∙ e in
        ap (has (64 * w + k)) (sym j) ∙ has_block w k (b - 6) h ∙ within_each v w i (b - 6) there

-- a word of all 64 places
pub has_all : (k : ℕ) → k < 64 → has 18446744073709551615 k ≡ true
has_all k h = agree_at 18446744073709551615 (λ i. true) 64 k all_place h
