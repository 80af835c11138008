-- The minimal masks of a word: cut by the words without one bit of its number, and by its own places without one bit.
use mathlib.Core.Path.{◌≡◌, refl, sym, ap, ap₂, ◌∙◌, subst}
use mathlib.Core.Bool.{Bool, true, false, not, ◌&&◌, ◌||◌, false≢true}
use mathlib.Core.Logic.{⊎_elim}
use Prim.Native.Nat.{ℕ, zero, suc, ◌+◌, ◌-◌, ◌*◌, ◌/◌, ◌%◌, ◌^◌, ◌<◌, ◌≤◌}
use native.Mathlib.Nat.{eq-or-lt_of_le}
use native.Mathlib.Decide.{dec_lt, ℕ_discrete}
use native.Mathlib.Omega.{arith}
use lib.Dec.{eqb}
use lib.Pow.{pow-add}
use borrow.Author.Tests.{ne_eqb}
use Rattle.literals.specs.Sets.{has, minus}
use Rattle.literals.proofs.Tests.{and_intro, and_left, and_right, not_true_false}
use Rattle.literals.proofs.Bits.{bit_le}
use Rattle.literals.proofs.Members.{has_bit, has_empty, has_minus, has_minus_power, minus_power}
use Rattle.rows.proofs.Patterns.{has_place, has_block}
use Rattle.minima.specs.Minima.{row_by, Minimal, Minima}
use Rattle.minima.specs.Steps.{Cut, less_below}

off : (t : Bool) → not t ≡ true → t ≡ false
off true z = absurd (false≢true z)
off false z = refl

-- no bit of the number left, and one more
pub cut_none : (f : ℕ → ℕ) (i left s x : ℕ) → left ≡ 0 → x ≡ s → Cut f i left s x
cut_none f i left s x e q = rw (e, q) (record {
  started = λ k h. h;
  each = λ k h c m. absurd (false≢true (sym (has_empty c) ∙ m));
  passes = λ k h g. h;
})

module _ (f : ℕ → ℕ) (i left s c : ℕ) (member : has left c ≡ true) where
  abbrev gone : ℕ
  gone = f (minus i (2 ^ c))

  both : (k : ℕ) → has (minus s gone) k ≡ true → (has s k ≡ true) × (has gone k ≡ false)
  both k h =
      let e : (has s k && not (has gone k)) ≡ true = sym (has_minus s gone k) ∙ h in
      (and_left (has s k) (not (has gone k)) e, off (has gone k) (and_right (has s k) (not (has gone k)) e))

  pub cut_more : (x : ℕ) → Cut f i (minus left (2 ^ c)) (minus s (f (minus i (2 ^ c)))) x → Cut f i left s x
  cut_more x m = record {
    started = λ k h. (both k (m.started k h)).0;
    each = λ k h j g. at k h j g (ℕ_discrete j c);
    passes = λ k h g.
        m.passes k (has_minus s gone k ∙ and_intro (has s k) (not (has gone k)) h (ap not (g c member)))
        (λ j q. g j (and_left (has left j) (not (eqb j c)) (sym (has_minus_power left c j) ∙ q)));
  }
    where
      at : (k : ℕ) → has x k ≡ true → (j : ℕ) → has left j ≡ true → Dec (j ≡ c) → has (f (minus i (2 ^ j))) k ≡ false
      at k h j g (yes e) = ap (λ (b : ℕ). has (f (minus i (2 ^ b))) k) e ∙ (both k (m.started k h)).1
      at k h j g (no n) =
          m.each k h j (has_minus_power left c j ∙ and_intro (has left j) (not (eqb j c)) g (ap not (ne_eqb j c n)))

-- the masks of word i, without one bit
row_here : (f : ℕ → ℕ) (i k : ℕ) → k < 64 → row_by f (64 * i + k) ≡ has (f i) k
row_here f i k h =
    let w : (64 * i + k) / 64 ≡ i = omega arith in
    let p : (64 * i + k) % 64 ≡ k = omega arith in
    ap₂ (λ (x y : ℕ). has (f x) y) w p

row_place : (f : ℕ → ℕ) (i k b : ℕ) → k < 64 → b < 6 → has k b ≡ true → row_by f (minus (64 * i + k) (2 ^ b)) ≡ has (f i) (minus k (2 ^ b))
row_place f i k b h few e =
    let small : minus k (2 ^ b) ≡ k - 2 ^ b = minus_power k b e in
    let big : minus (64 * i + k) (2 ^ b) ≡ 64 * i + k - 2 ^ b = minus_power (64 * i + k) b (has_place i k b few ∙ e) in
    let low : 2 ^ b ≤ k = bit_le k b (has_bit k b e) in
    let same : minus (64 * i + k) (2 ^ b) ≡ 64 * i + minus k (2 ^ b) = omega arith in
    let fits : minus k (2 ^ b) < 64 = omega arith in
    ap (row_by f) same ∙ row_here f i (minus k (2 ^ b)) fits

row_block : (f : ℕ → ℕ) (i k c : ℕ) → k < 64 → has i c ≡ true → row_by f (minus (64 * i + k) (2 ^ (6 + c))) ≡ has (f (minus i (2 ^ c))) k
row_block f i k c h e =
    let power : 2 ^ (6 + c) ≡ 2 ^ 6 * 2 ^ c = pow-add 2 6 c in
    let small : minus i (2 ^ c) ≡ i - 2 ^ c = minus_power i c e in
    let big : minus (64 * i + k) (2 ^ (6 + c)) ≡ 64 * i + k - 2 ^ (6 + c) = minus_power (64 * i + k) (6 + c) (has_block i k c h ∙ e) in
    let low : 2 ^ c ≤ i = bit_le i c (has_bit i c e) in
    let same : minus (64 * i + k) (2 ^ (6 + c)) ≡ 64 * minus i (2 ^ c) + k = omega arith in
    ap (row_by f) same ∙ row_here f (minus i (2 ^ c)) k h

-- a place that is not in x without one of its bits
neither : (a b : Bool) → (a || b) ≡ false → (a ≡ false) × (b ≡ false)
neither true b e = absurd (false≢true (sym e))
neither false b e = (refl, e)

less_each : (x k n b : ℕ) → b < n → less_below x k n ≡ false → has k b ≡ true → has x (minus k (2 ^ b)) ≡ false
unfolding less_below
less_each x k zero b h e g = absurd (omega arith)
less_each x k (suc n) b h e g =
    let p = neither (has k n && has x (minus k (2 ^ n))) (less_below x k n) e in
    ⊎_elim
    (λ q.
    not_true_false (has x (minus k (2 ^ b))) (λ t.
    false≢true
    (sym p.0
    ∙ and_intro (has k n) (has x (minus k (2 ^ n))) (ap (has k) (sym q) ∙ g) (ap (λ (j : ℕ). has x (minus k (2 ^ j))) (sym q) ∙ t))))
    (λ l. less_each x k n b l p.1 g) (eq-or-lt_of_le {n = b} {m = n} (omega arith))

less_none : (x k n : ℕ) → ((b : ℕ) → b < n → has k b ≡ true → has x (minus k (2 ^ b)) ≡ false) → less_below x k n ≡ false
unfolding less_below
less_none x k zero g = refl
less_none x k (suc n) g =
    ap₂ ◌||◌
    (not_true_false (has k n && has x (minus k (2 ^ n))) (λ t.
    false≢true
    (sym (g n (omega arith) (and_left (has k n) (has x (minus k (2 ^ n))) t))
    ∙ and_right (has k n) (has x (minus k (2 ^ n))) t)))
    (less_none x k n (λ b h. g b (omega arith)))

-- a minimal mask is not cut away
cut_kept : (f : ℕ → ℕ) (i x : ℕ) → Cut f i i (f i) x → (k : ℕ) → k < 64 → Minimal f (64 * i + k) → has x k ≡ true
cut_kept f i x cut k h m =
    cut.passes k (sym (row_here f i k h) ∙ m.set_at) (λ c g.
    sym (row_block f i k c h g) ∙ m.none_less_lem (6 + c) (has_block i k c h ∙ g))

-- where nothing is left there is no minimal mask, whatever words are left
pub minima_none : (f : ℕ → ℕ) (i left x : ℕ) → x ≡ 0 → ((r : ℕ) → Cut f i left x r → Cut f i i (f i) r) → Minima f i 0
minima_none f i left x z cuts = record {
  says = λ k h e. absurd (false≢true (sym (has_empty k) ∙ e));
  passes = cut_kept f i 0 (cuts 0 (rw z (record {
    started = λ k h. h;
    each = λ k h c m. absurd (false≢true (sym (has_empty k) ∙ h));
    passes = λ k h g. h;
  })));
}

module _ (f : ℕ → ℕ) (i x low : ℕ) (lowered : (k : ℕ) → k < 64 → has low k ≡ less_below (f i) k 6) (cut : Cut f i i (f i) x) where
  pub minima : Minima f i (minus x low)
  minima = record { says = says_it; passes = passes_it }
    where
      says_it : (k : ℕ) → k < 64 → has (minus x low) k ≡ true → Minimal f (64 * i + k)
      says_it k h e = record { set_at = row_here f i k h ∙ cut.started k p.0; none_less_lem = λ b g. at b g (dec_lt b 6) }
        where
          p : (has x k ≡ true) × (has low k ≡ false)
          p =
              let q : (has x k && not (has low k)) ≡ true = sym (has_minus x low k) ∙ e in
              (and_left (has x k) (not (has low k)) q, off (has low k) (and_right (has x k) (not (has low k)) q))

          at : (b : ℕ) → has (64 * i + k) b ≡ true → Dec (b < 6) → row_by f (minus (64 * i + k) (2 ^ b)) ≡ false
          at b g (yes q) =
              let there : has k b ≡ true = sym (has_place i k b q) ∙ g in
              row_place f i k b h q there ∙ less_each (f i) k 6 b q (sym (lowered k h) ∙ p.1) there
          at b g (no q) =
              let j : 6 + (b - 6) ≡ b = omega arith in
              let there : has i (b - 6) ≡ true = sym (has_block i k (b - 6) h) ∙ ap (has (64 * i + k)) j ∙ g in
              subst (λ (n : ℕ). row_by f (minus (64 * i + k) (2 ^ n)) ≡ false) j
              (row_block f i k (b - 6) h there ∙ cut.each k p.0 (b - 6) there)

      passes_it : (k : ℕ) → k < 64 → Minimal f (64 * i + k) → has (minus x low) k ≡ true
      passes_it k h m =
          has_minus x low k ∙ and_intro (has x k) (not (has low k)) (cut_kept f i x cut k h m) (ap not (lowered k h ∙ none))
        where
          none : less_below (f i) k 6 ≡ false
          none =
              less_none (f i) k 6 (λ b q g. sym (row_place f i k b h q g) ∙ m.none_less_lem b (has_place i k b q ∙ g))
