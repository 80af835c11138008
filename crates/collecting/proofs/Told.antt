-- What the table tells of arguments: the minimal masks of a row that are not contradictory, all of them in words that the row
-- spans, and for the program of the table the arguments.
use mathlib.Core.Path.{◌≡◌, refl, sym, ap, ap₂, ◌∙◌, subst}
use mathlib.Core.Bool.{Bool, true, false, not, ◌&&◌, false≢true}
use mathlib.Core.List.{List}
use mathlib.Core.Logic.{◌⊎◌, inl, inr, ⊎_elim}
use Prim.Native.Nat.{ℕ, zero, suc, ◌+◌, ◌-◌, ◌*◌, ◌/◌, ◌%◌, ◌^◌, ◌<◌, ◌≤◌}
use native.Mathlib.Nat.{eq-or-lt_of_le}
use native.Mathlib.Decide.{ℕ_discrete}
use native.Mathlib.Omega.{arith}
use lib.Bits.{bit_and}
use lib.Dec.{eqb}
use lib.ListN.{get_or}
use lib.Pow.{pow-add}
use borrow.Author.Tests.{ne_eqb}
use Rattle.literals.specs.Sets.{has, minus, within}
use Rattle.literals.proofs.Tests.{same_test, and_intro, and_left, and_right}
use Rattle.literals.proofs.Bits.{bit_le}
use Rattle.literals.proofs.Members.{has_bit, has_bound, has_ext, has_and, has_minus, has_minus_power, minus_power, has_cases}
use Rattle.literals.proofs.Within.{each_within, within_le}
use Rattle.program.specs.Program.{Rule}
use Rattle.derivation.specs.Derivation.{HeadsBelow}
use Rattle.argument.specs.Argument.{Argument}
use Rattle.argument.proofs.Minimal.{argument_by_one, argument_derives, argument_coherent, argument_needs}
use Rattle.minima.specs.Minima.{Minimal, Minima}
use Rattle.closures.specs.Inside.Table.{begins_at, keeps_at, word_at, tells, Laid, Tells}
use Rattle.closures.proofs.Readings.{has_word, row_at}
use Rattle.collecting.specs.Inside.Columns.{none_less, argues, Word}

pub off : (t : Bool) → not t ≡ true → t ≡ false
off true z = absurd (false≢true z)
off false z = refl

pub on : (t : Bool) → not t ≡ false → t ≡ true
on true z = refl
on false z = absurd (false≢true (sym z))

not_both : (a b : Bool) → not (a && b) ≡ true → a ≡ true → b ≡ false
not_both true b e h = off b e
not_both false b e h = absurd (false≢true h)

both_not : (a b : Bool) → (a ≡ true → b ≡ false) → not (a && b) ≡ true
both_not true b f = ap not (f refl)
both_not false b f = refl

module _ (row : ℕ → Bool) (m : ℕ) where
  none_less_each : (n : ℕ) → none_less row m n ≡ true → (b : ℕ) → b < n → has m b ≡ true → row (minus m (2 ^ b)) ≡ false
  unfolding none_less
  none_less_each zero e b l h = absurd (omega arith)
  none_less_each (suc n) e b l h =
      ⊎_elim
      (λ q.
      subst (λ (x : ℕ). has m x ≡ true → row (minus m (2 ^ x)) ≡ false) (sym q)
      (not_both (has m n) (row (minus m (2 ^ n))) (and_left this (none_less row m n) e)) h)
      (λ q. none_less_each n (and_right this (none_less row m n) e) b q h) (eq-or-lt_of_le {n = b} {m = n} (omega arith))
    where
      this : Bool
      this = not (has m n && row (minus m (2 ^ n)))

  each_none_less : (n : ℕ) → ((b : ℕ) → has m b ≡ true → row (minus m (2 ^ b)) ≡ false) → none_less row m n ≡ true
  unfolding none_less
  each_none_less zero f = refl
  each_none_less (suc n) f =
      and_intro (not (has m n && row (minus m (2 ^ n)))) (none_less row m n) (both_not (has m n) (row (minus m (2 ^ n))) (f n))
      (each_none_less n f)

module _ (t : List ℕ) (m l : ℕ) where
  pub argues_minimal : m < 65536 → argues t m l ≡ true → Minimal (word_at t l) m × (tells t 128 m ≡ false)
  unfolding argues
  argues_minimal small e =
      let rest = and_right (tells t l m) (not (tells t 128 m) && none_less (tells t l) m 16) e in (
        record {
          set_at = and_left (tells t l m) (not (tells t 128 m) && none_less (tells t l) m 16) e;
          none_less_lem = λ b h.
              none_less_each (tells t l) m 16 (and_right (not (tells t 128 m)) (none_less (tells t l) m 16) rest) b
              (has_bound m 16 b small h) h;
        },
        off (tells t 128 m) (and_left (not (tells t 128 m)) (none_less (tells t l) m 16) rest),
      )

  pub minimal_argues : Minimal (word_at t l) m → tells t 128 m ≡ false → argues t m l ≡ true
  unfolding argues
  minimal_argues least clear =
      and_intro (tells t l m) (not (tells t 128 m) && none_less (tells t l) m 16) least.set_at
      (and_intro (not (tells t 128 m)) (none_less (tells t l) m 16) (ap not clear) (each_none_less (tells t l) m 16 least.none_less_lem))

  -- what is minimal has its word among those that the row spans: the others repeat them
  minimal_kept : Minimal (word_at t l) m → within (m / 64) (keeps_at t l) ≡ true
  minimal_kept least = each_within (m / 64) (keeps_at t l) (λ c e. ⊎_elim (λ q. q) (λ q. absurd (without c e q)) (has_cases (keeps_at t l) c))
    where
      without : (c : ℕ) → has (m / 64) c ≡ true → has (keeps_at t l) c ≡ false → ⊥
      without c e q = false≢true (sym (least.none_less_lem (6 + c) member) ∙ same ∙ least.set_at)
        where
          member : has m (6 + c) ≡ true
          member = has_word m c ∙ e

          n : ℕ
          n = minus m (2 ^ (6 + c))

          parts : (n / 64 ≡ minus (m / 64) (2 ^ c)) × (n % 64 ≡ m % 64)
          parts =
              let power : 2 ^ (6 + c) ≡ 2 ^ 6 * 2 ^ c = pow-add 2 6 c in
              let big : minus m (2 ^ (6 + c)) ≡ m - 2 ^ (6 + c) = minus_power m (6 + c) member in
              let word : minus (m / 64) (2 ^ c) ≡ m / 64 - 2 ^ c = minus_power (m / 64) c e in
              let low : 2 ^ c ≤ m / 64 = bit_le (m / 64) c (has_bit (m / 64) c e) in
              (omega arith, omega arith)

          cut : bit_and (minus (m / 64) (2 ^ c)) (keeps_at t l) ≡ bit_and (m / 64) (keeps_at t l)
          cut =
              has_ext (bit_and (minus (m / 64) (2 ^ c)) (keeps_at t l)) (bit_and (m / 64) (keeps_at t l)) (λ j.
              has_and (minus (m / 64) (2 ^ c)) (keeps_at t l) j
              ∙ ap (λ (b : Bool). b && has (keeps_at t l) j) (has_minus_power (m / 64) c j)
              ∙ at j (ℕ_discrete j c) ∙ sym (has_and (m / 64) (keeps_at t l) j))
            where
              drop_it : (x y z : Bool) → z ≡ false → ((x && y) && z) ≡ (x && z)
              drop_it true true z f = refl
              drop_it true false z f = sym f
              drop_it false y z f = refl

              keep_it : (x y z : Bool) → y ≡ true → ((x && y) && z) ≡ (x && z)
              keep_it true true z f = refl
              keep_it true false z f = absurd (false≢true f)
              keep_it false y z f = refl

              at : (j : ℕ) → Dec (j ≡ c) → ((has (m / 64) j && not (eqb j c)) && has (keeps_at t l) j) ≡ (has (m / 64) j && has (keeps_at t l) j)
              at j (yes z) = drop_it (has (m / 64) j) (not (eqb j c)) (has (keeps_at t l) j) (ap (has (keeps_at t l)) z ∙ q)
              at j (no z) = keep_it (has (m / 64) j) (not (eqb j c)) (has (keeps_at t l) j) (ap not (ne_eqb j c z))

          same : tells t l n ≡ tells t l m
          same =
              ap₂ (λ (x y : ℕ). has (get_or t (begins_at t l + x) 0) y) (ap (λ (x : ℕ). bit_and x (keeps_at t l)) parts.0 ∙ cut) parts.1

  pub argues_kept : m < 65536 → argues t m l ≡ true → within (m / 64) (keeps_at t l) ≡ true
  argues_kept small e = minimal_kept (argues_minimal small e).0

-- a word that the row does not span has no argument
pub none_beyond : (t : List ℕ) (l w : ℕ) → w < 1024 → within w (keeps_at t l) ≡ false → (k : ℕ) → k < 64 → argues t (64 * w + k) l ≡ false
none_beyond t l w low beyond k h = ⊎_elim (λ q. absurd (false≢true (sym beyond ∙ inside q))) (λ q. q) (cases (argues t (64 * w + k) l))
  where
    cases : (b : Bool) → (b ≡ true) ⊎ (b ≡ false)
    cases true = inl refl
    cases false = inr refl

    inside : argues t (64 * w + k) l ≡ true → within w (keeps_at t l) ≡ true
    inside q =
        let e : (64 * w + k) / 64 ≡ w = omega arith in
        ap (λ (j : ℕ). within j (keeps_at t l)) (sym e) ∙ argues_kept t (64 * w + k) l (omega arith) q

-- the minimal masks that are not contradictory
pub word_is : (t : List ℕ) (l w x clashes : ℕ) → Laid t → l < 128 → within w (keeps_at t l) ≡ true → Minima (word_at t l) w x
    → ((k : ℕ) → k < 64 → has clashes k ≡ tells t 128 (64 * w + k)) → Word t l w (minus x clashes)
word_is t l w x clashes laid low kept minima clashing k h =
    has_minus x clashes k
    ∙ same_test (has x k && not (has clashes k)) (argues t (64 * w + k) l)
    (λ e.
    minimal_argues t (64 * w + k) l (minima.says k h (and_left (has x k) (not (has clashes k)) e))
    (sym (clashing k h) ∙ off (has clashes k) (and_right (has x k) (not (has clashes k)) e)))
    (λ e.
    let both = argues_minimal t (64 * w + k) l (omega (arith, within_le w (keeps_at t l) kept, laid.few l (omega arith))) e in
    and_intro (has x k) (not (has clashes k)) (minima.passes k h both.0) (ap not (clashing k h ∙ both.1)))

-- without a minimal mask it does not matter which are contradictory
pub word_empty : (t : List ℕ) (l w x : ℕ) → Laid t → l < 128 → within w (keeps_at t l) ≡ true → Minima (word_at t l) w x → x ≡ 0 → Word t l w 0
word_empty t l w x laid low kept minima z =
    let none : minus x (word_at t 128 w) ≡ 0 = omega arith in
    subst (Word t l w) none (word_is t l w x (word_at t 128 w) laid low kept minima (λ k h. sym (row_at (word_at t 128) w k h)))

-- of the program of the table
module _ (rules : List Rule) (t : List ℕ) (heads : HeadsBelow 128 rules) (rows : Tells rules t) (m l : ℕ) (low : l < 128) where
  pub argues_argument : m < 65536 → argues t m l ≡ true → Argument rules m l
  argues_argument small e =
      let both = argues_minimal t m l small e in
      argument_by_one rules m l heads (sym (rows.derived l m low) ∙ both.0.set_at) (sym (rows.clashing m) ∙ both.1)
      (λ b h. sym (rows.derived l (minus m (2 ^ b)) low) ∙ both.0.none_less_lem b h)

  pub argument_argues : Argument rules m l → argues t m l ≡ true
  argument_argues a =
      minimal_argues t m l
      (record {
        set_at = rows.derived l m low ∙ argument_derives rules m l a;
        none_less_lem = λ b h. rows.derived l (minus m (2 ^ b)) low ∙ argument_needs rules m l a b h;
      })
      (rows.clashing m ∙ argument_coherent rules m l a)
