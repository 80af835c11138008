-- What stands before the rows, step by step.
use mathlib.Core.Path.{◌≡◌, sym, ap, ◌∙◌}
use mathlib.Core.Bool.{true, false, false≢true}
use mathlib.Core.List.{List, ◌++◌}
use Prim.Native.Nat.{ℕ, ◌+◌, ◌-◌, ◌^◌, ◌<◌, ◌≤◌}
use native.Mathlib.Omega.{arith}
use lib.ListN.{length, get_or, set, take, drop, get_or-replicate, length-set, length-append, length-drop, get_or-append}
use lib.Seq.{length-take-le, get_or-append-add, get_or-drop, get_or-set_same, get_or-set_other}
use Rattle.literals.specs.Sets.{has}
use Rattle.literals.proofs.Members.{has_bound}
use Rattle.closing.specs.declared.TheConstants.{FULL}
use Rattle.closing.specs.Inside.Steps.{Scattered, Blank, Header}

-- h is put for the first 260 words, all of it 0, and then the full word
module _ (c h : List ℕ) (long : 260 ≤ length c) (part : length h ≡ length (take 260 c)) (zero : (i : ℕ) → get_or h i 0 ≡ 0) where
  front : length h ≡ 260
  front = part ∙ length-take-le 260 c long

  pub front_length : length (h ++ drop 260 c) ≡ length c
  front_length = length-append h (drop 260 c) ∙ (let e : length h + length (drop 260 c) ≡ length c = omega (arith, front, length-drop 260 c) in e)

  behind : (i : ℕ) → 260 ≤ i → get_or (h ++ drop 260 c) i 0 ≡ get_or c i 0
  behind i l =
      let split : length h + (i - 260) ≡ i = omega (arith, front) in
      let whole : 260 + (i - 260) ≡ i = omega arith in
      ap (λ (n : ℕ). get_or (h ++ drop 260 c) n 0) (sym split) ∙ get_or-append-add h (drop 260 c) (i - 260) 0
      ∙ get_or-drop 260 c (i - 260) 0 ∙ ap (λ (n : ℕ). get_or c n 0) whole

  pub blank_table : Blank c (set (h ++ drop 260 c) 1 18446744073709551615)
  blank_table = record {
    sized = length-set (h ++ drop 260 c) 1 18446744073709551615 ∙ front_length;
    rows = λ i l. get_or-set_other (h ++ drop 260 c) 1 i 18446744073709551615 0 (λ e. omega arith) ∙ behind i l;
    empty = λ i l o.
        get_or-set_other (h ++ drop 260 c) 1 i 18446744073709551615 0 o ∙ get_or-append h (drop 260 c) 0 i (omega (arith, front)) ∙ zero i;
    full = get_or-set_same (h ++ drop 260 c) 1 18446744073709551615 0 (omega (arith, front_length));
  }

-- a word that is none of those that are written is as it was
pub past : (at s : ℕ) (f : ℕ → ℕ) (c d : List ℕ) → s < 2 ^ 128 → Scattered at s f c d → (i : ℕ) → at + 128 ≤ i → get_or d i 0 ≡ get_or c i 0
past at s f c d fits so i h = so.miss i (λ b e q. omega (arith, has_bound s 128 b fits e))

pub before : (at s : ℕ) (f : ℕ → ℕ) (c d : List ℕ) → Scattered at s f c d → (i : ℕ) → i < at → get_or d i 0 ≡ get_or c i 0
before at s f c d so i h = so.miss i (λ b e q. omega arith)

pub at_hit : (at s : ℕ) (f : ℕ → ℕ) (c d : List ℕ) → Scattered at s f c d → (l : ℕ) → has s l ≡ true → get_or d (at + l) 0 ≡ f l
at_hit at s f c d so l h = so.hit l h

pub at_miss : (at s : ℕ) (f : ℕ → ℕ) (c d : List ℕ) → Scattered at s f c d → (l : ℕ) → has s l ≡ false → get_or d (at + l) 0 ≡ get_or c (at + l) 0
at_miss at s f c d so l h =
    so.miss (at + l) (λ b e q. false≢true (sym h ∙ ap (has s) (let z : l ≡ b = omega arith in z) ∙ e))

module _ (d s n v : ℕ) (keep base c t₁ t₂ t₃ t₄ : List ℕ) (long : 260 ≤ length c) (d_fits : d < 2 ^ 128) (s_fits : s < 2 ^ 128) (blank : Blank c t₁)
    (begun : Scattered 2 s (λ l. get_or base l 0) t₁ t₂) (kept : Scattered 131 s (λ l. get_or keep l 0) t₂ t₃) (full : Scattered 2 d (λ l. get_or FULL l 0) t₃ t₄) where
  abbrev t₅ : List ℕ
  t₅ = set t₄ 130 n

  abbrev t₆ : List ℕ
  t₆ = set t₅ 259 v

  pub header_length : length t₄ ≡ length c
  header_length = full.sized ∙ kept.sized ∙ begun.sized ∙ blank.sized

  -- of the words of the table only those two are written last
  stored : (i : ℕ) → (i ≡ 130 → ⊥) → (i ≡ 259 → ⊥) → get_or t₆ i 0 ≡ get_or t₄ i 0
  stored i p q = get_or-set_other t₅ 259 i v 0 q ∙ get_or-set_other t₄ 130 i n 0 p

  begins : (l : ℕ) → l < 128 → get_or t₃ (2 + l) 0 ≡ get_or t₂ (2 + l) 0
  begins l h = before 131 s (λ l. get_or keep l 0) t₂ t₃ kept (2 + l) (omega arith)

  keeps : (l : ℕ) → l < 128 → get_or t₆ (131 + l) 0 ≡ get_or t₃ (131 + l) 0
  keeps l h =
      stored (131 + l) (λ e. omega arith) (λ e. omega arith) ∙ past 2 d (λ l. get_or FULL l 0) t₃ t₄ d_fits full (131 + l) (omega arith)

  blank_keeps : (l : ℕ) → l < 128 → get_or t₂ (131 + l) 0 ≡ 0
  blank_keeps l h =
      past 2 s (λ l. get_or base l 0) t₁ t₂ s_fits begun (131 + l) (omega arith) ∙ blank.empty (131 + l) (omega arith) (λ e. omega arith)

  low_word : (i : ℕ) → i < 2 → get_or t₆ i 0 ≡ get_or t₁ i 0
  low_word i h =
      stored i (λ e. omega arith) (λ e. omega arith) ∙ before 2 d (λ l. get_or FULL l 0) t₃ t₄ full i h
      ∙ before 131 s (λ l. get_or keep l 0) t₂ t₃ kept i (omega arith) ∙ before 2 s (λ l. get_or base l 0) t₁ t₂ begun i h

  pub header : Header d s n v keep base c (set (set t₄ 130 n) 259 v)
  header = record {
    sized = length-set t₅ 259 v ∙ length-set t₄ 130 n ∙ header_length;
    rows = λ i h.
        stored i (λ e. omega arith) (λ e. omega arith) ∙ past 2 d (λ l. get_or FULL l 0) t₃ t₄ d_fits full i (omega arith)
        ∙ past 131 s (λ l. get_or keep l 0) t₂ t₃ s_fits kept i (omega arith) ∙ past 2 s (λ l. get_or base l 0) t₁ t₂ s_fits begun i (omega arith) ∙ blank.rows i h;
    empty = low_word 0 (omega arith) ∙ blank.empty 0 (omega arith) (λ e. omega arith);
    full = low_word 1 (omega arith) ∙ blank.full;
    derived_begins = λ l h e. stored (2 + l) (λ q. omega arith) (λ q. omega arith) ∙ at_hit 2 d (λ l. get_or FULL l 0) t₃ t₄ full l e ∙ get_or-replicate {A = ℕ} 128 l 1 0 h;
    live_begins = λ l h e o.
        stored (2 + l) (λ q. omega arith) (λ q. omega arith) ∙ at_miss 2 d (λ l. get_or FULL l 0) t₃ t₄ full l o ∙ begins l h
        ∙ at_hit 2 s (λ l. get_or base l 0) t₁ t₂ begun l e;
    live_keeps = λ l h e. keeps l h ∙ at_hit 131 s (λ l. get_or keep l 0) t₂ t₃ kept l e;
    dead_begins = λ l h e o.
        stored (2 + l) (λ q. omega arith) (λ q. omega arith) ∙ at_miss 2 d (λ l. get_or FULL l 0) t₃ t₄ full l o ∙ begins l h
        ∙ at_miss 2 s (λ l. get_or base l 0) t₁ t₂ begun l e ∙ blank.empty (2 + l) (omega arith) (λ q. omega arith);
    dead_keeps = λ l h e. keeps l h ∙ at_miss 131 s (λ l. get_or keep l 0) t₂ t₃ kept l e ∙ blank_keeps l h;
    bottom_begins =
        get_or-set_other t₅ 259 130 v 0 (λ e. omega arith) ∙ get_or-set_same t₄ 130 n 0 (omega (arith, header_length));
    bottom_keeps = get_or-set_same t₅ 259 v 0 (omega (arith, length-set t₄ 130 n, header_length));
  }
