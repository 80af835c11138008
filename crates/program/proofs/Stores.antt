-- What the rule table holds after a store: the new words where they were put, and the old ones elsewhere.
use mathlib.Core.Path.{◌≡◌, refl, ◌∙◌}
use mathlib.Core.List.{List}
use mathlib.Core.Logic.{◌⊎◌, inl, inr}
use Prim.Native.Nat.{ℕ, ◌+◌, ◌*◌, ◌<◌, ◌≤◌}
use native.Mathlib.Decide.{dec_lt}
use native.Mathlib.Omega.{arith}
use lib.ListN.{length, get_or, set, length-set}
use lib.Seq.{get_or-set_same, get_or-set_other}
use Rattle.literals.specs.declared.LiteralSet.{LiteralSet}
use Rattle.literals.specs.Inside.Words.{set_of}
use Rattle.program.specs.Inside.Table.{head_at, body_at, need_at}
use Rattle.program.specs.Inside.Store.{with_row}

-- a word that is not one of the four from 4 * i on
abbrev pub Beside : ℕ → ℕ → Type 0
Beside i k = (k < 4 * i) ⊎ (4 * i + 3 < k)

beside : (i k d : ℕ) → Beside i k → d ≤ 3 → k ≡ 4 * i + d → ⊥
beside i k d (inl l) h e = omega arith
beside i k d (inr l) h e = omega arith

-- the words of another row, and those behind the rows
pub beside_row : (i j d : ℕ) → (j ≡ i → ⊥) → d ≤ 3 → Beside i (4 * j + d)
beside_row i j d n h = go (dec_lt j i) (dec_lt i j)
  where
    go : Dec (j < i) → Dec (i < j) → Beside i (4 * j + d)
    go (yes l) m = inl (omega arith)
    go (no l) (yes m) = inr (omega arith)
    go (no l) (no m) = absurd (n (omega arith))

pub beside_rows : (i k : ℕ) → i < 96 → 384 ≤ k → Beside i k
beside_rows i k h l = inr (omega arith)

module _ (t : List ℕ) (i h : ℕ) (b : LiteralSet) (n : ℕ) where
  -- the table after one, two and three of the words
  abbrev one : List ℕ
  one = set t (4 * i) h

  abbrev two : List ℕ
  two = set one (4 * i + 1) b.lo

  abbrev three : List ℕ
  three = set two (4 * i + 2) b.hi

  pub row_beside : (k : ℕ) → Beside i k → get_or (with_row t i h b n) k 0 ≡ get_or t k 0
  row_beside k o =
      get_or-set_other three (4 * i + 3) k n 0 (beside i k 3 o (omega arith))
      ∙ get_or-set_other two (4 * i + 2) k b.hi 0 (beside i k 2 o (omega arith))
      ∙ get_or-set_other one (4 * i + 1) k b.lo 0 (beside i k 1 o (omega arith))
      ∙ get_or-set_other t (4 * i) k h 0 (λ e. beside i k 0 o (omega arith) (omega arith))

  module _ (small : i < 96) (long : length t ≡ 419) where
    pub row_head : head_at (with_row t i h b n) i ≡ h
    row_head =
        get_or-set_other three (4 * i + 3) (4 * i) n 0 (λ e. omega arith)
        ∙ get_or-set_other two (4 * i + 2) (4 * i) b.hi 0 (λ e. omega arith)
        ∙ get_or-set_other one (4 * i + 1) (4 * i) b.lo 0 (λ e. omega arith)
        ∙ get_or-set_same t (4 * i) h 0 (omega arith)

    low_word : get_or (with_row t i h b n) (4 * i + 1) 0 ≡ b.lo
    low_word =
        get_or-set_other three (4 * i + 3) (4 * i + 1) n 0 (λ e. omega arith)
        ∙ get_or-set_other two (4 * i + 2) (4 * i + 1) b.hi 0 (λ e. omega arith)
        ∙ get_or-set_same one (4 * i + 1) b.lo 0 (simp length-set (omega arith))

    high_word : get_or (with_row t i h b n) (4 * i + 2) 0 ≡ b.hi
    high_word =
        get_or-set_other three (4 * i + 3) (4 * i + 2) n 0 (λ e. omega arith)
        ∙ get_or-set_same two (4 * i + 2) b.hi 0 (simp length-set (omega arith))

    pub row_body : body_at (with_row t i h b n) i ≡ set_of b
    unfolding set_of
    row_body = rw (low_word, high_word) refl

    pub row_need : need_at (with_row t i h b n) i ≡ n
    row_need = get_or-set_same three (4 * i + 3) n 0 (simp length-set (omega arith))

pub row_length : (t : List ℕ) (i h : ℕ) (b : LiteralSet) (n : ℕ) → length (with_row t i h b n) ≡ length t
row_length t i h b n = simp length-set
