-- A table of literal sets in which one is stored.
use mathlib.Core.Path.{◌≡◌, ap₂, ◌∙◌}
use mathlib.Core.List.{List}
use Prim.Native.Nat.{ℕ, ◌+◌, ◌*◌, ◌<◌}
use native.Mathlib.Omega.{arith}
use lib.ListN.{length, get_or, set, length-set}
use lib.Seq.{get_or-set_same, get_or-set_other}
use Rattle.literals.specs.Inside.Words.{joined}
use Rattle.argument.specs.Inside.Sets.{set_at}

module _ (t : List ℕ) (m lo hi : ℕ) (room : 2 * m + 1 < length t) where
  abbrev pub stored : List ℕ
  stored = set (set t (2 * m) lo) (2 * m + 1) hi

  pub stored_same : set_at stored m ≡ joined hi lo
  stored_same =
      ap₂ joined (get_or-set_same (set t (2 * m) lo) (2 * m + 1) hi 0 (simp length-set room))
      (get_or-set_other (set t (2 * m) lo) (2 * m + 1) (2 * m) hi 0 (λ e. omega arith) ∙ get_or-set_same t (2 * m) lo 0 (omega arith))

  pub stored_other : (n : ℕ) → (n ≡ m → ⊥) → set_at stored n ≡ set_at t n
  stored_other n o =
      ap₂ joined (kept (2 * n + 1) (λ q. o (omega arith)) (λ q. o (omega arith)))
      (kept (2 * n) (λ q. o (omega arith)) (λ q. o (omega arith)))
    where
      kept : (k : ℕ) → (k ≡ 2 * m → ⊥) → (k ≡ 2 * m + 1 → ⊥) → get_or stored k 0 ≡ get_or t k 0
      kept k f g = get_or-set_other (set t (2 * m) lo) (2 * m + 1) k hi 0 g ∙ get_or-set_other t (2 * m) k lo 0 f
