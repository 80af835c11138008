-- A literal put into some columns, one at a time.
use mathlib.Core.Path.{◌≡◌, refl, sym, ap, ap₂, ◌∙◌, subst}
use mathlib.Core.Bool.{Bool, true, false, not, ◌&&◌}
use mathlib.Core.List.{List}
use Prim.Native.Nat.{ℕ, ◌+◌, ◌*◌, ◌^◌, ◌<◌}
use native.Mathlib.Decide.{ℕ_discrete}
use native.Mathlib.Omega.{arith}
use lib.ListN.{length, set, length-set}
use borrow.Author.Tests.{eq-eqb, ne_eqb}
use Rattle.lists.specs.Lists.{choose}
use Rattle.literals.specs.Sets.{has, insert, minus}
use Rattle.literals.specs.Inside.Words.{joined}
use Rattle.literals.proofs.Members.{has_empty, has_minus_power}
use Rattle.argument.specs.Inside.Sets.{set_at}
use Rattle.argument.proofs.SetTables.{stored_same, stored_other}
use Rattle.collecting.specs.Inside.Columns.{Put}

pub put_none : (l x : ℕ) (c : List ℕ) → x ≡ 0 → Put l x c c
put_none l x c e = record {
  sized = refl;
  column = λ k h. sym (ap (λ (b : Bool). choose b (insert (set_at c k) l) (set_at c k)) (ap (λ (y : ℕ). has y k) e ∙ has_empty k));
}

-- column b first, then those that are left
pub put_more : (l x b lo hi : ℕ) (c d : List ℕ) → has x b ≡ true → b < 64 → length c ≡ 128 → joined hi lo ≡ insert (set_at c b) l
    → Put l (minus x (2 ^ b)) (set (set c (2 * b) lo) (2 * b + 1) hi) d → Put l x c d
put_more l x b lo hi c d member small long stored rest = record {
  sized = rest.sized ∙ length-set (set c (2 * b) lo) (2 * b + 1) hi ∙ length-set c (2 * b) lo;
  column = λ k h. rest.column k h ∙ at k (ℕ_discrete k b);
}
  where
    now : List ℕ
    now = set (set c (2 * b) lo) (2 * b + 1) hi

    at : (k : ℕ) → Dec (k ≡ b)
        → choose (has (minus x (2 ^ b)) k) (insert (set_at (set (set c (2 * b) lo) (2 * b + 1) hi) k) l) (set_at (set (set c (2 * b) lo) (2 * b + 1) hi) k)
        ≡ choose (has x k) (insert (set_at c k) l) (set_at c k)
    at k (yes e) =
        subst (λ (j : ℕ). choose (has (minus x (2 ^ b)) j) (insert (set_at now j) l) (set_at now j) ≡ choose (has x j) (insert (set_at c j) l) (set_at c j))
        (sym e)
        (ap (λ (t : Bool). choose t (insert (set_at now b) l) (set_at now b)) gone
        ∙ stored_same c b lo hi (omega arith) ∙ stored
        ∙ sym (ap (λ (t : Bool). choose t (insert (set_at c b) l) (set_at c b)) member))
      where
        and_false : (t : Bool) → (t && false) ≡ false
        and_false true = refl
        and_false false = refl

        gone : has (minus x (2 ^ b)) b ≡ false
        gone = has_minus_power x b b ∙ ap (λ (t : Bool). has x b && not t) (eq-eqb b b refl) ∙ and_false (has x b)
    at k (no n) =
        ap₂ (λ (t : Bool) (y : ℕ). choose t (insert y l) y) kept (stored_other c b lo hi (omega arith) k n)
      where
        and_true : (t : Bool) → (t && true) ≡ t
        and_true true = refl
        and_true false = refl

        kept : has (minus x (2 ^ b)) k ≡ has x k
        kept = has_minus_power x b k ∙ ap (λ (t : Bool). has x k && not t) (ne_eqb k b n) ∙ and_true (has x k)
