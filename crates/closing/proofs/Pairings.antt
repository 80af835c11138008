-- The atoms that may clash, and what bears on them.
use mathlib.Core.Path.{◌≡◌, sym, ap, ◌∙◌, subst}
use mathlib.Core.Bool.{true, false, not, ◌&&◌, false≢true}
use mathlib.Core.List.{List}
use mathlib.Core.Logic.{⊎_elim}
use Prim.Native.Nat.{ℕ, ◌+◌, ◌*◌, ◌%◌, ◌^◌, ◌<◌, ◌≤◌}
use native.Mathlib.Nat.{eq-or-lt_of_le}
use native.Mathlib.Decide.{ℕ_discrete}
use native.Mathlib.Omega.{arith}
use lib.Dec.{eqb}
use lib.ListN.{get_or}
use borrow.Author.Tests.{ne_eqb}
use Rattle.literals.specs.Sets.{has, insert, minus, union, within}
use Rattle.literals.proofs.Tests.{and_intro, and_left, and_right}
use Rattle.literals.proofs.Members.{has_bound, has_empty, has_minus_power, insert_cases, has_insert_same, insert_keeps}
use Rattle.literals.proofs.Within.{within_trans, within_refl, within_union_left, within_union_right}
use Rattle.closing.specs.Inside.Plan.{Pairs}

-- the atoms below n are done
pub record PairsTo (s q n : ℕ) : Type 0 where
  pub says : (l : ℕ) → has q l ≡ true → (a : ℕ) × (l ≡ 2 * a) × (has s (2 * a) ≡ true) × (has s (2 * a + 1) ≡ true)
  pub passes : (a : ℕ) → a < n → has s (2 * a) ≡ true → has s (2 * a + 1) ≡ true → has q (2 * a) ≡ true

pub pairs_start : (s q : ℕ) → q ≡ 0 → PairsTo s q 0
pairs_start s q e = record {
  says = λ l h. absurd (false≢true (sym (has_empty l) ∙ ap (λ (x : ℕ). has x l) (sym e) ∙ h));
  passes = λ a h. absurd (omega arith);
}

module _ (s q n : ℕ) (so : PairsTo s q n) where
  pub pairs_skip : (has s (2 * n) && has s (2 * n + 1)) ≡ false → PairsTo s q (n + 1)
  pairs_skip e = record {
    says = so.says;
    passes = λ a h p r.
        ⊎_elim
        (λ z. absurd (false≢true (sym e ∙ and_intro (has s (2 * n)) (has s (2 * n + 1)) (ap (λ (x : ℕ). has s (2 * x)) (sym z) ∙ p) (ap (λ (x : ℕ). has s (2 * x + 1)) (sym z) ∙ r))))
        (λ l. so.passes a l p r) (eq-or-lt_of_le {n = a} {m = n} (omega arith));
  }

  pub pairs_more : (has s (2 * n) && has s (2 * n + 1)) ≡ true → PairsTo s (insert q (2 * n)) (n + 1)
  pairs_more e = record {
    says = λ l h. ⊎_elim (so.says l) (λ z. (n, z, and_left (has s (2 * n)) (has s (2 * n + 1)) e, and_right (has s (2 * n)) (has s (2 * n + 1)) e)) (insert_cases q (2 * n) l h);
    passes = λ a h p r.
        ⊎_elim (λ z. ap (λ (x : ℕ). has (insert q (2 * n)) (2 * x)) z ∙ has_insert_same q (2 * n)) (λ l. insert_keeps q (2 * n) (2 * a) (so.passes a l p r))
        (eq-or-lt_of_le {n = a} {m = n} (omega arith));
  }

pub pairs_all : (s q n : ℕ) → s < 2 ^ 128 → 64 ≤ n → PairsTo s q n → Pairs s q
pairs_all s q n fits end so = record {
  says = so.says;
  passes = λ a p r. so.passes a (omega (arith, has_bound s 128 (2 * a) fits p)) p r;
}

-- x has the start and what is kept for the literals of q and those after them
pub record Spanned (keep : List ℕ) (q s x : ℕ) : Type 0 where
  pub started : within s x ≡ true
  pub each : (l : ℕ) → has q l ≡ true → (within (get_or keep l 0) x ≡ true) × (within (get_or keep (l + 1) 0) x ≡ true)

pub spanned_none : (keep : List ℕ) (q s : ℕ) → q ≡ 0 → Spanned keep q s s
spanned_none keep q s e = rw e (record {
  started = within_refl s;
  each = λ l h. absurd (false≢true (sym (has_empty l) ∙ h));
})

module _ (keep : List ℕ) (q s b : ℕ) where
  abbrev both : ℕ
  both = union (get_or keep b 0) (get_or keep (b + 1) 0)

  pub spanned_more : (x : ℕ) → Spanned keep (minus q (2 ^ b)) (union s (union (get_or keep b 0) (get_or keep (b + 1) 0))) x → Spanned keep q s x
  spanned_more x more = record {
    started = within_trans s (union s both) x (within_union_left s both) more.started;
    each = λ j h. at j h (ℕ_discrete j b);
  }
    where
      borne : within both x ≡ true
      borne = within_trans both (union s both) x (within_union_right s both) more.started

      at : (j : ℕ) → has q j ≡ true → Dec (j ≡ b) → (within (get_or keep j 0) x ≡ true) × (within (get_or keep (j + 1) 0) x ≡ true)
      at j h (no o) =
          more.each j (has_minus_power q b j ∙ and_intro (has q j) (not (eqb j b)) h (ap not (ne_eqb j b o)))
      at j h (yes o) =
          subst (λ (i : ℕ). (within (get_or keep i 0) x ≡ true) × (within (get_or keep (i + 1) 0) x ≡ true)) (sym o) (
            within_trans (get_or keep b 0) both x (within_union_left (get_or keep b 0) (get_or keep (b + 1) 0)) borne,
            within_trans (get_or keep (b + 1) 0) both x (within_union_right (get_or keep b 0) (get_or keep (b + 1) 0)) borne,
          )

-- an even literal has its complement after it
pub pair_even : (s q : ℕ) → Pairs s q → s < 2 ^ 128 → (l : ℕ) → has q l ≡ true → (l < 127) × (l % 2 ≡ 0)
pair_even s q pairs fits l h =
    let found = pairs.says l h in
    (omega (arith, found.1, has_bound s 128 (2 * found.0 + 1) fits found.3), omega (arith, found.1))
