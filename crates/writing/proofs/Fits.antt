-- A rule's part by its causes, and lists by neighbours.
use mathlib.Core.Path.{◌≡◌, refl, sym, ap, ap₂, ◌∙◌, subst}
use mathlib.Core.Bool.{Bool, true, false, ◌&&◌, ◌||◌, false≢true}
use mathlib.Core.List.Memᴰ
use mathlib.Core.List.{List, [], ◌∷◌}
use mathlib.Core.Logic.{◌⊎◌, inl, inr, ⊎_elim}
use Prim.Native.Nat.{ℕ, zero, suc, ◌+◌, ◌*◌, ◌<◌, ◌≤◌}
use native.Mathlib.Decide.{dec_lt}
use native.Mathlib.Omega.{arith}
use lib.Dec.{eqb, ltb}
use lib.ListN.{length}
use borrow.Author.Tests.{eq-eqb, lt-ltb, le-ltb}
use Rattle.lists.proofs.Orders.{ordered_at}
use Rattle.lists.specs.Sorting.{before, Sorted}
use Rattle.lists.proofs.Sorting.{first_decides, before_trans}
use Rattle.layout.specs.Layout.{kind_byte, part_of}
use Rattle.layout.specs.declared.Cause.TheVariants.{RuleLength, RuleKind, LiteralRange, BodyOrder, DefeasibleWithoutBody}
use Rattle.layout.specs.Causes.{accepted, refuse, bad_size, bad_kind, bad_literal, bad_body, bad_empty, bad_seventeenth, part_verdict, same_bytes, stands_in}
use Rattle.part.proofs.Verdicts.{by_tests}
use Rattle.layout.proofs.Directory.{neither_left, neither_right}
use Rattle.part.proofs.Bytes.{same_bytes_lem, bytes_same}
use Rattle.image.proofs.Accepted.{then_left, then_right, refuse_not}
use Rattle.writing.specs.Image.{pair_key}
use Rattle.writing.proofs.Reading.{pair_at}

-- ---- the causes 4 to 8, which are the same at every place and count

pub record Passes (part : List ℕ) (atoms : ℕ) : Type 0 where
  pub four : bad_size part ≡ false
  pub five : bad_kind part ≡ false
  pub six : bad_literal atoms part ≡ false
  pub seven : bad_body part ≡ false
  pub eight : bad_empty part ≡ false

pub part_passes : (part : List ℕ) (atoms count place : ℕ) → part_verdict part atoms count place ≡ accepted → Passes part atoms
unfolding part_verdict
part_passes part atoms count place e =
    let e5 = then_right (refuse (bad_size part) RuleLength place) _ e in
    let e6 = then_right (refuse (bad_kind part) RuleKind place) _ e5 in
    let e7 = then_right (refuse (bad_literal atoms part) LiteralRange place) _ e6 in
    let e8 = then_right (refuse (bad_body part) BodyOrder place) _ e7 in
    record {
      four = refuse_not (bad_size part) RuleLength place (then_left (refuse (bad_size part) RuleLength place) _ e);
      five = refuse_not (bad_kind part) RuleKind place (then_left (refuse (bad_kind part) RuleKind place) _ e5);
      six = refuse_not (bad_literal atoms part) LiteralRange place (then_left (refuse (bad_literal atoms part) LiteralRange place) _ e6);
      seven = refuse_not (bad_body part) BodyOrder place (then_left (refuse (bad_body part) BodyOrder place) _ e7);
      eight = refuse_not (bad_empty part) DefeasibleWithoutBody place (then_left (refuse (bad_empty part) DefeasibleWithoutBody place) _ e8);
    }

pub passes_part : (part : List ℕ) (atoms count place : ℕ) → Passes part atoms → bad_seventeenth count part ≡ false
    → part_verdict part atoms count place ≡ accepted
passes_part part atoms count place p nine =
    by_tests part atoms count place false false false false false false p.four p.five p.six p.seven p.eight nine

pub none_seventeenth : (part : List ℕ) → bad_seventeenth 0 part ≡ false
none_seventeenth part = go (eqb (kind_byte part) 1)
  where
    go : (b : Bool) → (b && false) ≡ false
    go true = refl
    go false = refl

-- ---- "Same bytes as an earlier rule"

pub stands_none : (s part : List ℕ) (n j : ℕ) → ((k : ℕ) → k < j + n → part_of s k ≡ part → ⊥) → stands_in s part j n ≡ false
unfolding stands_in
stands_none s part zero j h = refl
stands_none s part (suc n) j h = go (same_bytes (part_of s j) part) refl (stands_none s part n (suc j) (λ k l. h k (omega arith)))
  where
    go : (b : Bool) → same_bytes (part_of s j) part ≡ b → stands_in s part (suc j) n ≡ false → (b || stands_in s part (suc j) n) ≡ false
    go true e r = absurd (h j (omega arith) (same_bytes_lem (part_of s j) part e))
    go false e r = r

pub stands_apart : (s part : List ℕ) (n j : ℕ) → stands_in s part j n ≡ false → (k : ℕ) → j ≤ k → k < j + n → part_of s k ≡ part → ⊥
unfolding stands_in
stands_apart s part zero j e k l h q = absurd (omega arith)
stands_apart s part (suc n) j e k l h q =
    go (dec_lt j k) (λ m. stands_apart s part n (suc j) (neither_right (same_bytes (part_of s j) part) _ e) k m (omega arith) q)
  where
    here : k ≡ j → ⊥
    here i =
        false≢true
        (sym (neither_left (same_bytes (part_of s j) part) (stands_in s part (suc j) n) e)
        ∙ ap (λ (x : List ℕ). same_bytes x part) (ap (part_of s) (sym i) ∙ q)
        ∙ bytes_same part)

    go : Dec (j < k) → (suc j ≤ k → ⊥) → ⊥
    go (yes m) f = f m
    go (no m) f = here (omega arith)

-- ---- lists by neighbours

pub sorted_next : (l : List (ℕ × ℕ)) (j : ℕ) → Sorted pair_key l → suc j < length l
    → before (pair_key (pair_at l j)) (pair_key (pair_at l (suc j))) ≡ true
sorted_next l j s h = ordered_at (λ x y. before (pair_key x) (pair_key y) ≡ true) (0, 0) l j (suc j) s (omega arith) h

pub next_sorted : (l : List (ℕ × ℕ))
    → ((j : ℕ) → suc j < length l → before (pair_key (pair_at l j)) (pair_key (pair_at l (suc j))) ≡ true) → Sorted pair_key l
next_sorted [] h = tt
next_sorted (q ∷ []) h = (λ y i. absurd (Memᴰ.not-nil i), tt)
next_sorted (q ∷ r ∷ l) h =
    let rest : Sorted pair_key (r ∷ l) = next_sorted (r ∷ l) (λ j k. h (suc j) (omega arith)) in
    let first : before (pair_key q) (pair_key r) ≡ true = h 0 (omega arith) in (
      λ y i.
          ⊎_elim (λ e. subst (λ (z : ℕ × ℕ). before (pair_key q) (pair_key z) ≡ true) (sym e) first)
          (λ j. before_trans (pair_key q) (pair_key r) (pair_key y) first (rest.0 y j)) (Memᴰ.cases_cons i),
      rest,
    )

-- pairs by their first numbers, then by their second ones
pub pair_cases : (a b c d : ℕ) → before (a ∷ b ∷ []) (c ∷ d ∷ []) ≡ true → (a < c) ⊎ ((a ≡ c) × (b < d))
pair_cases a b c d e =
    ⊎_elim inl
    (λ h. inr (h.0, ⊎_elim (λ k. k) (λ k. absurd (false≢true k.1)) (first_decides b d false h.1)))
    (first_decides a c (before (b ∷ []) (d ∷ [])) e)

-- and so by their codes
module _ (a b c d : ℕ) (small : b < 256) (few : d < 256) where
  pub before_code : before (a ∷ b ∷ []) (c ∷ d ∷ []) ≡ true → 256 * a + b < 256 * c + d
  before_code e = ⊎_elim (λ h. omega arith) (λ h. omega (arith, h.0, h.1)) (pair_cases a b c d e)

  pub code_before : 256 * a + b < 256 * c + d → before (a ∷ b ∷ []) (c ∷ d ∷ []) ≡ true
  code_before h = go (dec_lt a c)
    where
      go : Dec (a < c) → before (a ∷ b ∷ []) (c ∷ d ∷ []) ≡ true
      go (yes l) = ap (λ (x : Bool). x || (eqb a c && (ltb b d || (eqb b d && false)))) (lt-ltb a c l)
      go (no l) =
          let e : a ≡ c = omega arith in
          ap₂ (λ (x y : Bool). x || (y && (ltb b d || (eqb b d && false)))) (le-ltb a c (omega arith)) (eq-eqb a c e)
          ∙ ap (λ (x : Bool). x || (eqb b d && false)) (lt-ltb b d (omega arith))
