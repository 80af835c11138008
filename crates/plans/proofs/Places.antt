-- Rows one after the other.
use mathlib.Core.Path.{◌≡◌, refl, sym, ap, ◌∙◌, subst}
use mathlib.Core.Bool.{true, not, false≢true}
use mathlib.Core.List.{List}
use mathlib.Core.Logic.{◌⊎◌, inl, inr, ⊎_elim}
use Prim.Native.Nat.{ℕ, ◌+◌, ◌*◌, ◌^◌, ◌<◌, ◌≤◌}
use native.Mathlib.Decide.{ℕ_discrete, dec_lt}
use native.Mathlib.Omega.{arith}
use lib.Dec.{eqb}
use lib.ListN.{length, get_or, set, length-set}
use lib.Seq.{get_or-set_same, get_or-set_other}
use borrow.Author.Tests.{ne_eqb, eq-eqb}
use Rattle.literals.specs.Sets.{has, insert, minus, LowestBelow}
use Rattle.literals.proofs.Tests.{and_intro, and_left, and_right}
use Rattle.literals.proofs.Members.{has_empty, has_minus_power, insert_cases, insert_keeps, has_insert_same, has_bound, has_not_empty}
use Rattle.rows.specs.Switched.{Named}
use Rattle.rows.specs.Layout.{Placed}
use Rattle.plans.specs.Steps.{Small, PlacedIn}

pub placed_empty : (keep base : List ℕ) (a n : ℕ) → PlacedIn keep base 0 a n
placed_empty keep base a n = record {
  begins = λ l e. absurd (false≢true (sym (has_empty l) ∙ e));
  ends = λ l e. absurd (false≢true (sym (has_empty l) ∙ e));
  apart = λ l h i j e. absurd (false≢true (sym (has_empty l) ∙ e));
}

-- one row more
module _ (keep base : List ℕ) (s a n l : ℕ) (from : a ≤ n) (inside : l < length base) (p : PlacedIn keep base s a n) where
  here : get_or (set base l n) l 0 ≡ n
  here = get_or-set_same base l n 0 inside

  there : (h : ℕ) → (h ≡ l → ⊥) → get_or (set base l n) h 0 ≡ get_or base h 0
  there h o = get_or-set_other base l h n 0 o

  old : (h : ℕ) → has (insert s l) h ≡ true → (h ≡ l → ⊥) → has s h ≡ true
  old h e o = ⊎_elim (λ q. q) (λ q. absurd (o q)) (insert_cases s l h e)

  pub placed_more : PlacedIn keep (set base l n) (insert s l) a (n + get_or keep l 0 + 1)
  placed_more = record {
    begins = λ h e. begins_at_lem h e (ℕ_discrete h l);
    ends = λ h e. ends_at h e (ℕ_discrete h l);
    apart = λ g h i j e f q r z. go g h i j e f q r z (ℕ_discrete g l) (ℕ_discrete h l);
  }
    where
      begins_at_lem : (h : ℕ) → has (insert s l) h ≡ true → Dec (h ≡ l) → a ≤ get_or (set base l n) h 0
      begins_at_lem h e (yes o) = subst (λ (j : ℕ). a ≤ get_or (set base l n) j 0) (sym o) (omega (arith, here))
      begins_at_lem h e (no o) = omega (arith, there h o, p.begins h (old h e o))

      ends_at : (h : ℕ) → has (insert s l) h ≡ true → Dec (h ≡ l) → get_or (set base l n) h 0 + get_or keep h 0 < n + get_or keep l 0 + 1
      ends_at h e (yes o) =
          subst (λ (j : ℕ). get_or (set base l n) j 0 + get_or keep j 0 < n + get_or keep l 0 + 1) (sym o) (omega (arith, here))
      ends_at h e (no o) = omega (arith, there h o, p.ends h (old h e o))

      low : (h j : ℕ) → has (insert s l) h ≡ true → (h ≡ l → ⊥) → j ≤ get_or keep h 0 → get_or (set base l n) h 0 + j < n
      low h j e o q = omega (arith, there h o, p.ends h (old h e o))

      new : (h i : ℕ) → h ≡ l → n ≤ get_or (set base l n) h 0 + i
      new h i o = subst (λ (j : ℕ). n ≤ get_or (set base l n) j 0 + i) (sym o) (omega (arith, here))

      go : (g h i j : ℕ) → has (insert s l) g ≡ true → has (insert s l) h ≡ true → i ≤ get_or keep g 0 → j ≤ get_or keep h 0
          → get_or (set base l n) g 0 + i ≡ get_or (set base l n) h 0 + j → Dec (g ≡ l) → Dec (h ≡ l) → g ≡ h
      go g h i j e f q r z (yes a) (yes b) = a ∙ sym b
      go g h i j e f q r z (yes a) (no b) = absurd (omega (arith, new g i a, low h j f b r))
      go g h i j e f q r z (no a) (yes b) = absurd (omega (arith, new h j b, low g i e a q))
      go g h i j e f q r z (no a) (no b) =
          p.apart g h i j (old g e a) (old h f b) q r (omega (arith, there g a, there h b))

-- the rows of a set, those that are left still to come
pub record PlacedLeft (keep : List ℕ) (literals left m : ℕ) (c d : List ℕ) (n : ℕ) : Type 0 where
  pub sized : length d ≡ length c
  pub from : m ≤ n
  pub low : n ≤ 132096
  pub room : (l : ℕ) → has left l ≡ true → n ≤ 1024 * (l + 1)
  pub placed : (u : ℕ) × PlacedIn keep d u m n × ((l : ℕ) → has literals l ≡ true → (has left l ≡ true) ⊎ (has u l ≡ true))

pub left_all : (keep : List ℕ) (literals m : ℕ) (c : List ℕ) → m ≤ 1024 → PlacedLeft keep literals literals m c c m
left_all keep literals m c h = record {
  sized = refl;
  from = omega arith;
  low = omega arith;
  room = λ l e. omega arith;
  placed = (0, placed_empty keep c m m, λ l e. inl e);
}

module _ (keep : List ℕ) (literals left m : ℕ) (c d : List ℕ) (n b : ℕ) (small : Small keep) (lowest : LowestBelow 128 left b)
    (inside : b < length d) where
  pub left_more : PlacedLeft keep literals left m c d n
      → PlacedLeft keep literals (minus left (2 ^ b)) m c (set d b n) (n + get_or keep b 0 + 1)
  left_more p = record {
    sized = length-set d b n ∙ p.sized;
    from = omega (arith, p.from);
    low = omega (arith, p.room b lowest.member, small b, lowest.small);
    room = λ j e. omega (arith, p.room b lowest.member, small b, above j e);
    placed = next p.from p.placed;
  }
    where
      was : (j : ℕ) → has (minus left (2 ^ b)) j ≡ true → has left j ≡ true
      was j e = and_left (has left j) (not (eqb j b)) (sym (has_minus_power left b j) ∙ e)

      apart : (j : ℕ) → has (minus left (2 ^ b)) j ≡ true → j ≡ b → ⊥
      apart j e q =
          false≢true
          (sym (ap not (eq-eqb j b q)) ∙ and_right (has left j) (not (eqb j b)) (sym (has_minus_power left b j) ∙ e))

      above : (j : ℕ) → has (minus left (2 ^ b)) j ≡ true → b < j
      above j e = go (dec_lt j b) (ℕ_discrete j b)
        where
          go : Dec (j < b) → Dec (j ≡ b) → b < j
          go (yes q) o = absurd (false≢true (sym (lowest.least j q) ∙ was j e))
          go (no q) (yes o) = absurd (apart j e o)
          go (no q) (no o) = omega arith

      next : m ≤ n → ((u : ℕ) × PlacedIn keep d u m n × ((j : ℕ) → has literals j ≡ true → (has left j ≡ true) ⊎ (has u j ≡ true)))
          → (u : ℕ) × PlacedIn keep (set d b n) u m (n + get_or keep b 0 + 1)
          × ((j : ℕ) → has literals j ≡ true → (has (minus left (2 ^ b)) j ≡ true) ⊎ (has u j ≡ true))
      next from (u, q, f) = (
        insert u b,
        placed_more keep d u m n b from inside q,
        λ j e. done j (f j e) (ℕ_discrete j b),
      )
        where
          done : (j : ℕ) → (has left j ≡ true) ⊎ (has u j ≡ true) → Dec (j ≡ b)
              → (has (minus left (2 ^ b)) j ≡ true) ⊎ (has (insert u b) j ≡ true)
          done j g (yes o) = inr (ap (has (insert u b)) o ∙ has_insert_same u b)
          done j (inl g) (no o) =
              inl (has_minus_power left b j ∙ and_intro (has left j) (not (eqb j b)) g (ap not (ne_eqb j b o)))
          done j (inr g) (no o) = inr (insert_keeps u b j g)

pub left_none : {keep : List ℕ} {literals left m : ℕ} {c d : List ℕ} {n : ℕ} → left ≡ 0 → PlacedLeft keep literals left m c d n
    → PlacedIn keep d literals m n
left_none {keep} {literals} {left} {m} {c} {d} {n} e p = go p.placed
  where
    go : ((u : ℕ) × PlacedIn keep d u m n × ((l : ℕ) → has literals l ≡ true → (has left l ≡ true) ⊎ (has u l ≡ true))) → PlacedIn keep d literals m n
    go (u, q, f) = record {
      begins = λ l g. q.begins l (there l g);
      ends = λ l g. q.ends l (there l g);
      apart = λ l h i j g k. q.apart l h i j (there l g) (there h k);
    }
      where
        there : (l : ℕ) → has literals l ≡ true → has u l ≡ true
        there l g = ⊎_elim (λ z. absurd (has_not_empty left l z e)) (λ z. z) (f l g)

-- what the leaf asks, of rules that name literals of s only
pub placed_named : (t keep base : List ℕ) (s a n m : ℕ) → length keep ≡ 128 → length base ≡ 128 → s < 2 ^ 128 → n ≤ m
    → ((l : ℕ) → Named t l → has s l ≡ true) → PlacedIn keep base s a n → Placed t keep base m
placed_named t keep base s a n m k b fits room named p = record {
  keeps = k;
  bases = b;
  small = λ l q. has_bound s 128 l fits (named l q);
  inside = λ l q. omega (arith, p.ends l (named l q));
  apart = λ l h i j q r. p.apart l h i j (named l q) (named h r);
}
