-- The table as it is left says what Π with each mask derives, and which masks are contradictory.
use mathlib.Core.Path.{◌≡◌, refl, sym, ap, ap₂, ◌∙◌, subst}
use mathlib.Core.Bool.{Bool, true, false, not, ◌&&◌, ◌||◌, false≢true}
use mathlib.Core.List.{List}
use mathlib.Core.Logic.{◌⊎◌, inl, inr, ⊎_elim}
use Prim.Native.Nat.{ℕ, ◌+◌, ◌*◌, ◌/◌, ◌%◌, ◌^◌, ◌<◌}
use native.Mathlib.Decide.{dec_lt}
use native.Mathlib.Omega.{arith}
use lib.Bits.{bit_and, and_le_r}
use lib.ListN.{length, get_or}
use Rattle.literals.specs.Sets.{has, within}
use Rattle.literals.proofs.Tests.{same_test, and_right}
use Rattle.literals.proofs.Members.{has_empty, has_cases, has_minus}
use Rattle.literals.proofs.Within.{within_empty}
use Rattle.literals.proofs.Clashes.{Pair, clash_pair, pair_clash}
use Rattle.program.specs.Program.{Program, Π_mask}
use Rattle.derivation.specs.Closure.{closure, derives, contradictory}
use Rattle.rows.specs.Layout.{row_has}
use Rattle.rows.proofs.Patterns.{has_all}
use Rattle.rows.proofs.Views.{cut_twice, cut_within}
use Rattle.closures.specs.Inside.Table.{begins_at, keeps_at, word_at, tells, Laid, Tells}
use Rattle.closing.specs.Inside.Plan.{Planned, PlanOf, RowsSay}
use Rattle.closing.specs.Inside.Steps.{Header, ClashWord, ClashRow}
use Rattle.closing.proofs.Masks.{plan_derivable}
use Rattle.closing.proofs.Clashings.{laid_same, word_same, begins_same, keeps_same}

-- nothing is cut down to nothing
none_kept : (w : ℕ) → bit_and w 0 ≡ 0
none_kept w = let z = and_le_r w 0 in omega arith

module _ (u keep base : List ℕ) (d s q n v : ℕ) (plan : Planned u keep base d s q n v) (c t : List ℕ) (header : Header d s n v keep base c t)
    (room : n + v < length t) (short : length t < 2 ^ 32) where
  -- each literal's row ends before n
  pub row_ends : (l : ℕ) → l < 128 → begins_at t l + keeps_at t l < n
  row_ends l h = go (has_cases s l) (has_cases d l)
    where
      go : (has s l ≡ true) ⊎ (has s l ≡ false) → (has d l ≡ true) ⊎ (has d l ≡ false) → begins_at t l + keeps_at t l < n
      go (inl live) (inl full) =
          omega (arith, header.derived_begins l h full, header.live_keeps l h live, plan.placed.ends l live, plan.placed.begins l live)
      go (inl live) (inr off) =
          omega (arith, header.live_begins l h live off, header.live_keeps l h live, plan.placed.ends l live)
      go (inr dead) (inl full) = omega (arith, header.derived_begins l h full, header.dead_keeps l h dead, plan.behind)
      go (inr dead) (inr off) = omega (arith, header.dead_begins l h dead off, header.dead_keeps l h dead, plan.behind)

  keeps_few : (l : ℕ) → l < 128 → keeps_at t l < 1024
  keeps_few l h =
      ⊎_elim (λ live. subst (λ (x : ℕ). x < 1024) (sym (header.live_keeps l h live)) (plan.small l))
      (λ dead. subst (λ (x : ℕ). x < 1024) (sym (header.dead_keeps l h dead)) (omega arith)) (has_cases s l)

  pub table_laid : Laid t
  table_laid = record {
    long = omega (arith, plan.behind);
    short = short;
    inside = λ l h. inside_at l h (dec_lt l 128);
    few = λ l h. few_at l h (dec_lt l 128);
  }
    where
      inside_at : (l : ℕ) → l < 129 → Dec (l < 128) → begins_at t l + keeps_at t l < length t
      inside_at l h (yes g) = omega (arith, row_ends l g)
      inside_at l h (no g) =
          let e : l ≡ 128 = omega arith in
          subst (λ (x : ℕ). begins_at t x + keeps_at t x < length t) (sym e) (omega (arith, header.bottom_begins, header.bottom_keeps))

      few_at : (l : ℕ) → l < 129 → Dec (l < 128) → keeps_at t l < 1024
      few_at l h (yes g) = keeps_few l g
      few_at l h (no g) =
          let e : l ≡ 128 = omega arith in
          subst (λ (x : ℕ). keeps_at t x < 1024) (sym e) (omega (arith, header.bottom_keeps, plan.few))

  -- what bears on a literal that may clash bears on the row of the contradictory masks
  kept_within : (l : ℕ) → l < 128 → within (get_or keep l 0) v ≡ true → within (keeps_at t l) v ≡ true
  kept_within l h i =
      ⊎_elim (λ live. ap (λ (x : ℕ). within x v) (header.live_keeps l h live) ∙ i)
      (λ dead. ap (λ (x : ℕ). within x v) (header.dead_keeps l h dead) ∙ within_empty v) (has_cases s l)

  word_cut : (l w : ℕ) → l < 128 → within (get_or keep l 0) v ≡ true → word_at t l (bit_and w v) ≡ word_at t l w
  word_cut l w h i = ap (λ (x : ℕ). get_or t (begins_at t l + x) 0) (cut_twice w v (keeps_at t l) (kept_within l h i))

  module _ (p : Program) (so : PlanOf p u d s) (say : RowsSay p.rules d s keep base c) where
    apart : (l : ℕ) → has s l ≡ true → has d l ≡ false
    apart l h =
        negated (has d l)
        (and_right (has (closure (Π_mask 18446744073709551615 p.rules) 0) l) (not (has d l))
        (sym (has_minus (closure (Π_mask 18446744073709551615 p.rules) 0) d l) ∙ ap (λ (x : ℕ). has x l) (sym so.reach.live_is) ∙ h))
      where
        negated : (b : Bool) → not b ≡ true → b ≡ false
        negated true z = absurd (false≢true z)
        negated false z = refl

    -- a live literal's row, a full one, an empty one
    row_live : (l m : ℕ) → l < 128 → has s l ≡ true → tells t l m ≡ row_has keep base c l m
    row_live l m h live =
        ap (λ (x : ℕ). has x (m % 64))
        (ap₂ (λ (x y : ℕ). get_or t (x + bit_and (m / 64) y) 0) (header.live_begins l h live (apart l live)) (header.live_keeps l h live)
        ∙ header.rows (get_or base l 0 + bit_and (m / 64) (get_or keep l 0)) (omega (arith, plan.placed.begins l live)))

    row_full : (l m : ℕ) → l < 128 → has d l ≡ true → has s l ≡ false → tells t l m ≡ true
    row_full l m h full dead =
        ap (λ (x : ℕ). has x (m % 64))
        (ap₂ (λ (x y : ℕ). get_or t (x + bit_and (m / 64) y) 0) (header.derived_begins l h full) (header.dead_keeps l h dead)
        ∙ ap (λ (x : ℕ). get_or t (1 + x) 0) (none_kept (m / 64)) ∙ header.full)
        ∙ has_all (m % 64) (omega arith)

    row_empty : (l m : ℕ) → l < 128 → has d l ≡ false → has s l ≡ false → tells t l m ≡ false
    row_empty l m h off dead =
        ap (λ (x : ℕ). has x (m % 64))
        (ap₂ (λ (x y : ℕ). get_or t (x + bit_and (m / 64) y) 0) (header.dead_begins l h dead off) (header.dead_keeps l h dead)
        ∙ ap (λ (x : ℕ). get_or t (0 + x) 0) (none_kept (m / 64)) ∙ header.empty)
        ∙ has_empty (m % 64)

    pub literal_tells : (l m : ℕ) → l < 128 → tells t l m ≡ derives (Π_mask m p.rules) l
    literal_tells l m h = go (has_cases s l) (has_cases d l)
      where
        go : (has s l ≡ true) ⊎ (has s l ≡ false) → (has d l ≡ true) ⊎ (has d l ≡ false) → tells t l m ≡ derives (Π_mask m p.rules) l
        go (inl live) g =
            row_live l m h live ∙ sym (say m l ∙ ap₂ (λ (x y : Bool). x || (y && row_has keep base c l m)) (apart l live) live)
        go (inr dead) (inl full) =
            row_full l m h full dead ∙ sym (say m l ∙ ap (λ (x : Bool). x || (has s l && row_has keep base c l m)) full)
        go (inr dead) (inr off) =
            row_empty l m h off dead ∙ sym (say m l ∙ ap₂ (λ (x y : Bool). x || (y && row_has keep base c l m)) off dead)

    -- with the last row
    module _ (e : List ℕ) (row : ClashRow q n v t e) where
      later_tells : (l m : ℕ) → l < 128 → tells e l m ≡ tells t l m
      later_tells l m h = ap (λ (x : ℕ). has x (m % 64)) (word_same t e n row.sized row.before plan.behind l (m / 64) h (row_ends l h))

      bottom_word : (w : ℕ) → word_at e 128 w ≡ get_or e (n + bit_and w v) 0
      bottom_word w =
          ap₂ (λ (x y : ℕ). get_or e (x + bit_and w y) 0)
          (begins_same t e n row.sized row.before plan.behind 128 (omega arith) ∙ header.bottom_begins)
          (keeps_same t e n row.sized row.before plan.behind 128 (omega arith) ∙ header.bottom_keeps)

      bottom_tells : (m : ℕ) → tells e 128 m ≡ contradictory (Π_mask m p.rules)
      bottom_tells m = same_test (tells e 128 m) (contradictory (Π_mask m p.rules)) says passes
        where
          w : ℕ
          w = m / 64

          word : ClashWord t q (bit_and w v) (get_or e (n + bit_and w v) 0)
          word = row.row (bit_and w v) (cut_within w v)

          at : (l : ℕ) → l < 128 → within (get_or keep l 0) v ≡ true → has (word_at t l (bit_and w v)) (m % 64) ≡ derives (Π_mask m p.rules) l
          at l h i = ap (λ (x : ℕ). has x (m % 64)) (word_cut l w h i) ∙ literal_tells l m h

          says : tells e 128 m ≡ true → contradictory (Π_mask m p.rules) ≡ true
          says h = found (word.says (m % 64) (ap (λ (x : ℕ). has x (m % 64)) (sym (bottom_word w)) ∙ h))
            where
              found : ((l : ℕ) × (has q l ≡ true) × (has (word_at t l (bit_and w v)) (m % 64) ≡ true) × (has (word_at t (l + 1) (bit_and w v)) (m % 64) ≡ true))
                  → contradictory (Π_mask m p.rules) ≡ true
              found (l, k, x, y) =
                  let pair = plan.pairs.says l k in
                  let small = (plan.even l k).0 in
                  let one = sym (at l (omega arith) (plan.spans l k).0) ∙ x in
                  let two = sym (at (l + 1) (omega arith) (plan.spans l k).1) ∙ y in
                  pair_clash 64 (closure (Π_mask m p.rules) 0) pair.0 (omega (arith, pair.1))
                  (ap (derives (Π_mask m p.rules)) (sym pair.1) ∙ one)
                  (ap (λ (x : ℕ). derives (Π_mask m p.rules) (x + 1)) (sym pair.1) ∙ two)

          passes : contradictory (Π_mask m p.rules) ≡ true → tells e 128 m ≡ true
          passes h = found (clash_pair 64 (closure (Π_mask m p.rules) 0) h)
            where
              found : Pair 64 (closure (Π_mask m p.rules) 0) → tells e 128 m ≡ true
              found (a, small, x, y) =
                  let member = plan.pairs.passes a (plan_derivable p u d s so (2 * a) m x) (plan_derivable p u d s so (2 * a + 1) m y) in
                  ap (λ (z : ℕ). has z (m % 64)) (bottom_word w)
                  ∙ word.passes (m % 64) (2 * a, member, at (2 * a) (omega arith) (plan.spans (2 * a) member).0 ∙ x, at (2 * a + 1) (omega arith) (plan.spans (2 * a) member).1 ∙ y)

      pub table_tells : Tells p.rules e
      table_tells = record {
        derived = λ l m h. later_tells l m h ∙ literal_tells l m h;
        clashing = bottom_tells;
      }

  pub row_laid : (e : List ℕ) → ClashRow q n v t e → Laid e
  row_laid e row = laid_same t e n row.sized row.before plan.behind table_laid
