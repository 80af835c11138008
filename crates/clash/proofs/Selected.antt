-- Some rules in a table of their own: that they derive what they do, and the loop that writes them.
use mathlib.Core.Path.{◌≡◌, refl, sym, ap, ap₂, subst, subst₂, ◌∙◌}
use mathlib.Core.Bool.{Bool, true, false, false≢true}
use mathlib.Core.List.{List, [], ◌∷◌, map}
use mathlib.Core.Logic.{◌⊎◌, inl, inr}
use Prim.Native.Nat.{ℕ, zero, suc, ◌+◌, ◌*◌, ◌<◌, ◌≤◌}
use native.Mathlib.Decide.{dec_lt}
use native.Mathlib.Nat.{eq-or-lt_of_le}
use native.Mathlib.Numerals.{add-one}
use native.Mathlib.Omega.{arith}
use lib.Dec.{eqb}
use lib.ListN.{length, set, take, drop, length-map, drop_of_length-le}
use lib.Seq.{drop-cons, get_or-set_same, get_or-set_other}
use Rattle.lists.specs.Lists.{keep}
use Rattle.literals.specs.declared.LiteralSet.{LiteralSet}
use Rattle.literals.specs.Sets.{has, insert_all, clash}
use Rattle.literals.specs.Inside.Words.{set_of}
use Rattle.program.specs.Program.{strict, Rule, Program, fact, is_defeasible, defeasibles_from, bit_of, rule_at, chosen_from, Π_mask}
use Rattle.program.specs.Inside.Table.{head_at, body_at, rule_count, atom_count, Holds, Shaped}
use Rattle.program.specs.Inside.Store.{with_row, with_counts}
use Rattle.program.specs.Inside.Filling.{RowsTo}
use Rattle.program.proofs.Stores.{Beside, beside_row, row_beside, row_head, row_length}
use Rattle.program.proofs.Fillings.{row_behind, rows_more, stored_strict, counts_hold}
use Rattle.derivation.specs.Closure.{fire, round, rounds, closure, contradictory}
use Rattle.clash.specs.Clash.{among_from, among}
use Rattle.clash.specs.Inside.Selected.{as_strict, strictly, selected}

-- ---- what they derive

round_strict : (l : List Rule) (s : ℕ) → round (map as_strict l) s ≡ round l s
unfolding round fire
round_strict [] s = refl
round_strict (r ∷ l) s = round_strict l (fire r s)

rounds_strict : (n : ℕ) (l : List Rule) (s : ℕ) → rounds n (map as_strict l) s ≡ rounds n l s
unfolding rounds
rounds_strict zero l s = refl
rounds_strict (suc n) l s =
    ap (λ (t : ℕ). elim (eqb t s) [ true ↦ s | false ↦ rounds n (map as_strict l) t ]) (round_strict l s)
    ∙ ap (λ (t : ℕ). elim (eqb (round l s) s) [ true ↦ s | false ↦ t ]) (rounds_strict n l (round l s))

closure_strict : (l : List Rule) (s : ℕ) → closure (map as_strict l) s ≡ closure l s
unfolding closure
closure_strict l s =
    ap (λ (n : ℕ). rounds n (map as_strict l) s) (length-map l as_strict) ∙ rounds_strict (length l) l s

-- all are chosen
all_chosen : (f : ℕ → Bool) (b : ℕ) (l : List Rule) → chosen_from f b (map as_strict l) ≡ map as_strict l
unfolding chosen_from
all_chosen f b [] = refl
all_chosen f b (r ∷ l) = ap (λ (rest : List Rule). as_strict r ∷ rest) (all_chosen f b l)

pub selected_clash : (k : ℕ) (rules : List Rule) (mask given c : ℕ) (r : Bool) → given ≡ 0
    → c ≡ closure (Π_mask mask (strictly k rules)) given → r ≡ clash c → r ≡ contradictory (among k rules)
selected_clash k rules mask given c r z e f =
    f
    ∙ ap clash
    (e ∙ ap₂ closure (all_chosen (has mask) 0 (among k rules)) z ∙ closure_strict (among k rules) 0)

-- ---- their kinds and bits

strict_kind : (l : List Rule) (i : ℕ) → (rule_at (map as_strict l) i).kind ≡ strict
strict_kind [] i = refl
strict_kind (r ∷ l) zero = refl
strict_kind (r ∷ l) (suc i) = strict_kind l i

strict_bits : (b n : ℕ) (l : List Rule) → defeasibles_from b (take n (map as_strict l)) ≡ b
unfolding defeasibles_from
strict_bits b zero l = refl
strict_bits b (suc n) [] = refl
strict_bits b (suc n) (r ∷ l) = strict_bits b n l

strict_none : (b : ℕ) (l : List Rule) → defeasibles_from b (map as_strict l) ≡ b
unfolding defeasibles_from
strict_none b [] = refl
strict_none b (r ∷ l) = strict_none b l

-- ---- the loop

-- a list that goes on with x
module _ (l rest : List Rule) (m : ℕ) (x : Rule) (e : drop m l ≡ x ∷ rest) where
  goes_on : m < length l
  goes_on = go (dec_lt m (length l))
    where
      go : Dec (m < length l) → m < length l
      go (yes h) = h
      go (no h) =
          absurd (let z : 0 ≡ suc (length rest) = ap length (sym (drop_of_length-le l {i = m} (omega arith)) ∙ e) in omega arith)

  parts : rule_at l m ∷ drop (suc m) l ≡ x ∷ rest
  parts = sym (drop-cons l m (fact 0) goes_on) ∙ e

  next_is : rule_at l m ≡ x
  next_is = ap (λ (q : List Rule). rule_at q 0) parts

  rest_is : drop (suc m) l ≡ rest
  rest_is = ap (drop 1) parts

-- a list that ends there
ended : (l : List Rule) (m : ℕ) → drop m l ≡ [] → m ≤ length l → m ≡ length l
ended l m e h = go (dec_lt m (length l))
  where
    go : Dec (m < length l) → m ≡ length l
    go (yes b) =
        absurd (let z : 0 ≡ suc (length (drop (suc m) l)) = ap length (sym e ∙ drop-cons l m (fact 0) b) in omega arith)
    go (no b) = omega arith

-- of the rules of a program m are written, and those from rule i on are still to be looked at
pub record Written (p : Program) (k i m : ℕ) (part : List ℕ) : Type 0 where
  pub there : m ≤ length (strictly k p.rules)
  pub left : drop m (strictly k p.rules) ≡ map as_strict (among_from k i (drop i p.rules))
  pub rows : RowsTo (strictly k p.rules) m part

pub record Selecting (t : List ℕ) (k n i m : ℕ) (part : List ℕ) : Type 0 where
  pub inside : i ≤ n
  pub few : m ≤ i
  pub long : length part ≡ 419
  pub literals : (j : ℕ) → j < m → head_at part j < 128
  pub written : (p : Program) → Holds p t → Written p k i m part

module _ (t : List ℕ) (k n : ℕ) (count : n ≡ rule_count t) where
  pub selecting_start : (part : List ℕ) → length part ≡ 419 → Selecting t k n 0 0 part
  selecting_start part long = record {
    inside = omega arith;
    few = omega arith;
    long = long;
    literals = λ j h. absurd (omega arith);
    written = λ p h. record {
      there = omega arith;
      left = refl;
      rows = record { row = λ j l. absurd (omega arith); rule_of = λ j l. absurd (omega arith) };
    };
  }

  module _ (i m : ℕ) (part : List ℕ) (few : n ≤ 96) (less : i < n) (selecting : Selecting t k n i m part) where
    from : (p : Program) → Holds p t
        → among_from k i (drop i p.rules) ≡ keep (has k i) (rule_at p.rules i) (among_from k (suc i) (drop (suc i) p.rules))
    unfolding among_from
    from p h = ap (among_from k i) (drop-cons p.rules i (fact 0) (omega (arith, h.rules_are)))

    kept : (b : Bool) → has k i ≡ b → (p : Program) → Holds p t
        → drop m (strictly k p.rules) ≡ map as_strict (keep b (rule_at p.rules i) (among_from k (suc i) (drop (suc i) p.rules)))
    kept b e p h =
        (selecting.written p h).left ∙ ap (map as_strict) (from p h)
        ∙ ap (λ (x : Bool). map as_strict (keep x (rule_at p.rules i) (among_from k (suc i) (drop (suc i) p.rules)))) e

    past : has k i ≡ false → Selecting t k n (i + 1) m part
    past e = record {
      inside = omega arith;
      few = omega (arith, selecting.few);
      long = selecting.long;
      literals = selecting.literals;
      written = λ p h. record {
        there = (selecting.written p h).there;
        left = kept false e p h
            ∙ ap (λ (j : ℕ). map as_strict (among_from k j (drop j p.rules))) (sym (add-one i));
        rows = (selecting.written p h).rows;
      };
    }

    module _ (there : has k i ≡ true) (h : ℕ) (body : LiteralSet) (eh : h ≡ head_at t i) (small : head_at t i < 128)
        (eb : set_of body ≡ body_at t i) where
      place : m < 96
      place = omega (arith, selecting.few)

      literals_next : (j : ℕ) → j < m + 1 → head_at (with_row part m h body 0) j < 128
      literals_next j l = go (eq-or-lt_of_le {n = j} {m = m} (omega arith))
        where
          go : (j ≡ m) ⊎ (j < m) → head_at (with_row part m h body 0) j < 128
          go (inl e) =
              let at : head_at (with_row part m h body 0) j ≡ h = ap (head_at (with_row part m h body 0)) e ∙ row_head part m h body 0 place selecting.long in
              omega arith
          go (inr b) =
              let beside : Beside m (4 * j) = subst (Beside m) (omega arith) (beside_row m j 0 (λ e. omega arith) (omega arith)) in
              let at : head_at (with_row part m h body 0) j ≡ head_at part j = row_beside part m h body 0 (4 * j) beside in
              omega (arith, selecting.literals j b)

      written_next : (p : Program) → Holds p t → Written p k (i + 1) (m + 1) (with_row part m h body 0)
      written_next p holds =
          let next = next_is total _ m _ (kept true there p holds) in
          let row = holds.row i (omega (arith, holds.rules_are)) in
          record {
            there = omega (arith, goes_on total _ m _ (kept true there p holds));
            left =
                ap (λ (j : ℕ). drop j total) (add-one m) ∙ rest_is total _ m _ (kept true there p holds)
                ∙ ap (λ (j : ℕ). map as_strict (among_from k j (drop j p.rules))) (sym (add-one i));
            rows =
                subst (λ (j : ℕ). RowsTo total j (with_row part m h body 0)) (sym (add-one m))
                (rows_more total m part (with_row part m h body 0) (omega (arith, place))
                (omega (arith, strict_bits 0 m (among k p.rules))) (selecting.written p holds).rows
                (stored_strict (rule_at total m) m (bit_of total m) part h body place selecting.long
                (eh ∙ row.head_is ∙ ap (λ (r : Rule). r.head) (sym next))
                (eb ∙ row.body_is ∙ ap (λ (r : Rule). insert_all 0 r.body) (sym next))
                (strict_kind (among k p.rules) m)));
          }
        where
          total : List Rule
          total = strictly k p.rules

      put : Selecting t k n (i + 1) (m + 1) (with_row part m h body 0)
      put = record {
        inside = omega arith;
        few = omega (arith, selecting.few);
        long = row_length part m h body 0 ∙ selecting.long;
        literals = literals_next;
        written = written_next;
      }

    -- the words of rule i, and the row that they make
    abbrev pub RowWritten : List ℕ → Type 0
    RowWritten after = (h : ℕ) × (body : LiteralSet) × (h ≡ head_at t i) × (set_of body ≡ body_at t i) × (after ≡ with_row part m h body 0)

    pub selecting_next : (many : ℕ) (after : List ℕ) → head_at t i < 128
        → ((has k i ≡ true) × (many ≡ m + 1) × RowWritten after) ⊎ ((has k i ≡ false) × (many ≡ m) × (after ≡ part))
        → Selecting t k n (i + 1) many after
    selecting_next many after small (inl (there, e, (h, body, eh, eb, ea))) =
        subst₂ (Selecting t k n (i + 1)) (sym e) (sym ea) (put there h body eh small eb)
    selecting_next many after small (inr (absent, e, ea)) = subst₂ (Selecting t k n (i + 1)) (sym e) (sym ea) (past absent)

  module _ (i m atoms : ℕ) (part after : List ℕ) (few : n ≤ 96) (over : n ≤ i) (selecting : Selecting t k n i m part)
      (ea : atoms ≡ atom_count t) (e : after ≡ with_counts part m 0 atoms) where
    head_kept : (j : ℕ) → j < 96 → head_at (with_counts part m 0 atoms) j ≡ head_at part j
    head_kept j l =
        (row_behind (set (set part 416 m) 417 0) 418 atoms j l (omega arith)).head_same
        ∙ (row_behind (set part 416 m) 417 0 j l (omega arith)).head_same
        ∙ (row_behind part 416 m j l (omega arith)).head_same

    count_kept : rule_count (with_counts part m 0 atoms) ≡ m
    count_kept =
        get_or-set_other (set (set part 416 m) 417 0) 418 416 atoms 0 (λ q. omega arith)
        ∙ get_or-set_other (set part 416 m) 417 416 0 0 (λ q. omega arith)
        ∙ get_or-set_same part 416 m 0 (omega (arith, selecting.long))

    pub selected_shaped : Shaped after
    selected_shaped =
        subst Shaped (sym e) (record {
          few = omega (arith, count_kept, selecting.few, selecting.inside);
          literals = λ j l.
              let less : j < m = omega (arith, count_kept) in
              omega (arith, head_kept j (omega (arith, selecting.few, selecting.inside)), selecting.literals j less);
        })

    pub selected_holds : (p : Program) → Holds p t → Holds (selected k p) after
    unfolding among_from
    selected_holds p h =
        counts_hold (selected k p) part after
        (omega (arith, all, selecting.few, selecting.inside)) (omega (arith, strict_none 0 (among k p.rules))) m 0 atoms selecting.long
        (record {
          rows = subst (λ (j : ℕ). RowsTo (strictly k p.rules) j part) all (selecting.written p h).rows;
          beaten_is = λ j l d. absurd (false≢true (ap is_defeasible (sym (strict_kind (among k p.rules) j)) ∙ d));
        })
        all (sym (strict_none 0 (among k p.rules))) (ea ∙ h.atoms_are) e
      where
        none : drop m (strictly k p.rules) ≡ []
        none =
            (selecting.written p h).left
            ∙ ap (λ (l : List Rule). map as_strict (among_from k i l)) (drop_of_length-le p.rules {i = i} (omega (arith, h.rules_are)))

        all : m ≡ length (strictly k p.rules)
        all = ended (strictly k p.rules) m none (selecting.written p h).there
