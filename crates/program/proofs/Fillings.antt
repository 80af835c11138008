-- Filling the rule table, rule by rule.
use mathlib.Core.Path.{◌≡◌, refl, sym, ap, ap₂, subst, ◌∙◌}
use mathlib.Core.Bool.{Bool, true}
use mathlib.Core.List.{List, [], ◌∷◌}
use mathlib.Core.Logic.{◌⊎◌, inl, inr}
use Prim.Native.Nat.{ℕ, zero, suc, ◌+◌, ◌*◌, ◌^◌, ◌<◌, ◌≤◌}
use native.Mathlib.Nat.{eq-or-lt_of_le}
use native.Mathlib.Omega.{arith}
use lib.ListN.{length, get_or, set, take, length-set}
use lib.Seq.{get_or-set_same, get_or-set_other}
use Rattle.lists.specs.Lists.{choose}
use Rattle.literals.specs.declared.LiteralSet.{LiteralSet}
use Rattle.literals.specs.Sets.{insert_all}
use Rattle.literals.specs.Inside.Words.{joined, set_of}
use Rattle.program.specs.Program.{Kind, strict, defeasible, Rule, Program, is_defeasible, next_bit, defeasibles_from, defeasibles, bit_of, rule_at}
use Rattle.program.specs.Limits.{DefeasibleAt}
use Rattle.program.specs.Inside.Table.{Row, rule_of_bit, need_of, BeatenMask, Holds}
use Rattle.program.specs.Inside.Store.{with_row, with_bit, with_counts}
use Rattle.program.specs.Inside.Filling.{SameRow, Stored, RowsTo, Chained}
use Rattle.program.proofs.Numbers.{defeasible_found, bit_of_less, bit_of_below}
use Rattle.program.proofs.Stores.{Beside, beside_row, beside_rows, row_beside, row_head, row_body, row_need, row_length}

-- the next rule's bit, by the kind of this one
pub bit_of_next : (l : List Rule) (n i : ℕ) → i < length l → defeasibles_from n (take (suc i) l) ≡ next_bit (rule_at l i).kind (defeasibles_from n (take i l))
unfolding defeasibles_from
bit_of_next [] n i h = absurd (omega arith)
bit_of_next (r ∷ l) n zero h = refl
bit_of_next (r ∷ l) n (suc i) h = bit_of_next l (next_bit r.kind n) i (omega arith)

row_kept : (r : Rule) (b i : ℕ) (s t : List ℕ) → SameRow s t i → Row r b s i → Row r b t i
row_kept r b i s t k o =
    record { head_is = k.head_same ∙ o.head_is; body_is = k.body_same ∙ o.body_is; need_is = k.need_same ∙ o.need_is }

row_trans : (s t u : List ℕ) (i : ℕ) → SameRow s t i → SameRow t u i → SameRow s u i
row_trans s t u i a b = record {
  head_same = b.head_same ∙ a.head_same;
  body_same = b.body_same ∙ a.body_same;
  need_same = b.need_same ∙ a.need_same;
}

-- a store behind the rows leaves them
pub row_behind : (t : List ℕ) (k v j : ℕ) → j < 96 → 384 ≤ k → SameRow t (set t k v) j
row_behind t k v j l h = record {
  head_same = get_or-set_other t k (4 * j) v 0 (λ e. omega arith);
  body_same = ap₂ joined (get_or-set_other t k (4 * j + 2) v 0 (λ e. omega arith)) (get_or-set_other t k (4 * j + 1) v 0 (λ e. omega arith));
  need_same = get_or-set_other t k (4 * j + 3) v 0 (λ e. omega arith);
}

module _ (l : List Rule) (n : ℕ) (s t : List ℕ) (few : n ≤ 96) (bits : bit_of l n ≤ 16) where
  -- one rule more
  pub rows_more : RowsTo l n s → Stored (rule_at l n) n (bit_of l n) s t → RowsTo l (suc n) t
  rows_more r k = record { row = λ i h. at i (eq-or-lt_of_le {n = i} {m = n} (omega arith)); rule_of = λ i h d. of i d (eq-or-lt_of_le {n = i} {m = n} (omega arith)) }
    where
      at : (i : ℕ) → (i ≡ n) ⊎ (i < n) → Row (rule_at l i) (bit_of l i) t i
      at i (inl e) = subst (λ (j : ℕ). Row (rule_at l j) (bit_of l j) t j) (sym e) k.row
      at i (inr h) = row_kept (rule_at l i) (bit_of l i) i s t (k.rows_kept i (omega arith) (λ e. omega arith)) (r.row i h)

      of : (i : ℕ) → is_defeasible (rule_at l i).kind ≡ true → (i ≡ n) ⊎ (i < n) → rule_of_bit t (bit_of l i) ≡ i
      of i d (inl e) =
          subst (λ (j : ℕ). rule_of_bit t (bit_of l j) ≡ j) (sym e)
          (k.bit_is (subst (λ (j : ℕ). is_defeasible (rule_at l j).kind ≡ true) e d))
      of i d (inr h) =
          let here : DefeasibleAt l i = defeasible_found l i d in
          let below = bit_of_less l here h in
          k.bits_kept (bit_of l i) (omega arith) (λ e. omega arith) ∙ r.rule_of i h d

-- ---- one rule, as the stores leave it
module _ (r : Rule) (i b : ℕ) (s : List ℕ) (h : ℕ) (body : LiteralSet) (small : i < 96) (long : length s ≡ 419) (head_is : h ≡ r.head) (body_is : set_of body ≡ insert_all 0 r.body) where
  kept : (n j : ℕ) → j < 96 → (j ≡ i → ⊥) → SameRow s (with_row s i h body n) j
  kept n j l d =
      let zero_at : Beside i (4 * j) = subst (Beside i) (omega arith) (beside_row i j 0 d (omega arith)) in
      record {
        head_same = row_beside s i h body n (4 * j) zero_at;
        body_same = ap₂ joined (row_beside s i h body n (4 * j + 2) (beside_row i j 2 d (omega arith))) (row_beside s i h body n (4 * j + 1) (beside_row i j 1 d (omega arith)));
        need_same = row_beside s i h body n (4 * j + 3) (beside_row i j 3 d (omega arith));
      }

  held : (n : ℕ) → n ≡ need_of r.kind b → Row r b (with_row s i h body n) i
  held n e =
      record {
        head_is = row_head s i h body n small long ∙ head_is;
        body_is = row_body s i h body n small long ∙ body_is;
        need_is = row_need s i h body n small long ∙ e;
      }

  pub stored_strict : r.kind ≡ strict → Stored r i b s (with_row s i h body 0)
  stored_strict k = record {
    row = held 0 (ap (λ (c : Kind). need_of c b) (sym k));
    bit_is = λ d. absurd (let z : ◌≡◌ {A = ℕ} 0 1 = ap (λ (t : Bool). choose t 0 1) (sym d ∙ ap is_defeasible k) ∙ refl in omega arith);
    rows_kept = kept 0;
    bits_kept = λ k l d. row_beside s i h body 0 (384 + k) (beside_rows i (384 + k) small (omega arith));
  }

  pub stored_defeasible : r.kind ≡ defeasible → b < 16 → Stored r i b s (with_bit (with_row s i h body (2 ^ b)) b i)
  stored_defeasible k l =
      let t = with_row s i h body (2 ^ b) in
      record {
        row = row_kept r b i t (with_bit t b i) (row_behind t (384 + b) i i small (omega arith)) (held (2 ^ b) (ap (λ (c : Kind). need_of c b) (sym k)));
        bit_is = λ d. get_or-set_same t (384 + b) i 0 (omega (arith, row_length s i h body (2 ^ b)));
        rows_kept = λ j m d. row_trans s t (with_bit t b i) j (kept (2 ^ b) j m d) (row_behind t (384 + b) i j m (omega arith));
        bits_kept = λ n m d.
            get_or-set_other t (384 + b) (384 + n) i 0 (λ e. d (omega arith))
            ∙ row_beside s i h body (2 ^ b) (384 + n) (beside_rows i (384 + n) small (omega arith));
      }

-- ---- the masks of those that each rule beats by a listed pair

-- what leaves the words before those masks leaves the rules
pub rows_same : (l : List Rule) (n : ℕ) (s t : List ℕ) → n ≤ 96 → defeasibles l ≤ 16
    → ((w : ℕ) → w < 400 → get_or t w 0 ≡ get_or s w 0) → RowsTo l n s → RowsTo l n t
rows_same l n s t few bits same r = record {
  row = λ i h. row_kept (rule_at l i) (bit_of l i) i s t (record {
    head_same = same (4 * i) (omega arith);
    body_same = ap₂ joined (same (4 * i + 2) (omega arith)) (same (4 * i + 1) (omega arith));
    need_same = same (4 * i + 3) (omega arith);
  }) (r.row i h);
  rule_of = λ i h d.
      let small = bit_of_below l (defeasible_found l i d) in
      same (384 + bit_of l i) (omega arith) ∙ r.rule_of i h d;
}

kept_rows : (l : List Rule) (n : ℕ) (s : List ℕ) (k v : ℕ) → n ≤ 96 → defeasibles l ≤ 16 → 400 ≤ k → RowsTo l n s → RowsTo l n (set s k v)
kept_rows l n s k v few bits far r =
    rows_same l n s (set s k v) few bits (λ w h. get_or-set_other s k w v 0 (λ e. omega arith)) r

-- ---- and the counts
module _ (p : Program) (s t : List ℕ) (few : length p.rules ≤ 96) (bits : defeasibles p.rules ≤ 16) where
  pub counts_hold : (rules many atoms : ℕ) → length s ≡ 419 → Chained p s → rules ≡ length p.rules → many ≡ defeasibles p.rules → atoms ≡ p.atoms → t ≡ with_counts s rules many atoms → Holds p t
  counts_hold rules many atoms long b er em ea e = subst (Holds p) (sym e) (record {
    rules_are = get_or-set_other two 418 416 atoms 0 (λ q. omega arith) ∙ get_or-set_other one 417 416 many 0 (λ q. omega arith) ∙ get_or-set_same s 416 rules 0 (omega arith) ∙ er;
    bits_are = get_or-set_other two 418 417 atoms 0 (λ q. omega arith) ∙ get_or-set_same one 417 many 0 (simp length-set (omega arith)) ∙ em;
    atoms_are = get_or-set_same two 418 atoms 0 (simp length-set (omega arith)) ∙ ea;
    row = rows.row;
    rule_of = rows.rule_of;
    beaten_is = λ i h d.
        let small = bit_of_below p.rules (defeasible_found p.rules i d) in
        let same =
        get_or-set_other two 418 (400 + bit_of p.rules i) atoms 0 (λ q. omega arith)
        ∙ get_or-set_other one 417 (400 + bit_of p.rules i) many 0 (λ q. omega arith)
        ∙ get_or-set_other s 416 (400 + bit_of p.rules i) rules 0 (λ q. omega arith) in
        subst (BeatenMask p i) (sym same) (b.beaten_is i h d);
  })
    where
      one : List ℕ
      one = set s 416 rules

      two : List ℕ
      two = set one 417 many

      n : ℕ
      n = length p.rules

      rows : RowsTo p.rules n (set two 418 atoms)
      rows =
          kept_rows p.rules n two 418 atoms few bits (omega arith)
          (kept_rows p.rules n one 417 many few bits (omega arith)
          (kept_rows p.rules n s 416 rules few bits (omega arith) b.rows))
