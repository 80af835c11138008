-- Pair by pair: causes 12 and 13 by the table, and the masks of the rules that each beats by a listed pair.
use mathlib.Core.Path.{◌≡◌, refl, sym, ap, ap₂, subst, ◌∙◌}
use mathlib.Core.Bool.{Bool, true, false, not, ◌||◌}
use mathlib.Core.List.{List}
use Prim.Native.Nat.{ℕ, suc, ◌+◌, ◌-◌, ◌*◌, ◌^◌, ◌<◌, ◌≤◌}
use native.Mathlib.Numerals.{add-one}
use native.Mathlib.Nat.{sub-zero}
use native.Mathlib.Decide.{ℕ_discrete}
use native.Mathlib.Omega.{arith}
use lib.ListN.{length, get_or, take, drop, length-set}
use lib.Seq.{get_or-set_same, get_or-set_other}
use lib.Dec.{ltb, leb, eqb, leb-suc-suc}
use borrow.Author.Tests.{le-ltb, leb-false, not-false}
use Rattle.literals.specs.Sets.{union}
use Rattle.literals.proofs.Members.{insert_union}
use Rattle.program.specs.Program.{Kind, Rule, is_defeasible, defeasibles, bit_of, rule_at}
use Rattle.program.specs.Limits.{DefeasibleAt}
use Rattle.program.specs.Inside.Table.{need_at, need_of, beaten_at}
use Rattle.program.specs.Inside.Store.{with_beaten}
use Rattle.program.specs.Inside.Filling.{RowsTo, listed_from, ListedIn}
use Rattle.program.proofs.Numbers.{bit_of_same, bit_of_below, defeasible_found}
use Rattle.program.proofs.Fillings.{rows_same}
use Rattle.layout.specs.declared.cursor.Cursor.{Cursor}
use Rattle.layout.specs.declared.Refusal.{Refusal}
use Rattle.std.specs.Prelude.{Some, Err}
use Rattle.layout.specs.Layout.{rules_of, pair_count_of, size_of, part_of, kind_byte, first_of, second_of}
use Rattle.layout.specs.declared.Cause.TheVariants.{PairNames}
use Rattle.layout.specs.Causes.{accepted, refuse, not_defeasible, bad_pair, bad_order, pair_code, pair_verdict, pairs_verdict}
use Rattle.layout.specs.Reading.{pairs_in, program_in}
use Rattle.layout.specs.Inside.Steps.{pair_from, Located}
use Rattle.layout.proofs.Directory.{neither_left, neither_right}
use Rattle.layout.proofs.Cursors.{pair_is}
use Rattle.layout.proofs.Parts.{located_part, located_length}
use Rattle.image.specs.Inside.Passes.{all_rules, AllRead, absent_in, pair_tested}
use Rattle.image.proofs.EachRule.{kind_defeasible}
use Rattle.image.proofs.EachPair.{pair_by, pairs_next, pairs_end}
use Rattle.image.proofs.Readings.{rules_length, rules_at, listed_other, listed_one, listed_end}
use Rattle.image.proofs.Accepted.{then_left, refuse_not}
use Rattle.image.proofs.Repeated.{need_kind, kind_test}

-- what the walk over the pairs has left
pub record Pairing (s : List ℕ) (cursor : Cursor) (least place : ℕ) (t : List ℕ) : Type 0 where
  pub here : cursor.at ≡ 2 * place
  pub inside : place ≤ pair_count_of s
  pub long : length t ≡ 419
  pub rows : RowsTo (all_rules s) (rules_of s) t
  pub verdict : pairs_verdict s 0 (pair_count_of s) ≡ pairs_verdict s place (pair_count_of s - place)
  pub order : bad_order s place ≡ ltb (pair_code s place) least
  pub left : (i : ℕ) → is_defeasible (rule_at (all_rules s) i).kind ≡ true → listed_from (all_rules s) i 0 (pairs_in s 0 (pair_count_of s)) ≡ listed_from (all_rules s) i (beaten_at t (bit_of (all_rules s) i)) (pairs_in s place (pair_count_of s - place))

-- what the rules have left, by the bytes of the last part
pub record Base (s bytes : List ℕ) (rules count : ℕ) : Type 0 where
  pub rules_are : rules ≡ rules_of s
  pub count_is : count ≡ pair_count_of s
  pub few : rules_of s ≤ 96
  pub bits : defeasibles (all_rules s) ≤ 16
  pub part : bytes ≡ part_of s (rules_of s)
  pub size : length bytes ≡ size_of s (rules_of s)

pub base_of : (s t : List ℕ) (bits from rules count : ℕ) → AllRead s t bits from → rules ≡ rules_of s → rules ≤ 96 → count ≡ pair_count_of s → Base s (take (length s - from) (drop from s)) rules count
base_of s t bits from rules count all are few is =
    let l : Located s (rules_of s) from (length s) = record { from_is = all.from_is; to_is = sym all.ends } in
    record {
      rules_are = are;
      count_is = is;
      few = omega arith;
      bits = omega (arith, all.bits_are, all.few);
      part = located_part s (rules_of s) from (length s) l;
      size = located_length s (rules_of s) from (length s) l (omega arith);
    }

module _ (s bytes : List ℕ) (rules count : ℕ) (base : Base s bytes rules count) where
  bit_small : (i : ℕ) → is_defeasible (rule_at (all_rules s) i).kind ≡ true → bit_of (all_rules s) i < 16
  bit_small i d = let x = bit_of_below (all_rules s) (defeasible_found (all_rules s) i d) in let b = base.bits in omega arith

  pub pairing_start : (cursor : Cursor) (t u : List ℕ) → cursor.at ≡ 0 → length u ≡ 419 → RowsTo (all_rules s) (rules_of s) t → ((b : ℕ) → b < 16 → beaten_at u b ≡ 0) → ((w : ℕ) → w < 400 → get_or u w 0 ≡ get_or t w 0) → Pairing s cursor 0 0 u
  pairing_start cursor t u at long r none same = record {
    here = omega arith;
    inside = omega arith;
    long = long;
    rows = rows_same (all_rules s) (rules_of s) t u base.few base.bits same r;
    verdict = rw sub-zero refl;
    order = sym (le-ltb (pair_code s 0) 0 (omega arith));
    left = λ i d. ap₂ (λ (m n : ℕ). listed_from (all_rules s) i m (pairs_in s 0 n)) (sym (none (bit_of (all_rules s) i) (bit_small i d))) (sym (sub-zero (pair_count_of s)));
  }

  module _ (cursor : Cursor) (least j : ℕ) (t : List ℕ) (w : Pairing s cursor least j t) where
    -- a rule that is absent or not defeasible has no bit
    absent_is : (a : ℕ) → absent_in t (rules_of s) a ≡ not_defeasible s a
    absent_is a = go (leb (rules_of s) a) refl
      where
        twice : (b : Bool) → not (not b) ≡ b
        twice true = refl
        twice false = refl

        go : (b : Bool) → leb (rules_of s) a ≡ b → absent_in t (rules_of s) a ≡ not_defeasible s a
        go true e = ap (λ (b : Bool). b || eqb (need_at t a) 0) e ∙ sym (ap (λ (b : Bool). b || not (eqb (kind_byte (part_of s a)) 1)) e)
        go false e =
            let h = leb-false (rules_of s) a e in
            let k : not (eqb (need_at t a) 0) ≡ eqb (kind_byte (part_of s a)) 1 =
            ap (λ (n : ℕ). not (eqb n 0)) (w.rows.row a h).need_is ∙ need_kind (rule_at (all_rules s) a).kind (bit_of (all_rules s) a)
            ∙ ap (λ (r : Rule). is_defeasible r.kind) (rules_at s (rules_of s) a h) ∙ kind_test (part_of s a) in
            ap (λ (b : Bool). leb (rules_of s) a || b) (sym (twice (eqb (need_at t a) 0)) ∙ ap not k)

    -- the cursor hands out pair j
    pub record Taken (a b : ℕ) (next : Cursor) : Type 0 where
      pub first : a ≡ first_of s j
      pub second : b ≡ second_of s j
      pub more : j < pair_count_of s
      pub next_at : next.at ≡ cursor.at + 2
      pub less : cursor.at + 2 ≤ length bytes

    pub taken : (x y a b : ℕ) (next : Cursor) → length bytes ≡ 2 * count → pair_from bytes cursor.at ≡ Some (x, y, next) → a ≡ x → b ≡ y → Taken a b next
    taken x y a b next size e ea eb =
        let q = pair_is bytes cursor.at x y next e in
        let at = w.here in
        record {
          first = ea ∙ q.first_is ∙ ap₂ (λ (l : List ℕ) (n : ℕ). get_or l n 0) base.part at;
          second = eb ∙ q.second_is ∙ ap₂ (λ (l : List ℕ) (n : ℕ). get_or l (n + 1) 0) base.part at;
          more = omega (arith, q.room, base.count_is);
          next_at = q.next;
          less = q.room;
        }

    module _ (a b : ℕ) (next : Cursor) (now : Taken a b next) where
      abbrev first : a ≡ first_of s j
      first = now.first

      abbrev second : b ≡ second_of s j
      second = now.second

      pub tested : pair_tested t rules a b least j ≡ pair_verdict s j
      tested =
          ap (λ (n : ℕ). pair_tested t n a b least j) base.rules_are
          ∙ ap₂ (λ (x y : ℕ). pair_tested t (rules_of s) x y least j) first second
          ∙ pair_by s j (absent_in t (rules_of s) (first_of s j)) (absent_in t (rules_of s) (second_of s j)) (eqb (first_of s j) (second_of s j)) (ltb (pair_code s j) least) (sym (absent_is (first_of s j))) (sym (absent_is (second_of s j))) refl w.order

      pub pairing_refused : (r : Refusal) → pair_verdict s j ≡ Err r → pairs_verdict s 0 (pair_count_of s) ≡ Err r
      pairing_refused r e = w.verdict ∙ pairs_next s j (pair_count_of s) (Err r) now.more e

      module _ (e : pair_verdict s j ≡ accepted) where
        fine : bad_pair s j ≡ false
        unfolding pair_verdict
        fine = refuse_not (bad_pair s j) PairNames j (then_left (refuse (bad_pair s j) PairNames j) _ e)

        named : (x : ℕ) → not_defeasible s x ≡ false → DefeasibleAt (all_rules s) x
        named x q =
            let h = leb-false (rules_of s) x (neither_left (leb (rules_of s) x) _ q) in
            record {
              there = omega (arith, rules_length s 0 (rules_of s));
              kind_is = ap (λ (r : Rule). r.kind) (rules_at s (rules_of s) x h) ∙ kind_defeasible (part_of s x) (not-false _ (neither_right (leb (rules_of s) x) _ q));
            }

        one : DefeasibleAt (all_rules s) a
        one = subst (DefeasibleAt (all_rules s)) (sym first) (named (first_of s j) (neither_left (not_defeasible s (first_of s j)) _ fine))

        other : DefeasibleAt (all_rules s) b
        other =
            subst (DefeasibleAt (all_rules s)) (sym second)
            (named (second_of s j) (neither_left (not_defeasible s (second_of s j)) _ (neither_right (not_defeasible s (first_of s j)) _ fine)))

        small : (x : ℕ) → DefeasibleAt (all_rules s) x → x < 96
        small x d = let h = d.there in omega (arith, rules_length s 0 (rules_of s), base.few)

        need_is : (x : ℕ) → DefeasibleAt (all_rules s) x → need_at t x ≡ 2 ^ bit_of (all_rules s) x
        need_is x d =
            let h = d.there in
            (w.rows.row x (omega (arith, rules_length s 0 (rules_of s)))).need_is ∙ ap (λ (k : Kind). need_of k (bit_of (all_rules s) x)) d.kind_is

        bit_few : bit_of (all_rules s) a < 16
        bit_few = let x = bit_of_below (all_rules s) one in let b = base.bits in omega arith

        pub need_first : need_at t a ≡ 2 ^ bit_of (all_rules s) a
        need_first = need_is a one

        -- both rules are in the table, and the first has a bit
        pub both_there : (a < 96) × (b < 96) × ((k : ℕ) × (k < 16) × (need_at t a ≡ 2 ^ k))
        both_there = (small a one, small b other, (bit_of (all_rules s) a, bit_few, need_first))

        module _ (u : List ℕ) (is : u ≡ with_beaten t (bit_of (all_rules s) a) (union (beaten_at t (bit_of (all_rules s) a)) (need_at t b))) where
          abbrev mask : ℕ
          mask = union (beaten_at t (bit_of (all_rules s) a)) (need_at t b)

          rest : (i : ℕ) → is_defeasible (rule_at (all_rules s) i).kind ≡ true → Dec (i ≡ a) → listed_from (all_rules s) i (beaten_at t (bit_of (all_rules s) i)) (pairs_in s j (pair_count_of s - j)) ≡ listed_from (all_rules s) i (beaten_at (with_beaten t (bit_of (all_rules s) a) mask) (bit_of (all_rules s) i)) (pairs_in s (j + 1) (pair_count_of s - (j + 1)))
          rest i d (yes q) =
              let long = w.long in
              let f = bit_few in
              let here : beaten_at (with_beaten t (bit_of (all_rules s) a) mask) (bit_of (all_rules s) i) ≡ mask =
              ap (λ (x : ℕ). beaten_at (with_beaten t (bit_of (all_rules s) a) mask) (bit_of (all_rules s) x)) q ∙ get_or-set_same t (400 + bit_of (all_rules s) a) mask 0 (omega arith) in
              listed_one s (all_rules s) i (beaten_at t (bit_of (all_rules s) i)) j (pair_count_of s) now.more (sym first ∙ sym q)
              ∙ ap (λ (m : ℕ). listed_from (all_rules s) i m (pairs_in s (j + 1) (pair_count_of s - (j + 1))))
              (insert_union (beaten_at t (bit_of (all_rules s) i)) (bit_of (all_rules s) (second_of s j))
              ∙ ap₂ union (ap (λ (x : ℕ). beaten_at t (bit_of (all_rules s) x)) q) (ap (λ (x : ℕ). 2 ^ bit_of (all_rules s) x) (sym second) ∙ sym (need_is b other))
              ∙ sym here)
          rest i d (no q) =
              let apart : bit_of (all_rules s) i ≡ bit_of (all_rules s) a → ⊥ = λ z. q (bit_of_same (all_rules s) (defeasible_found (all_rules s) i d) one z) in
              listed_other s (all_rules s) i (beaten_at t (bit_of (all_rules s) i)) j (pair_count_of s) now.more (λ z. q (sym z ∙ sym first))
              ∙ ap (λ (m : ℕ). listed_from (all_rules s) i m (pairs_in s (j + 1) (pair_count_of s - (j + 1))))
              (sym (get_or-set_other t (400 + bit_of (all_rules s) a) (400 + bit_of (all_rules s) i) mask 0 (λ z. apart (omega arith))))

          pub pairing_next : Pairing s next (256 * a + b + 1) (j + 1) u
          pairing_next = record {
            here = let h = w.here in let n = now.next_at in omega arith;
            inside = let m = now.more in omega arith;
            long = ap (λ (l : List ℕ). length l) is ∙ simp length-set w.long;
            rows = rows_same (all_rules s) (rules_of s) t u base.few base.bits (λ x h. ap (λ (l : List ℕ). get_or l x 0) is ∙ get_or-set_other t (400 + bit_of (all_rules s) a) x mask 0 (λ z. omega arith)) w.rows;
            verdict = w.verdict ∙ pairs_next s j (pair_count_of s) accepted now.more e;
            order =
                ap (bad_order s) (add-one j)
                ∙ sym (leb-suc-suc (pair_code s (suc j)) (pair_code s j))
                ∙ ap₂ (λ (x y : ℕ). ltb (pair_code s x) y) (sym (add-one j)) (sym (ap₂ (λ (x y : ℕ). 256 * x + y + 1) first second ∙ add-one (pair_code s j)));
            left = λ i d. w.left i d ∙ rest i d (ℕ_discrete i a) ∙ ap (λ (l : List ℕ). listed_from (all_rules s) i (beaten_at l (bit_of (all_rules s) i)) (pairs_in s (j + 1) (pair_count_of s - (j + 1)))) (sym is);
          }

    pub pairing_done : pair_count_of s ≤ j → (pairs_verdict s 0 (pair_count_of s) ≡ accepted) × ListedIn (program_in s) t
    unfolding program_in
    pairing_done h = (
      w.verdict ∙ pairs_end s j (pair_count_of s) h,
      record {
        rows = subst (λ (n : ℕ). RowsTo (all_rules s) n t) (sym (rules_length s 0 (rules_of s))) w.rows;
        listed_is = λ i k d. sym (w.left i d ∙ listed_end s (all_rules s) i (beaten_at t (bit_of (all_rules s) i)) j (pair_count_of s) h);
      },
    )
