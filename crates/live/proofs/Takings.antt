-- Live rules taken one after the other.
use mathlib.Core.Path.{◌≡◌, refl, sym, ap, ◌∙◌, subst}
use mathlib.Core.Bool.{Bool, true, false, not, ◌&&◌, false≢true}
use mathlib.Core.List.{List}
use mathlib.Core.Logic.{◌⊎◌, inl, inr, ⊎_elim}
use Prim.Native.Nat.{ℕ, ◌+◌, ◌*◌, ◌^◌, ◌<◌, ◌≤◌}
use native.Mathlib.Nat.{eq-or-lt_of_le}
use native.Mathlib.Omega.{arith}
use lib.Count.{ones-le}
use lib.ListN.{length, get_or, set}
use lib.Seq.{get_or-set_same, get_or-set_other}
use Rattle.literals.specs.Sets.{has, insert, minus, within, meets}
use Rattle.literals.specs.Inside.Words.{set_of}
use Rattle.literals.specs.declared.LiteralSet.{LiteralSet}
use Rattle.literals.proofs.Tests.{and_left, and_right}
use Rattle.literals.proofs.Members.{has_empty, insert_cases, has_insert_same, insert_keeps, insert_below}
use Rattle.literals.proofs.Within.{within_each, within_insert, ones_more, meets_both}
use Rattle.program.specs.Inside.Table.{head_at, body_at, need_at, rule_count, Shaped}
use Rattle.program.specs.Inside.Store.{with_row, with_counts}
use Rattle.program.proofs.Stores.{beside_row, row_beside, row_head, row_body, row_need, row_length}
use Rattle.rows.specs.Switched.{Named, NeedsOne}
use Rattle.live.specs.Live.{live_at, LiveRow, LiveRules}
use Rattle.live.specs.Steps.{Taken, TakenTo}

pub taken_none : (t : List ℕ) (d s taken : ℕ) (u : List ℕ) → taken ≡ 0 → Taken t d s 0 taken u
taken_none t d s taken u e = record {
  few = omega arith;
  below = omega (arith, ap (λ (x : ℕ). x) e);
  from = λ long j h. absurd (omega arith);
  all = λ long i h. absurd (false≢true (sym (has_empty i) ∙ ap (λ (x : ℕ). has x i) (sym e) ∙ h));
}

-- there is room for one more
pub taken_room : (t : List ℕ) (d s n taken : ℕ) (u : List ℕ) (i : ℕ) → i < 96 → has taken i ≡ false → Taken t d s n taken u → n < 96
taken_room t d s n taken u i small fresh p =
    let more = ones_more taken (insert taken i) (within_insert taken i) (λ e. false≢true (sym fresh ∙ ap (λ (x : ℕ). has x i) e ∙ has_insert_same taken i)) in
    let few = ones-le 96 (insert taken i) (insert_below 96 taken i p.below small) in
    omega (arith, p.few)

-- the rows before a store stay
module _ (t : List ℕ) (d s : ℕ) (u v : List ℕ) (n : ℕ) (stays : (k : ℕ) → k < n → (head_at v k ≡ head_at u k) × (need_at v k ≡ need_at u k) × (body_at v k ≡ body_at u k)) where
  row_stays : (i j : ℕ) → j < n → LiveRow t d s i u j → LiveRow t d s i v j
  row_stays i j h row = record {
    listed = row.listed;
    live = row.live;
    head_is = (stays j h).0 ∙ row.head_is;
    need_is = (stays j h).1 ∙ row.need_is;
    body_is = (stays j h).2 ∙ row.body_is;
  }

module _ (t : List ℕ) (d s n taken : ℕ) (u : List ℕ) (i : ℕ) (h need : ℕ) (body : LiteralSet) (small : i < 96) (listed : i < rule_count t)
    (fresh : has taken i ≡ false) (live : live_at t d s i ≡ true) (head_is : h ≡ head_at t i) (need_is : need ≡ need_at t i)
    (body_is : set_of body ≡ minus (body_at t i) d) (p : Taken t d s n taken u) where
  abbrev v : List ℕ
  v = with_row u n h body need

  room : n < 96
  room = taken_room t d s n taken u i small fresh p

  stays : (k : ℕ) → k < n → (head_at v k ≡ head_at u k) × (need_at v k ≡ need_at u k) × (body_at v k ≡ body_at u k)
  stays k l =
      let apart : k ≡ n → ⊥ = λ e. omega arith in
      let z : 4 * k + 0 ≡ 4 * k = omega arith in (
        subst (λ (x : ℕ). get_or v x 0 ≡ get_or u x 0) z (row_beside u n h body need (4 * k + 0) (beside_row n k 0 apart (omega arith))),
        row_beside u n h body need (4 * k + 3) (beside_row n k 3 apart (omega arith)),
        rw (row_beside u n h body need (4 * k + 1) (beside_row n k 1 apart (omega arith)), row_beside u n h body need (4 * k + 2) (beside_row n k 2 apart (omega arith))) refl,
      )

  new : length v ≡ 419 → LiveRow t d s i v n
  new long =
      let l : length u ≡ 419 = sym (row_length u n h body need) ∙ long in
      record {
        listed = listed;
        live = live;
        head_is = row_head u n h body need room l ∙ head_is;
        need_is = row_need u n h body need room l ∙ need_is;
        body_is = row_body u n h body need room l ∙ body_is;
      }

  pub taken_more : Taken t d s (n + 1) (insert taken i) (with_row u n h body need)
  taken_more = record {
    few = omega (arith, p.few, ones_more taken (insert taken i) (within_insert taken i) (λ e. false≢true (sym fresh ∙ ap (λ (x : ℕ). has x i) e ∙ has_insert_same taken i)));
    below = insert_below 96 taken i p.below small;
    from = λ long j l. from_at long j (eq-or-lt_of_le {n = j} {m = n} (omega arith));
    all = λ long k e. ⊎_elim (λ q. old long k (p.all (sym (row_length u n h body need) ∙ long) k q)) (λ q. (n, omega arith, subst (λ (x : ℕ). LiveRow t d s x v n) (sym q) (new long))) (insert_cases taken i k e);
  }
    where
      from_at : length v ≡ 419 → (j : ℕ) → (j ≡ n) ⊎ (j < n) → (k : ℕ) × LiveRow t d s k v j
      from_at long j (inl e) = (i, subst (LiveRow t d s i v) (sym e) (new long))
      from_at long j (inr l) =
          let was = p.from (sym (row_length u n h body need) ∙ long) j l in
          (was.0, row_stays t d s u v n stays was.0 j l was.1)

      old : length v ≡ 419 → (k : ℕ) → ((j : ℕ) × (j < n) × LiveRow t d s k u j) → (j : ℕ) × (j < n + 1) × LiveRow t d s k v j
      old long k (j, l, row) = (j, omega arith, row_stays t d s u v n stays k j l row)

-- one rule's turn: it was taken, it is not live, it waits, or it is taken
module _ (t : List ℕ) (d s awaited i taken : ℕ) (before : TakenTo t d s awaited i taken) where
  turned : (after : ℕ) → ((k : ℕ) → has taken k ≡ true → has after k ≡ true) → (awaited ≡ 0 → live_at t d s i ≡ true → has after i ≡ true)
      → TakenTo t d s awaited (i + 1) after
  turned after keeps here e k l live =
      ⊎_elim (λ q. subst (λ (x : ℕ). has after x ≡ true) (sym q) (here e (subst (λ (x : ℕ). live_at t d s x ≡ true) q live)))
      (λ q. keeps k (before e k q live)) (eq-or-lt_of_le {n = k} {m = i} (omega arith))

  pub turn_was : has taken i ≡ true → TakenTo t d s awaited (i + 1) taken
  turn_was h = turned taken (λ k g. g) (λ e live. h)

  pub turn_dead : live_at t d s i ≡ false → TakenTo t d s awaited (i + 1) taken
  turn_dead h = turned taken (λ k g. g) (λ e live. absurd (false≢true (sym h ∙ live)))

  pub turn_waits : (b : ℕ) → meets b awaited ≡ true → TakenTo t d s awaited (i + 1) taken
  turn_waits b h = turned taken (λ k g. g) (λ e live.
      let found = meets_both b awaited h in
      absurd (false≢true (sym (has_empty found.0) ∙ ap (λ (x : ℕ). has x found.0) (sym e) ∙ found.2)))

  pub turn_takes : TakenTo t d s awaited (i + 1) (insert taken i)
  turn_takes = turned (insert taken i) (insert_keeps taken i) (λ e live. has_insert_same taken i)

-- the tests as they are made
module _ (t : List ℕ) (d s i h b c : ℕ) (x y : Bool) (head_is : h ≡ head_at t i) (body_is : b ≡ body_at t i) (cut_is : c ≡ minus b d)
    (x_is : x ≡ has s h) (y_is : y ≡ within c s) where
  pub live_test : (x && y) ≡ live_at t d s i
  live_test = rw (x_is, y_is, cut_is, body_is, head_is) refl

  negated : (b v : Bool) → not b ≡ v → b ≡ not v
  negated true v e = ap not e
  negated false v e = ap not e

  -- the test was whether it is not live
  pub live_tested : (v : Bool) → not (x && y) ≡ v → live_at t d s i ≡ not v
  live_tested v e = sym live_test ∙ negated (x && y) v e

  pub cut_body : c ≡ minus (body_at t i) d
  cut_body = cut_is ∙ ap (λ (z : ℕ). minus z d) body_is

-- a rule that is taken
pub turn_ends : (t : List ℕ) (d s awaited n taken : ℕ) (u : List ℕ) (i h need : ℕ) (body : LiteralSet) → i < 96 → i < rule_count t
    → has taken i ≡ false → live_at t d s i ≡ true → h ≡ head_at t i → need ≡ need_at t i → set_of body ≡ minus (body_at t i) d
    → Taken t d s n taken u → (v : List ℕ) → v ≡ with_row u n h body need → (after : ℕ) → after ≡ insert taken i
    → Taken t d s (n + 1) after v × (TakenTo t d s awaited i taken → TakenTo t d s awaited (i + 1) after)
turn_ends t d s awaited n taken u i h need body small listed fresh live eh en eb p v ev after ea =
    rw (ev, ea)
    (taken_more t d s n taken u i h need body small listed fresh live eh en eb p, turn_takes t d s awaited i taken)

-- all are taken, and the count is stored
pub taken_all : (t : List ℕ) (d s awaited n taken : ℕ) (u : List ℕ) → awaited ≡ 0 → TakenTo t d s awaited (rule_count t) taken → Taken t d s n taken u
    → n ≤ 96 → length u ≡ 419 → LiveRules t d s (with_counts u n 0 0)
taken_all t d s awaited n taken u e whole p few long = record {
  few = omega (arith, count);
  from = λ j h.
      let l : j < n = omega (arith, count) in
      let was = p.from long j l in
      (was.0, row_stays t d s u v n stays was.0 j l was.1);
  all = λ i h live. at i (p.all long i (whole e i h live));
}
  where
    v : List ℕ
    v = with_counts u n 0 0

    beside : (k : ℕ) → k < 384 → get_or v k 0 ≡ get_or u k 0
    beside k h =
        get_or-set_other (set (set u 416 n) 417 0) 418 k 0 0 (λ z. omega arith) ∙ get_or-set_other (set u 416 n) 417 k 0 0 (λ z. omega arith)
        ∙ get_or-set_other u 416 k n 0 (λ z. omega arith)

    count : rule_count v ≡ n
    count =
        get_or-set_other (set (set u 416 n) 417 0) 418 416 0 0 (λ z. omega arith) ∙ get_or-set_other (set u 416 n) 417 416 0 0 (λ z. omega arith)
        ∙ get_or-set_same u 416 n 0 (omega arith)

    stays : (k : ℕ) → k < n → (head_at v k ≡ head_at u k) × (need_at v k ≡ need_at u k) × (body_at v k ≡ body_at u k)
    stays k l = (beside (4 * k) (omega arith), beside (4 * k + 3) (omega arith), rw (beside (4 * k + 1) (omega arith), beside (4 * k + 2) (omega arith)) refl)

    at : (i : ℕ) → ((j : ℕ) × (j < n) × LiveRow t d s i u j) → (j : ℕ) × (j < rule_count v) × LiveRow t d s i v j
    at i (j, l, row) = (j, omega (arith, count), row_stays t d s u v n stays i j l row)

-- no more than there are rules, and the table as it is left
pub taken_most : (t : List ℕ) (d s n taken : ℕ) (u : List ℕ) → Taken t d s n taken u → n ≤ 96
taken_most t d s n taken u p = omega (arith, p.few, ones-le 96 taken p.below)

pub taken_ends : (t : List ℕ) (d s awaited n taken : ℕ) (u : List ℕ) → awaited ≡ 0 → TakenTo t d s awaited (rule_count t) taken
    → Taken t d s n taken u → length u ≡ 419 → (v : List ℕ) → v ≡ with_counts u n 0 0 → LiveRules t d s v
taken_ends t d s awaited n taken u e whole p long v ev =
    subst (LiveRules t d s) (sym ev) (taken_all t d s awaited n taken u e whole p (taken_most t d s n taken u p) long)

-- what the leaf asks of the live rules
module _ (t : List ℕ) (d s : ℕ) (u : List ℕ) (live : LiveRules t d s u) where
  pub live_named_in : (l : ℕ) → Named u l → has s l ≡ true
  live_named_in l (j, h, n) = at (live.from j h) n
    where
      at : ((i : ℕ) × LiveRow t d s i u j) → (has (body_at u j) l ≡ true) ⊎ (l ≡ head_at u j) → has s l ≡ true
      at (i, row) (inl e) =
          within_each (minus (body_at t i) d) s (and_right (has s (head_at t i)) (within (minus (body_at t i) d) s) row.live) l
          (ap (λ (x : ℕ). has x l) (sym row.body_is) ∙ e)
      at (i, row) (inr e) = ap (has s) (e ∙ row.head_is) ∙ and_left (has s (head_at t i)) (within (minus (body_at t i) d) s) row.live

  pub live_shaped : Shaped t → Shaped u
  live_shaped shaped = record {
    few = live.few;
    literals = λ j h.
        let found = live.from j h in
        subst (λ (x : ℕ). x < 128) (sym found.1.head_is) (shaped.literals found.0 found.1.listed);
  }

  pub live_needs : NeedsOne t → NeedsOne u
  live_needs needs = record {
    one = λ j h.
        let found = live.from j h in
        let was = needs.one found.0 found.1.listed in
        (was.0, was.1, found.1.need_is ∙ was.2);
    below = λ j h.
        let found = live.from j h in
        subst (λ (x : ℕ). x < 2 ^ 16) (sym found.1.need_is) (needs.below found.0 found.1.listed);
  }
