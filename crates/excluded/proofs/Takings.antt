-- The strict rules taken one after the other, and that they do what Π does.
use mathlib.Core.Path.{◌≡◌, refl, sym, ap, ◌∙◌, subst}
use mathlib.Core.Bool.{Bool, true, false, not, false≢true}
use mathlib.Core.List.{List, Memᴰ}
use mathlib.Core.Logic.{◌⊎◌, inl, inr, ⊎_elim}
use Prim.Native.Nat.{ℕ, ◌+◌, ◌*◌, ◌^◌, ◌<◌, ◌≤◌}
use native.Mathlib.Nat.{eq-or-lt_of_le}
use native.Mathlib.Decide.{ℕ_discrete}
use native.Mathlib.Omega.{arith}
use lib.Count.{ones-le}
use lib.Dec.{eqb}
use lib.ListN.{length, get_or, set}
use lib.Seq.{get_or-set_same, get_or-set_other}
use borrow.Author.Tests.{eqb-true, eq-eqb, ne_eqb}
use Rattle.literals.specs.Sets.{has, insert, minus, union, within}
use Rattle.literals.specs.Inside.Words.{set_of}
use Rattle.literals.specs.declared.LiteralSet.{LiteralSet}
use Rattle.literals.proofs.Tests.{not_true_false, and_intro, and_left, and_right, or_left, or_right}
use Rattle.literals.proofs.Members.{has_empty, has_minus_power, has_cases, has_minus, has_union, has_power, has_some, has_not_empty}
use Rattle.literals.proofs.Members.{has_insert_same, insert_cases, insert_keeps, insert_below}
use Rattle.literals.proofs.Lists.{has_insert_all, insert_all_cases}
use Rattle.literals.proofs.Within.{within_each, each_within, within_empty, within_insert, within_union_right, ones_more}
use Rattle.program.specs.Program.{Kind, strict, defeasible, Rule, Program, is_defeasible, bit_of, rule_at, Π}
use Rattle.program.specs.Inside.Table.{head_at, body_at, need_at, need_of, rule_count, Holds}
use Rattle.program.specs.Inside.Store.{with_row, with_counts}
use Rattle.program.proofs.Stores.{beside_row, row_beside, row_head, row_body, row_need}
use Rattle.derivation.specs.Closure.{closure}
use Rattle.derivation.proofs.Rounds.{ClosedUnder}
use Rattle.derivation.proofs.Closures.{closure_closed, closure_mono}
use Rattle.derivation.proofs.Choices.{Π_with_rules, Π_strict, Π_has}
use Rattle.derivation.proofs.Tables.{each_rule}
use Rattle.rows.specs.Switched.{ClosedIn}
use Rattle.excluded.specs.Inside.Strict.{strict_at, StrictRow, StrictRules, Taken, Open, Quiet, Still, Reduced}

pub taken_none : (t : List ℕ) (d taken reach : ℕ) (u : List ℕ) → taken ≡ 0 → Taken t d 0 taken reach u
taken_none t d taken reach u e = record {
  few = omega arith;
  below = omega (arith, e);
  from = λ j h. absurd (omega arith);
  all = λ k h. absurd (lacks k h);
  heads = λ k h. absurd (lacks k h);
}
  where
    lacks : (k : ℕ) → has taken k ≡ true → ⊥
    lacks k h = false≢true (sym (has_empty k) ∙ ap (λ (x : ℕ). has x k) (sym e) ∙ h)

-- no more than there are rules, and there is room for one more
pub taken_most : {t : List ℕ} {d n taken reach : ℕ} {u : List ℕ} → Taken t d n taken reach u → n ≤ 96
taken_most {t} {d} {n} {taken} so = omega (arith, so.few, ones-le 96 taken so.below)

pub taken_room : {t : List ℕ} {d n taken reach : ℕ} {u : List ℕ} (i : ℕ) → i < 96 → has taken i ≡ false → Taken t d n taken reach u → n < 96
taken_room {t} {d} {n} {taken} i small fresh so =
    let more = ones_more taken (insert taken i) (within_insert taken i) (λ e. false≢true (sym fresh ∙ ap (λ (x : ℕ). has x i) e ∙ has_insert_same taken i)) in
    let few = ones-le 96 (insert taken i) (insert_below 96 taken i so.below small) in
    omega (arith, so.few)

-- with more in reach
pub taken_wider : {t : List ℕ} {d n taken reach : ℕ} {u : List ℕ} (x far : ℕ) → far ≡ union reach x → Taken t d n taken reach u → Taken t d n taken far u
taken_wider {t} {d} {n} {taken} {reach} {u} x far e so = record {
  few = so.few;
  below = so.below;
  from = so.from;
  all = so.all;
  heads = λ k h.
      ap (λ (z : ℕ). has z (head_at t k)) e ∙ has_union reach x (head_at t k)
      ∙ or_left (has reach (head_at t k)) (has x (head_at t k)) (so.heads k h);
}

pub wider_given : (w reach x far : ℕ) → far ≡ union reach x → x ≡ w → within w far ≡ true
wider_given w reach x far e q = rw (e, q) (within_union_right reach w)

-- rules that bear, one after the other
pub open_none : (t : List ℕ) (d s : ℕ) → s ≡ 0 → Open t d 0 s
open_none t d s e = record {
  only = λ k h. absurd (false≢true (sym (has_empty k) ∙ ap (λ (x : ℕ). has x k) (sym e) ∙ h));
  each = λ k l. absurd (omega arith);
}

pub open_skip : (t : List ℕ) (d n s : ℕ) → strict_at t d n ≡ false → Open t d n s → Open t d (n + 1) s
open_skip t d n s out so = record {
  only = so.only;
  each = λ k l on.
      ⊎_elim (λ z. absurd (false≢true (sym out ∙ subst (λ (x : ℕ). strict_at t d x ≡ true) z on))) (λ z. so.each k z on)
      (eq-or-lt_of_le {n = k} {m = n} (omega arith));
}

pub open_more : (t : List ℕ) (d n s r : ℕ) → n < rule_count t → strict_at t d n ≡ true → r ≡ insert s n → Open t d n s → Open t d (n + 1) r
open_more t d n s r listed on e so = rw e (record {
  only = λ k h. ⊎_elim (so.only k) (λ z. subst (λ (x : ℕ). (x < rule_count t) × (strict_at t d x ≡ true)) (sym z) (listed, on)) (insert_cases s n k h);
  each = λ k l q.
      ⊎_elim (λ z. ap (has (insert s n)) z ∙ has_insert_same s n) (λ z. insert_keeps s n k (so.each k z q))
      (eq-or-lt_of_le {n = k} {m = n} (omega arith));
})

pub open_all : (t : List ℕ) (d n s : ℕ) → rule_count t ≤ n → Open t d n s → Open t d (rule_count t) s
open_all t d n s l so = record { only = so.only; each = λ k h. so.each k (omega arith) }

-- the rules of what is left
pub open_left : (t : List ℕ) (d n s taken left : ℕ) → left ≡ minus s taken → Open t d n s
    → (k : ℕ) → has left k ≡ true → (k < rule_count t) × (strict_at t d k ≡ true)
open_left t d n s taken left e so k h =
    so.only k (and_left (has s k) (not (has taken k)) (sym (has_minus s taken k) ∙ ap (λ (x : ℕ). has x k) (sym e) ∙ h))

-- a set of rules in which none is taken
pub record Resting (t : List ℕ) (s taken reach left after far : ℕ) : Type 0 where
  pub taken_is : after ≡ taken
  pub reach_is : far ≡ reach
  pub quiet : (i : ℕ) → has s i ≡ true → has left i ≡ false → Quiet t taken reach i

pub resting_none : (t : List ℕ) (s taken reach : ℕ) → Resting t s taken reach s taken reach
resting_none t s taken reach = record { taken_is = refl; reach_is = refl; quiet = λ i h n. absurd (false≢true (sym n ∙ h)) }

pub resting_more : (t : List ℕ) (s taken reach left after far i next x y : ℕ) → next ≡ minus left (2 ^ i)
    → (x ≡ after) × (y ≡ far) × Quiet t after far i → Resting t s taken reach left after far
    → Resting t s taken reach next x y
resting_more t s taken reach left after far i next x y en (ex, ey, here) so = record {
  taken_is = ex ∙ so.taken_is;
  reach_is = ey ∙ so.reach_is;
  quiet = λ j h n. at j h n (ℕ_discrete j i);
}
  where
    at : (j : ℕ) → has s j ≡ true → has next j ≡ false → Dec (j ≡ i) → Quiet t taken reach j
    at j h n (yes z) =
        subst (Quiet t taken reach) (sym z)
        (subst (λ (k : ℕ). Quiet t k reach i) so.taken_is (subst (λ (k : ℕ). Quiet t after k i) so.reach_is here))
    at j h n (no z) =
        so.quiet j h
        (not_true_false (has left j) (λ q.
        false≢true
        (sym n ∙ ap (λ (k : ℕ). has k j) en ∙ has_minus_power left i j
        ∙ and_intro (has left j) (not (eqb j i)) q (ap not (ne_eqb j i z)))))

pub resting_all : (t : List ℕ) (s taken reach left after far : ℕ) → left ≡ 0 → Resting t s taken reach left after far
    → Still t s taken reach after far
resting_all t s taken reach left after far e so = record {
  taken_is = so.taken_is;
  reach_is = so.reach_is;
  quiet = λ i h. so.quiet i h (ap (λ (x : ℕ). has x i) e ∙ has_empty i);
}

-- what is left rests: none of the set is left
pub still_all : (t : List ℕ) (chosen taken reach left x y : ℕ) → left ≡ minus chosen taken
    → Still t left taken reach x y → (k : ℕ) → has chosen k ≡ true → Quiet t x y k
still_all t chosen taken reach left x y e still k h =
    subst (λ (i : ℕ). Quiet t i y k) (sym still.taken_is)
    (subst (λ (i : ℕ). Quiet t taken i k) (sym still.reach_is) (λ b. go b (has_cases taken k)))
  where
    there : has taken k ≡ false → has left k ≡ true
    there n = ap (λ (i : ℕ). has i k) e ∙ has_minus chosen taken k ∙ and_intro (has chosen k) (not (has taken k)) h (ap not n)

    go : within (body_at t k) reach ≡ true → (has taken k ≡ true) ⊎ (has taken k ≡ false) → has taken k ≡ true
    go b (inl q) = q
    go b (inr n) = still.quiet k (there n) b

-- the rows before a store stay
module _ (t : List ℕ) (d : ℕ) (u v : List ℕ) (n : ℕ) (stays : (k : ℕ) → k < n → (head_at v k ≡ head_at u k) × (need_at v k ≡ need_at u k) × (body_at v k ≡ body_at u k)) where
  row_stays : (i j : ℕ) → j < n → StrictRow t d i u j → StrictRow t d i v j
  row_stays i j h row = record {
    listed = row.listed;
    strictly = row.strictly;
    head_is = (stays j h).0 ∙ row.head_is;
    need_is = (stays j h).1 ∙ row.need_is;
    body_is = (stays j h).2 ∙ row.body_is;
    small = subst (λ (x : ℕ). x < 2 ^ 128) (sym (stays j h).2) row.small;
  }

module _ (t : List ℕ) (d i n taken reach : ℕ) (u : List ℕ) (h : ℕ) (body : LiteralSet) (room : i < 96) (listed : i < rule_count t)
    (on : strict_at t d i ≡ true) (fresh : has taken i ≡ false) (head_is : h ≡ head_at t i) (body_is : set_of body ≡ minus (body_at t i) d)
    (fits : set_of body < 2 ^ 128) (long : length u ≡ 419) (so : Taken t d n taken reach u) where
  abbrev v : List ℕ
  v = with_row u n h body 0

  stays : (k : ℕ) → k < n → (head_at v k ≡ head_at u k) × (need_at v k ≡ need_at u k) × (body_at v k ≡ body_at u k)
  stays k l =
      let apart : k ≡ n → ⊥ = λ e. omega arith in
      let z : 4 * k + 0 ≡ 4 * k = omega arith in (
        subst (λ (x : ℕ). get_or v x 0 ≡ get_or u x 0) z (row_beside u n h body 0 (4 * k + 0) (beside_row n k 0 apart (omega arith))),
        row_beside u n h body 0 (4 * k + 3) (beside_row n k 3 apart (omega arith)),
        rw (row_beside u n h body 0 (4 * k + 1) (beside_row n k 1 apart (omega arith)), row_beside u n h body 0 (4 * k + 2) (beside_row n k 2 apart (omega arith))) refl,
      )

  new : StrictRow t d i v n
  new =
      let few = taken_room i room fresh so in
      record {
        listed = listed;
        strictly = on;
        head_is = row_head u n h body 0 few long ∙ head_is;
        need_is = row_need u n h body 0 few long;
        body_is = row_body u n h body 0 few long ∙ body_is;
        small = subst (λ (x : ℕ). x < 2 ^ 128) (sym (row_body u n h body 0 few long)) fits;
      }

  pub taken_more : Taken t d (n + 1) (insert taken i) (insert reach h) (with_row u n h body 0)
  taken_more = record {
    few = omega (arith, so.few, ones_more taken (insert taken i) (within_insert taken i) (λ e. false≢true (sym fresh ∙ ap (λ (x : ℕ). has x i) e ∙ has_insert_same taken i)));
    below = insert_below 96 taken i so.below room;
    from = λ j l. from_at j (eq-or-lt_of_le {n = j} {m = n} (omega arith));
    all = λ k q.
        ⊎_elim (λ z. old k (so.all k z))
        (λ z. (n, omega arith, subst (λ (x : ℕ). StrictRow t d x v n) (sym z) new)) (insert_cases taken i k q);
    heads = λ k q.
        ⊎_elim (λ z. insert_keeps reach h (head_at t k) (so.heads k z))
        (λ z. ap (has (insert reach h)) (ap (head_at t) z ∙ sym head_is) ∙ has_insert_same reach h) (insert_cases taken i k q);
  }
    where
      from_at : (j : ℕ) → (j ≡ n) ⊎ (j < n) → (k : ℕ) × StrictRow t d k v j
      from_at j (inl e) = (i, subst (StrictRow t d i v) (sym e) new)
      from_at j (inr l) = let was = so.from j l in (was.0, row_stays t d u v n stays was.0 j l was.1)

      old : (k : ℕ) → ((j : ℕ) × (j < n) × StrictRow t d k u j) → (j : ℕ) × (j < n + 1) × StrictRow t d k v j
      old k (j, l, row) = (j, omega arith, row_stays t d u v n stays k j l row)

-- a rule that is taken
pub turn_takes : (t : List ℕ) (d i n taken reach : ℕ) (u : List ℕ) (h : ℕ) (body : LiteralSet) → i < 96 → i < rule_count t → strict_at t d i ≡ true
    → has taken i ≡ false → h ≡ head_at t i → set_of body ≡ minus (body_at t i) d → set_of body < 2 ^ 128 → length u ≡ 419 → Taken t d n taken reach u
    → (v : List ℕ) → v ≡ with_row u n h body 0 → (after : ℕ) → after ≡ insert taken i → (far : ℕ) → far ≡ insert reach h
    → (within reach far ≡ true) × Taken t d (n + 1) after far v
turn_takes t d i n taken reach u h body room listed on fresh eh eb fits long so v ev after ea far ef =
    rw (ev, ea, ef) (within_insert reach h, taken_more t d i n taken reach u h body room listed on fresh eh eb fits long so)

-- all are taken, and the count is stored
pub taken_all : (t : List ℕ) (d w n taken reach : ℕ) (u : List ℕ) → within w reach ≡ true → length u ≡ 419 → Taken t d n taken reach u
    → (chosen : ℕ) → Open t d (rule_count t) chosen → ((k : ℕ) → has chosen k ≡ true → Quiet t taken reach k) → StrictRules t d w (with_counts u n 0 0)
taken_all t d w n taken reach u given long so chosen is quiet = record {
  few = omega (arith, count, taken_most so);
  from = λ j h.
      let g : j < n = omega (arith, count) in
      let was = so.from j g in
      (was.0, row_stays t d u v n stays was.0 j g was.1);
  reach = reach;
  given = given;
  all = λ k h on b. at k (so.all k (quiet k (is.each k h on) b));
  heads = λ k h on b. so.heads k (quiet k (is.each k h on) b);
}
  where
    v : List ℕ
    v = with_counts u n 0 0

    beside : (k : ℕ) → k < 384 → get_or v k 0 ≡ get_or u k 0
    beside k h =
        get_or-set_other (set (set u 416 n) 417 0) 418 k 0 0 (λ z. omega arith) ∙ get_or-set_other (set u 416 n) 417 k 0 0 (λ z. omega arith)
        ∙ get_or-set_other u 416 k n 0 (λ z. omega arith)

    count : rule_count v ≡ n
    count =
        get_or-set_other (set (set u 416 n) 417 0) 418 416 0 0 (λ z. omega arith) ∙ get_or-set_other (set u 416 n) 417 416 0 0 (λ z. omega arith)
        ∙ get_or-set_same u 416 n 0 (omega arith)

    stays : (k : ℕ) → k < n → (head_at v k ≡ head_at u k) × (need_at v k ≡ need_at u k) × (body_at v k ≡ body_at u k)
    stays k h =
        let s : k < 96 = omega (arith, taken_most so) in
        (beside (4 * k) (omega arith), beside (4 * k + 3) (omega arith), rw (beside (4 * k + 1) (omega arith), beside (4 * k + 2) (omega arith)) refl)

    at : (k : ℕ) → ((j : ℕ) × (j < n) × StrictRow t d k u j) → (j : ℕ) × (j < rule_count v) × StrictRow t d k v j
    at k (j, h, row) = (j, omega (arith, count), row_stays t d u v n stays k j h row)

-- ---- what they do

-- a rule that needs nothing is strict
need_strict : (k : Kind) (b : ℕ) → eqb (need_of k b) 0 ≡ true → is_defeasible k ≡ false
need_strict strict b e = refl
need_strict defeasible b e = absurd (has_not_empty (2 ^ b) b (has_power b b ∙ eq-eqb b b refl) (eqb-true (2 ^ b) 0 e))

strict_need : (k : Kind) (b : ℕ) → is_defeasible k ≡ false → eqb (need_of k b) 0 ≡ true
strict_need strict b e = refl
strict_need defeasible b e = absurd (false≢true (sym e))

module _ (p : Program) (t : List ℕ) (d g : ℕ) (u : List ℕ) (holds : Holds p t) (below : d < 2 ^ 128) (derived : d ≡ closure (Π p.rules) 0)
    (taken : StrictRules t d (union g d) u) where
  abbrev rules : List Rule
  rules = p.rules

  in_body : (i l : ℕ) → i < length rules → Memᴰ l (rule_at rules i).body → has (body_at t i) l ≡ true
  in_body i l h m = ap (λ (x : ℕ). has x l) (holds.row i h).body_is ∙ has_insert_all 0 (rule_at rules i).body l m

  body_in : (i l : ℕ) → i < length rules → has (body_at t i) l ≡ true → Memᴰ l (rule_at rules i).body
  body_in i l h e =
      ⊎_elim (λ q. absurd (false≢true (sym (has_empty l) ∙ q))) (λ m. m)
      (insert_all_cases 0 (rule_at rules i).body l (ap (λ (x : ℕ). has x l) (sym (holds.row i h).body_is) ∙ e))

  there : (i : ℕ) → i < rule_count t → i < length rules
  there i l = omega (arith, holds.rules_are)

  -- such a rule is one of Π
  in_Π : (i j : ℕ) → StrictRow t d i u j → Memᴰ (rule_at rules i) (Π rules)
  in_Π i j row =
      let h = there i row.listed in
      Π_has rules i h
      (need_strict (rule_at rules i).kind (bit_of rules i)
      (ap (λ (n : ℕ). eqb n 0) (sym (holds.row i h).need_is) ∙ and_left (eqb (need_at t i) 0) (not (has d (head_at t i))) row.strictly))

  -- what Π derives it derives from anything
  derived_more : (g l : ℕ) → has d l ≡ true → has (closure (Π rules) g) l ≡ true
  derived_more g l h =
      within_each (closure (Π rules) 0) (closure (Π rules) g) (closure_mono (Π rules) (Π rules) (λ r m. m) 0 g (within_empty g)) l
      (ap (λ (x : ℕ). has x l) (sym derived) ∙ h)

  cut : (i j l : ℕ) → StrictRow t d i u j → has (body_at t i) l ≡ true → has d l ≡ false → has (body_at u j) l ≡ true
  cut i j l row h n =
      ap (λ (x : ℕ). has x l) row.body_is ∙ has_minus (body_at t i) d l ∙ and_intro (has (body_at t i) l) (not (has d l)) h (ap not n)

  uncut : (i j l : ℕ) → StrictRow t d i u j → has (body_at u j) l ≡ true → has (body_at t i) l ≡ true
  uncut i j l row h =
      and_left (has (body_at t i) l) (not (has d l)) (sym (has_minus (body_at t i) d l) ∙ ap (λ (x : ℕ). has x l) (sym row.body_is) ∙ h)

  -- a closure that has the body has the head
  fires : (g i j : ℕ) → StrictRow t d i u j → ((l : ℕ) → has (body_at u j) l ≡ true → has (closure (Π rules) g) l ≡ true)
      → has (closure (Π rules) g) (head_at t i) ≡ true
  fires g i j row body =
      let h = there i row.listed in
      ap (has (closure (Π rules) g)) (holds.row i h).head_is
      ∙ closure_closed (Π rules) g (rule_at rules i) (in_Π i j row) (λ l m.
      ⊎_elim (derived_more g l) (λ n. body l (cut i j l row (in_body i l h m) n)) (has_cases d l))

  sound : (m g : ℕ) → ClosedIn u m (has (closure (Π rules) g))
  sound m g j h on body = at (taken.from j h)
    where
      at : ((i : ℕ) × StrictRow t d i u j) → has (closure (Π rules) g) (head_at u j) ≡ true
      at (i, row) = ap (has (closure (Π rules) g)) row.head_is ∙ fires g i j row body

  reach_has : (l : ℕ) → (has g l ≡ true) ⊎ (has d l ≡ true) → has taken.reach l ≡ true
  reach_has l (inl h) = within_each (union g d) taken.reach taken.given l (has_union g d l ∙ or_left (has g l) (has d l) h)
  reach_has l (inr h) = within_each (union g d) taken.reach taken.given l (has_union g d l ∙ or_right (has g l) (has d l) h)

  whole : (m : ℕ) (s : ℕ → Bool) → ((l : ℕ) → has d l ≡ true → s l ≡ true) → ClosedIn u m s
      → ClosedUnder (Π rules) (λ l. (has taken.reach l ≡ true) × (s l ≡ true))
  whole m s known closed r mem body =
      each_rule (λ (q : Rule). is_defeasible q.kind ≡ false → Fires q) rules at r
      (Π_with_rules rules (λ _. false) r mem) (Π_strict rules r mem) body
    where
      Both : ℕ → Type 0
      Both l = (has taken.reach l ≡ true) × (s l ≡ true)

      Fires : Rule → Type 0
      Fires q = ((l : ℕ) → Memᴰ l q.body → Both l) → Both q.head

      at : (i : ℕ) → i < length rules → is_defeasible (rule_at rules i).kind ≡ false → Fires (rule_at rules i)
      at i h e f =
          subst Both (holds.row i h).head_is
          (⊎_elim (λ q. (reach_has (head_at t i) (inr q), known (head_at t i) q)) new (has_cases d (head_at t i)))
        where
          listed : i < rule_count t
          listed = omega (arith, holds.rules_are)

          inside : within (body_at t i) taken.reach ≡ true
          inside = each_within (body_at t i) taken.reach (λ l b. (f l (body_in i l h b)).0)

          new : has d (head_at t i) ≡ false → Both (head_at t i)
          new n = (taken.heads i listed on inside, go (taken.all i listed on inside))
            where
              on : strict_at t d i ≡ true
              on =
                  and_intro (eqb (need_at t i) 0) (not (has d (head_at t i)))
                  (ap (λ (k : ℕ). eqb k 0) (holds.row i h).need_is ∙ strict_need (rule_at rules i).kind (bit_of rules i) e) (ap not n)

              go : ((j : ℕ) × (j < rule_count u) × StrictRow t d i u j) → s (head_at t i) ≡ true
              go (j, l, row) =
                  ap s (sym row.head_is)
                  ∙ closed j l (ap (λ (k : ℕ). within k m) row.need_is ∙ within_empty m) (λ b q. (f b (body_in i b h (uncut i j b row q))).1)

  -- a rule with no body left would have its head derived
  bodied : (j : ℕ) → j < rule_count u → (l : ℕ) × (has (body_at u j) l ≡ true)
  bodied j h = at (taken.from j h)
    where
      at : ((i : ℕ) × StrictRow t d i u j) → (l : ℕ) × (has (body_at u j) l ≡ true)
      at (i, row) =
          has_some (body_at u j) (λ z.
          false≢true
          (sym (ap not (ap (λ (x : ℕ). has x (head_at t i)) derived ∙ fires 0 i j row (λ l b.
          absurd (false≢true (sym (has_empty l) ∙ ap (λ (x : ℕ). has x l) (sym z) ∙ b)))))
          ∙ and_right (eqb (need_at t i) 0) (not (has d (head_at t i))) row.strictly))

  pub reduced : Reduced p.rules d g u
  reduced = record {
    derived_is = derived;
    below = below;
    sound = sound;
    reach = taken.reach;
    given = λ l h. reach_has l (inl h);
    whole = whole;
    bodied = bodied;
  }
