-- What rows of live rules say: for each mask what Π with it derives.
use mathlib.Core.Path.{◌≡◌, refl, sym, ap, ◌∙◌, subst}
use mathlib.Core.Bool.{Bool, true, false, not, ◌&&◌, ◌||◌, false≢true}
use mathlib.Core.List.{List, Memᴰ}
use mathlib.Core.Logic.{◌⊎◌, inl, inr, ⊎_elim}
use Prim.Native.Nat.{ℕ, ◌+◌, ◌/◌, ◌%◌, ◌^◌, ◌<◌}
use native.Mathlib.Omega.{arith}
use lib.Bits.{bit_and}
use lib.ListN.{length, get_or}
use lib.Pow.{pow-lt}
use Rattle.literals.specs.Sets.{has, minus, union, within}
use Rattle.literals.proofs.Tests.{same_test, and_intro, and_left, and_right, or_left, or_right, or_cases}
use Rattle.literals.proofs.Members.{has_empty, has_cases, has_minus, has_union, has_bound}
use Rattle.literals.proofs.Lists.{has_insert_all, insert_all_cases}
use Rattle.literals.proofs.Within.{within_each, each_within, within_refl}
use Rattle.program.specs.Program.{Kind, strict, defeasible, Rule, Program, is_defeasible, bit_of, rule_at, Π_mask, Π}
use Rattle.program.specs.Limits.{Limits}
use Rattle.program.specs.Inside.Table.{head_at, body_at, need_at, need_of, rule_count, Holds}
use Rattle.derivation.specs.Closure.{closure, derives}
use Rattle.derivation.proofs.Rounds.{ClosedUnder}
use Rattle.derivation.proofs.Closures.{closure_ind, closure_closed, closure_mono}
use Rattle.derivation.proofs.Choices.{Π_with_cases, Π_with_rules, Π_strict, Π_with_at, Π_has, Π_with_mono, Π_mask_empty, bit_of_below_defeasibles}
use Rattle.derivation.proofs.Tables.{each_rule, need_chosen}
use Rattle.rows.specs.Switched.{Named, ClosedIn, NeedsOne}
use Rattle.rows.specs.Layout.{row_has, Rows}
use Rattle.rows.proofs.Patterns.{has_all}
use Rattle.live.specs.Live.{live_at, LiveRow, LiveRules}
use Rattle.closing.specs.Inside.Plan.{Reach, PlanOf, RowsSay}

-- the table of a program: its rules that are on under m are those of Π with m
module _ (p : Program) (t : List ℕ) (holds : Holds p t) where
  abbrev rules : List Rule
  rules = p.rules

  in_body : (i l : ℕ) → i < length rules → Memᴰ l (rule_at rules i).body → has (body_at t i) l ≡ true
  in_body i l h d = ap (λ (x : ℕ). has x l) (holds.row i h).body_is ∙ has_insert_all 0 (rule_at rules i).body l d

  body_in : (i l : ℕ) → i < length rules → has (body_at t i) l ≡ true → Memᴰ l (rule_at rules i).body
  body_in i l h e =
      ⊎_elim (λ q. absurd (false≢true (sym (has_empty l) ∙ q))) (λ d. d)
      (insert_all_cases 0 (rule_at rules i).body l (ap (λ (x : ℕ). has x l) (sym (holds.row i h).body_is) ∙ e))

  pub table_closed : (m : ℕ) (P : ℕ → Type 0)
      → ((i : ℕ) → i < rule_count t → within (need_at t i) m ≡ true → ((l : ℕ) → has (body_at t i) l ≡ true → P l) → P (head_at t i))
      → ClosedUnder (Π_mask m p.rules) P
  table_closed m P step r d body = ⊎_elim strictly defeasibly (Π_with_cases rules (has m) r d)
    where
      Fires : Rule → Type 0
      Fires q = ((l : ℕ) → Memᴰ l q.body → P l) → P q.head

      at : (i : ℕ) → i < length rules → (not (is_defeasible (rule_at rules i).kind) || has m (bit_of rules i)) ≡ true → Fires (rule_at rules i)
      at i h on f =
          let row = holds.row i h in
          subst P row.head_is
          (step i (omega (arith, holds.rules_are))
          (ap (λ (n : ℕ). within n m) row.need_is ∙ need_chosen (rule_at rules i).kind (bit_of rules i) m ∙ on)
          (λ l e. f l (body_in i l h e)))

      strictly : Memᴰ r (Π rules) → P r.head
      strictly j =
          each_rule (λ (q : Rule). is_defeasible q.kind ≡ false → Fires q) rules
          (λ i l e. at i l (ap (λ (b : Bool). not b || has m (bit_of rules i)) e)) r
          (Π_with_rules rules (λ _. false) r j) (Π_strict rules r j) body

      defeasibly : (i : ℕ) × (i < length rules) × (rule_at rules i ≡ r) × (is_defeasible r.kind ≡ true) × (has m (bit_of rules i) ≡ true) → P r.head
      defeasibly (i, l, e, k, g) =
          subst Fires e (at i l (or_right (not (is_defeasible (rule_at rules i).kind)) (has m (bit_of rules i)) g)) body

  pub closed_table : (m : ℕ) → ClosedIn t m (derives (Π_mask m p.rules))
  closed_table m i listed on body =
      let h : i < length rules = omega (arith, holds.rules_are) in
      let row = holds.row i h in
      ap (derives (Π_mask m rules)) row.head_is
      ∙ closure_closed (Π_mask m rules) 0 (rule_at rules i)
      (go h (rule_at rules i).kind refl
      (sym (need_chosen (rule_at rules i).kind (bit_of rules i) m) ∙ ap (λ (n : ℕ). within n m) (sym row.need_is) ∙ on))
      (λ l d. body l (in_body i l h d))
    where
      go : i < length rules → (k : Kind) → (rule_at rules i).kind ≡ k → (not (is_defeasible (rule_at rules i).kind) || has m (bit_of rules i)) ≡ true
          → Memᴰ (rule_at rules i) (Π_mask m rules)
      go h strict q e =
          Π_with_mono rules (λ _. false) (has m) (λ b z. absurd (false≢true z)) (rule_at rules i) (Π_has rules i h (ap is_defeasible q))
      go h defeasible q e =
          Π_with_at rules (has m) i h (sym (ap (λ (k : Kind). not (is_defeasible k) || has m (bit_of rules i)) q) ∙ e)

  -- what the rules need is nothing or one switch of 16
  pub limits_needs : Limits p → NeedsOne t
  limits_needs limits = record {
    one = λ i h.
        let l : i < length rules = omega (arith, holds.rules_are) in
        ((rule_at rules i).kind, bit_of rules i, (holds.row i l).need_is);
    below = λ i h. small i (let l : i < length rules = omega (arith, holds.rules_are) in l);
  }
    where
      power : (i : ℕ) → i < length rules → (k : Kind) → (rule_at rules i).kind ≡ k → need_of k (bit_of rules i) < 2 ^ 16
      power i l strict e = omega arith
      power i l defeasible e =
          pow-lt {i = bit_of rules i} {j = 16} (omega (arith, bit_of_below_defeasibles rules i l (ap is_defeasible e), limits.defeasibles_limit))

      small : (i : ℕ) → i < length rules → need_at t i < 2 ^ 16
      small i l = subst (λ (n : ℕ). n < 2 ^ 16) (sym (holds.row i l).need_is) (power i l (rule_at rules i).kind refl)

  need_all : (needs : NeedsOne t) (i : ℕ) → i < rule_count t → within (need_at t i) 18446744073709551615 ≡ true
  need_all needs i listed =
      each_within (need_at t i) 18446744073709551615 (λ k e.
      has_all k (let b = has_bound (need_at t i) 16 k (needs.below i listed) e in omega arith))

  -- what is derived with a mask is derived with all rules
  pub all_derives : NeedsOne t → (m l : ℕ) → derives (Π_mask m p.rules) l ≡ true → derives (Π_mask 18446744073709551615 p.rules) l ≡ true
  all_derives needs m =
      closure_ind (Π_mask m rules) (λ k. derives (Π_mask 18446744073709551615 rules) k ≡ true) 0
      (table_closed m (λ k. derives (Π_mask 18446744073709551615 rules) k ≡ true) (λ i listed on body. closed_table 18446744073709551615 i listed (need_all needs i listed) body))
      (λ k z. absurd (false≢true (sym (has_empty k) ∙ z)))

  -- rows of the live rules
  module _ (d s : ℕ) (needs : NeedsOne t) (reach : Reach p.rules d s) (u keep base c e : List ℕ) (live : LiveRules t d s u)
      (filled : Rows u keep base c e) (empty : (n : ℕ) → get_or c n 0 ≡ 0) where
    abbrev all : ℕ
    all = closure (Π_mask 18446744073709551615 rules) 0

    in_live : (l : ℕ) → has all l ≡ true → has d l ≡ false → has s l ≡ true
    in_live l a n =
        ap (λ (x : ℕ). has x l) reach.live_is ∙ has_minus all d l
        ∙ and_intro (has all l) (not (has d l)) a (ap not n)

    live_all : (l : ℕ) → has s l ≡ true → (has all l ≡ true) × (has d l ≡ true → ⊥)
    live_all l h =
        let both : (has all l && not (has d l)) ≡ true = sym (has_minus all d l) ∙ ap (λ (x : ℕ). has x l) (sym reach.live_is) ∙ h in (
          and_left (has all l) (not (has d l)) both,
          λ q. false≢true (sym (ap not q) ∙ and_right (has all l) (not (has d l)) both),
        )

    -- a rule whose body is derivable and whose head Π does not derive is live
    is_live : (i : ℕ) → ((l : ℕ) → has (body_at t i) l ≡ true → has all l ≡ true) → has all (head_at t i) ≡ true
        → has d (head_at t i) ≡ false → live_at t d s i ≡ true
    is_live i body a n =
        and_intro (has s (head_at t i)) (within (minus (body_at t i) d) s) (in_live (head_at t i) a n)
        (each_within (minus (body_at t i) d) s (λ l h.
        let parts : (has (body_at t i) l && not (has d l)) ≡ true = sym (has_minus (body_at t i) d l) ∙ h in
        in_live l (body l (and_left (has (body_at t i) l) (not (has d l)) parts))
        (negated (has d l) (and_right (has (body_at t i) l) (not (has d l)) parts))))
      where
        negated : (b : Bool) → not b ≡ true → b ≡ false
        negated true z = absurd (false≢true z)
        negated false z = refl

    -- what holds of each derivable literal, by the rules that derive it: Π's own, and the live ones
    by_rules : (m : ℕ) (P : ℕ → Type 0)
        → ((j : ℕ) → j < rule_count u → within (need_at u j) m ≡ true → ((l : ℕ) → has (body_at u j) l ≡ true → (has d l ≡ true) ⊎ P l) → P (head_at u j))
        → (l : ℕ) → derives (Π_mask m rules) l ≡ true → (has all l ≡ true) × ((has d l ≡ true) ⊎ P l)
    by_rules m P step =
        closure_ind (Π_mask m rules) (λ k. (has all k ≡ true) × ((has d k ≡ true) ⊎ P k)) 0
        (table_closed m (λ k. (has all k ≡ true) × ((has d k ≡ true) ⊎ P k)) fires)
        (λ k z. absurd (false≢true (sym (has_empty k) ∙ z)))
      where
        fires : (i : ℕ) → i < rule_count t → within (need_at t i) m ≡ true
            → ((l : ℕ) → has (body_at t i) l ≡ true → (has all l ≡ true) × ((has d l ≡ true) ⊎ P l))
            → (has all (head_at t i) ≡ true) × ((has d (head_at t i) ≡ true) ⊎ P (head_at t i))
        fires i listed on body = (a, ⊎_elim inl (λ n. inr (new n)) (has_cases d (head_at t i)))
          where
            a : has all (head_at t i) ≡ true
            a = closed_table 18446744073709551615 i listed (need_all needs i listed) (λ l g. (body l g).0)

            new : has d (head_at t i) ≡ false → P (head_at t i)
            new n = go (live.all i listed (is_live i (λ l g. (body l g).0) a n))
              where
                go : ((j : ℕ) × (j < rule_count u) × LiveRow t d s i u j) → P (head_at t i)
                go (j, h, row) =
                    subst P row.head_is
                    (step j h (ap (λ (n : ℕ). within n m) row.need_is ∙ on) (λ l g.
                    (body l
                    (and_left (has (body_at t i) l) (not (has d l))
                    (sym (has_minus (body_at t i) d l) ∙ ap (λ (x : ℕ). has x l) (sym row.body_is) ∙ g))).1))

    -- each live literal is the head of a live rule
    pub live_named : (l : ℕ) → has s l ≡ true → Named u l
    live_named l h =
        ⊎_elim (λ q. absurd ((live_all l h).1 q)) (λ n. n)
        (by_rules 18446744073709551615 (Named u) (λ j g on body. (j, g, inr refl)) l (live_all l h).0).1

    derived_more : (m l : ℕ) → has d l ≡ true → derives (Π_mask m rules) l ≡ true
    derived_more m l h =
        within_each (closure (Π rules) 0) (closure (Π_mask m rules) 0)
        (closure_mono (Π rules) (Π_mask m rules) (Π_with_mono rules (λ _. false) (has m) (λ b z. absurd (false≢true z))) 0 0 (within_refl 0)) l
        (ap (λ (x : ℕ). has x l) (sym reach.derived_is) ∙ h)

    sound : (m l : ℕ) → Named u l → row_has keep base e l m ≡ true → derives (Π_mask m rules) l ≡ true
    sound m =
        filled.least m (derives (Π_mask m rules)) (λ j h on body. fires j on body (live.from j h)) (λ l q z.
        absurd
        (false≢true
        (sym (has_empty (m % 64)) ∙ ap (λ (x : ℕ). has x (m % 64)) (sym (empty (get_or base l 0 + bit_and (m / 64) (get_or keep l 0)))) ∙ z)))
      where
        fires : (j : ℕ) → within (need_at u j) m ≡ true → ((l : ℕ) → has (body_at u j) l ≡ true → derives (Π_mask m rules) l ≡ true)
            → ((i : ℕ) × LiveRow t d s i u j) → derives (Π_mask m rules) (head_at u j) ≡ true
        fires j on body (i, row) =
            ap (derives (Π_mask m rules)) row.head_is
            ∙ closed_table m i row.listed (ap (λ (n : ℕ). within n m) (sym row.need_is) ∙ on) (λ l h.
            ⊎_elim (derived_more m l)
            (λ n. body l (ap (λ (x : ℕ). has x l) row.body_is ∙ has_minus (body_at t i) d l ∙ and_intro (has (body_at t i) l) (not (has d l)) h (ap not n)))
            (has_cases d l))

    pub rows_say : RowsSay p.rules d s keep base e
    rows_say m l =
        same_test (derives (Π_mask m rules) l) (has d l || (has s l && row_has keep base e l m)) forth (λ z.
        ⊎_elim (derived_more m l)
        (λ q. sound m l (live_named l (and_left (has s l) (row_has keep base e l m) q)) (and_right (has s l) (row_has keep base e l m) q))
        (or_cases (has d l) (has s l && row_has keep base e l m) z))
      where
        forth : derives (Π_mask m rules) l ≡ true → (has d l || (has s l && row_has keep base e l m)) ≡ true
        forth h =
            let known = by_rules m (λ k. row_has keep base e k m ≡ true) (λ j g on body.
            filled.closed m j g on (λ k z. ⊎_elim (λ y. absurd (uncut k j g z y)) (λ y. y) (body k z))) l h in
            ⊎_elim (or_left (has d l) (has s l && row_has keep base e l m)) (set known.0) known.1
          where
            set : has all l ≡ true → row_has keep base e l m ≡ true → (has d l || (has s l && row_has keep base e l m)) ≡ true
            set a q =
                ⊎_elim (or_left (has d l) (has s l && row_has keep base e l m))
                (λ n. or_right (has d l) (has s l && row_has keep base e l m) (and_intro (has s l) (row_has keep base e l m) (in_live l a n) q))
                (has_cases d l)

            -- what is left of a body is not derived by Π
            uncut : (k j : ℕ) → j < rule_count u → has (body_at u j) k ≡ true → has d k ≡ true → ⊥
            uncut k j g z y = at (live.from j g)
              where
                at : ((i : ℕ) × LiveRow t d s i u j) → ⊥
                at (i, row) =
                    false≢true
                    (sym (ap not y)
                    ∙ and_right (has (body_at t i) k) (not (has d k))
                    (sym (has_minus (body_at t i) d k) ∙ ap (λ (x : ℕ). has x k) (sym row.body_is) ∙ z))

-- the two closings that reach asks for
pub reach_by : (rules : List Rule) (none none₂ d a s : ℕ) → none ≡ 0 → none₂ ≡ 0 → d ≡ closure (Π_mask 0 rules) none
    → a ≡ closure (Π_mask 18446744073709551615 rules) none₂ → s ≡ minus a d → Reach rules d s
reach_by rules none none₂ d a s en em ed ea es = record {
  derived_is = ed ∙ ap (closure (Π_mask 0 rules)) en ∙ ap (λ (l : List Rule). closure l 0) (Π_mask_empty rules);
  live_is = es ∙ ap (λ (x : ℕ). minus x d) (ea ∙ ap (closure (Π_mask 18446744073709551615 rules)) em);
}

-- what is derived with a mask is derived by Π or live
pub plan_derivable : (p : Program) (u : List ℕ) (d s : ℕ) → PlanOf p u d s → (l m : ℕ) → derives (Π_mask m p.rules) l ≡ true → has (union d s) l ≡ true
plan_derivable p u d s so l m h = has_union d s l ∙ go (has_cases d l)
  where
    go : (has d l ≡ true) ⊎ (has d l ≡ false) → (has d l || has s l) ≡ true
    go (inl y) = or_left (has d l) (has s l) y
    go (inr n) =
        or_right (has d l) (has s l)
        (ap (λ (x : ℕ). has x l) so.reach.live_is ∙ has_minus (closure (Π_mask 18446744073709551615 p.rules) 0) d l
        ∙ and_intro (derives (Π_mask 18446744073709551615 p.rules) l) (not (has d l)) (all_derives p so.table so.holds so.needs m l h) (ap not n))
