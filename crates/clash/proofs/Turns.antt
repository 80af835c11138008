-- The loops of the code, a lemma for each turn and for each way out, over plain numbers.
use mathlib.Core.Path.{◌≡◌, refl, sym, ap, ap₂, ◌∙◌, subst}
use mathlib.Core.Bool.{Bool, true, false, not, ◌&&◌}
use mathlib.Core.List.{List, ◌++◌}
use mathlib.Core.Logic.{◌⊎◌, inl, inr}
use Prim.Native.Nat.{ℕ, zero, suc, ◌+◌, ◌-◌, ◌^◌, ◌<◌, ◌≤◌}
use native.Mathlib.Numerals.{add-one}
use native.Mathlib.Omega.{arith}
use lib.ListN.{length, get_or, drop, set, length-set, drop_of_length-le}
use lib.Pow.{pow_pos}
use lib.Seq.{drop-cons, sets, sets-eq}
use borrow.Author.Tests.{not-true, not-false}
use mir.Val.{bool_byte}
use Rattle.lists.specs.Lists.{choose}
use Rattle.literals.specs.Sets.{has, insert, minus}
use Rattle.literals.proofs.Members.{has_empty}
use Rattle.program.specs.Program.{Kind, strict, defeasible, Rule, Program, fact, is_defeasible, bit_of, rule_at}
use Rattle.program.specs.Inside.Table.{need_at, need_of, rule_count, Holds}
use Rattle.derivation.specs.Closure.{contradictory}
use Rattle.calls.specs.Calls.{front}
use Rattle.clash.specs.Clash.{among, without, strict_from, strict_rules, left_out, pruned, marks_from}
use Rattle.clash.proofs.Strict.{strict_next, strict_end}

-- ---- the strict rules

-- the strict rules from rule i on are still to be put to s
abbrev pub Sorting : List ℕ → ℕ → ℕ → Type 0
Sorting t i s = (p : Program) → Holds p t → strict_from s i (drop i p.rules) ≡ strict_rules p.rules

module _ (t : List ℕ) (n : ℕ) (count : n ≡ rule_count t) where
  pub sorting_start : (s : ℕ) → s ≡ 0 → Sorting t 0 s
  sorting_start s e p h = ap (λ (x : ℕ). strict_from x 0 p.rules) e

  needed : (k : Kind) (b v : ℕ) → v ≡ need_of k b → ((v ≡ 0 → ⊥) → is_defeasible k ≡ true) × (v ≡ 0 → is_defeasible k ≡ false)
  needed strict b v e = (λ f. absurd (f e), λ z. refl)
  needed defeasible b v e = (λ f. refl, λ z. absurd (omega (arith, pow_pos b)))

  module _ (i s need : ℕ) (less : i < n) (is : need ≡ need_at t i) (sorting : Sorting t i s) where
    sorted : (u : ℕ) → ((p : Program) → Holds p t → u ≡ choose (is_defeasible (rule_at p.rules i).kind) s (insert s i))
        → Sorting t (i + 1) u
    sorted u f p h =
        ap₂ (λ (x k : ℕ). strict_from x k (drop k p.rules)) (f p h) (add-one i)
        ∙ sym (strict_next s i (drop (suc i) p.rules) (rule_at p.rules i))
        ∙ sym (ap (strict_from s i) (drop-cons p.rules i (fact 0) (omega (arith, h.rules_are))))
        ∙ sorting p h

    kinds : (p : Program) → Holds p t
        → ((need ≡ 0 → ⊥) → is_defeasible (rule_at p.rules i).kind ≡ true) × (need ≡ 0 → is_defeasible (rule_at p.rules i).kind ≡ false)
    kinds p h =
        needed (rule_at p.rules i).kind (bit_of p.rules i) need
        (is ∙ (h.row i (omega (arith, h.rules_are))).need_is)

    -- put in where it needs no bit, passed over where it needs one
    pub sorting_next : (u : ℕ) → ((need ≡ 0) × (u ≡ insert s i)) ⊎ ((need ≡ 0 → ⊥) × (u ≡ s)) → Sorting t (i + 1) u
    sorting_next u (inl (z, e)) = sorted u (λ p h. e ∙ sym (ap (λ (v : Bool). choose v s (insert s i)) ((kinds p h).1 z)))
    sorting_next u (inr (f, e)) = sorted u (λ p h. e ∙ sym (ap (λ (v : Bool). choose v s (insert s i)) ((kinds p h).0 f)))

  pub sorting_end : (i s : ℕ) → n ≤ i → Sorting t i s → (p : Program) → Holds p t → s ≡ strict_rules p.rules
  sorting_end i s over sorting p h =
      let out : length p.rules ≤ i = omega (arith, h.rules_are) in
      sym (ap (strict_from s i) (drop_of_length-le p.rules out) ∙ strict_end s i) ∙ sorting p h

-- ---- the turn of one rule

alone : (n none one : ℕ) → none ≡ 0 → one ≡ insert none n → one ≡ 2 ^ n
unfolding insert
alone n none one z e =
    e ∙ ap (λ (x : ℕ). insert x n) z ∙ ap (λ (v : Bool). choose v 0 (0 + 2 ^ n)) (has_empty n) ∙ only (2 ^ n)
  where
    only : (x : ℕ) → 0 + x ≡ x
    only x = omega arith

module _ (rules : List Rule) (n k : ℕ) (v : Bool) (ev : v ≡ has k n) where
  -- by what was found: it is there, the rest stays contradictory
  turn : (a b : Bool) → has k n ≡ a → contradictory (among (without k n) rules) ≡ b
      → choose (a && b) (without k n) k ≡ left_out rules n k
  turn a b e f = sym (ap₂ (λ (x y : Bool). choose (x && y) (without k n) k) e f)

  pub out_absent : not v ≡ true → k ≡ left_out rules n k
  out_absent e = turn false (contradictory (among (without k n) rules)) (sym ev ∙ not-true v e) refl

  module _ (there : not v ≡ false) (none one rest : ℕ) (z : none ≡ 0) (e : one ≡ insert none n) (er : rest ≡ minus k one)
      (c : Bool) (ec : c ≡ contradictory (among rest rules)) where
    rest_is : rest ≡ without k n
    rest_is = er ∙ ap (minus k) (alone n none one z e)

    by : (b : Bool) → c ≡ b → choose b (without k n) k ≡ left_out rules n k
    by b q =
        turn true b (sym ev ∙ not-false v there)
        (ap (λ (x : ℕ). contradictory (among x rules)) (sym rest_is) ∙ sym ec ∙ q)

    pub out_left : c ≡ true → rest ≡ left_out rules n k
    out_left q = rest_is ∙ by true q

    pub out_kept : c ≡ false → k ≡ left_out rules n k
    out_kept q = by false q

-- ---- from the highest number down

-- what remains of the set is what remains of all
abbrev pub Pruning : List ℕ → ℕ → ℕ → ℕ → Type 0
Pruning t all n k = (p : Program) → Holds p t → pruned p.rules n k ≡ pruned p.rules (length p.rules) all

module _ (t : List ℕ) (all : ℕ) where
  pub pruning_start : (n : ℕ) → n ≡ rule_count t → Pruning t all n all
  pruning_start n e p h = ap (λ (m : ℕ). pruned p.rules m all) (e ∙ h.rules_are)

  prune_step : (rules : List Rule) (n k : ℕ) → 0 < n → pruned rules n k ≡ pruned rules (n - 1) (left_out rules (n - 1) k)
  unfolding pruned
  prune_step rules zero k l = absurd (omega arith)
  prune_step rules (suc n) k l =
      let same : n ≡ suc n - 1 = omega arith in
      ap (λ (m : ℕ). pruned rules m (left_out rules m k)) same

  pub pruning_next : (n k u : ℕ) → 0 < n → Pruning t all n k
      → ((p : Program) → Holds p t → u ≡ left_out p.rules (n - 1) k) → Pruning t all (n - 1) u
  pruning_next n k u l pruning f p h =
      ap (pruned p.rules (n - 1)) (f p h) ∙ sym (prune_step p.rules n k l) ∙ pruning p h

  nothing_left : (rules : List Rule) (n k : ℕ) → n ≤ 0 → pruned rules n k ≡ k
  unfolding pruned
  nothing_left rules zero k o = refl
  nothing_left rules (suc n) k o = absurd (omega arith)

  pub pruning_end : (n k : ℕ) → n ≤ 0 → Pruning t all n k → (p : Program) → Holds p t
      → k ≡ pruned p.rules (length p.rules) all
  pruning_end n k over pruning p h = sym (nothing_left p.rules n k over) ∙ pruning p h

-- ---- the bytes

pub marks_length : (k i n : ℕ) → length (marks_from k i n) ≡ n
marks_length k i zero = refl
marks_length k i (suc n) = ap suc (marks_length k (suc i) n)

pub marks_at : (k i n j : ℕ) → j < n → get_or (marks_from k i n) j 0 ≡ choose (has k (i + j)) 1 0
marks_at k i zero j l = absurd (omega arith)
marks_at k i (suc n) zero l =
    let none : i ≡ i + 0 = omega arith in
    ap (λ (x : ℕ). choose (has k x) 1 0) none
marks_at k i (suc n) (suc j) l =
    let shift : suc i + j ≡ i + suc j = omega arith in
    marks_at k (suc i) n j (omega arith) ∙ ap (λ (x : ℕ). choose (has k x) 1 0) shift

pub byte_marks : (v : Bool) → bool_byte v ≡ choose v 1 0
byte_marks true = refl
byte_marks false = refl

-- the bytes from rule i on are still to be written
pub record Marking (k n : ℕ) (before now : List ℕ) (i : ℕ) : Type 0 where
  pub kept : length now ≡ length before
  pub left : sets now i (marks_from k i (n - i)) ≡ sets before 0 (marks_from k 0 n)

module _ (k n : ℕ) (before : List ℕ) where
  pub marking_start : Marking k n before before 0
  marking_start = record { kept = refl; left = ap (λ (m : ℕ). sets before 0 (marks_from k 0 m)) all }
    where
      all : n - 0 ≡ n
      all = omega arith

  pub marking_next : (now : List ℕ) (i : ℕ) (v : Bool) (b : ℕ) → i < n → Marking k n before now i → v ≡ has k i → b ≡ choose v 1 0
      → Marking k n before (set now i b) (i + 1)
  marking_next now i v b l marking ev eb = record {
    kept = length-set now i b ∙ marking.kept;
    left = ap₂ (λ (x j : ℕ). sets (set now i x) j (marks_from k j (n - j))) (eb ∙ ap (λ (x : Bool). choose x 1 0) ev) (add-one i)
        ∙ sym (ap (λ (m : ℕ). sets now i (marks_from k i m)) one_less) ∙ marking.left;
  }
    where
      one_less : n - i ≡ suc (n - suc i)
      one_less = omega arith

  pub marking_end : (now : List ℕ) (i : ℕ) → n ≤ i → n ≤ length before → Marking k n before now i
      → now ≡ front (marks_from k 0 n) before
  marking_end now i over room marking =
      sym (ap (λ (m : ℕ). sets now i (marks_from k i m)) none) ∙ marking.left
      ∙ sets-eq (marks_from k 0 n) before 0 (subst (λ (m : ℕ). 0 + m ≤ length before) (sym (marks_length k 0 n)) (omega arith))
      ∙ ap (λ (m : ℕ). marks_from k 0 n ++ drop m before) first
    where
      none : n - i ≡ 0
      none = omega arith

      first : 0 + length (marks_from k 0 n) ≡ length (marks_from k 0 n)
      first = omega arith
