-- A literal's atom in a row of the rule table, and in the rules from one on.
use mathlib.Core.Path.{◌≡◌, refl, sym, ap, ap₂, ◌∙◌}
use mathlib.Core.Bool.{Bool, true, false, ◌||◌}
use mathlib.Core.List.{List, Memᴰ}
use mathlib.Core.Logic.{⊎_elim}
use Prim.Native.Nat.{ℕ, zero, suc, ◌+◌, ◌*◌, ◌/◌, ◌%◌, ◌≤◌, ◌<◌}
use native.Mathlib.Omega.{arith}
use lib.ListN.{length, drop, drop_of_length-le}
use lib.Seq.{drop-cons}
use lib.Dec.{T, eqb}
use borrow.Author.Tests.{eqb-true, eq-eqb, ne_eqb}
use Rattle.lists.specs.Lists.{any}
use Rattle.lists.proofs.Lists.{any_intro, any_found}
use Rattle.literals.specs.Sets.{has, insert_all}
use Rattle.literals.proofs.Tests.{true_T, T_true, same_test, or_left, or_right, or_cases}
use Rattle.literals.proofs.Members.{has_empty}
use Rattle.literals.proofs.Lists.{insert_all_cases, has_insert_all}
use Rattle.program.specs.Program.{Rule, Program, fact, rule_at}
use Rattle.program.specs.Inside.Table.{head_at, body_at, Row}
use Rattle.answer.specs.Answer.{occurs}
use Rattle.decision.specs.Inside.Steps.{stands_in}

-- ---- in a body as a set

module _ (l : List ℕ) (h : ℕ) where
  abbrev s : ℕ
  s = insert_all 0 l

  abbrev of_atom : ℕ → Bool
  of_atom x = eqb (x / 2) (h / 2)

  from_set : (k : ℕ) → k / 2 ≡ h / 2 → has s k ≡ true → any of_atom l ≡ true
  from_set k e m =
      ⊎_elim (λ z. absurd (let f = sym (has_empty k) ∙ z in let o : ◌≡◌ {A = ℕ} 0 1 = cc in omega arith))
      (λ i. T_true (any of_atom l) (any_intro of_atom l i (true_T (of_atom k) (eq-eqb (k / 2) (h / 2) e))))
      (insert_all_cases 0 l k m)

  in_set : any of_atom l ≡ true → (has s (2 * (h / 2)) || has s (2 * (h / 2) + 1)) ≡ true
  in_set e = go (x % 2) refl
    where
      found : (x : ℕ) × Memᴰ x l × T (of_atom x)
      found = any_found of_atom l (true_T (any of_atom l) e)

      x : ℕ
      x = found.0

      same : x / 2 ≡ h / 2
      same = eqb-true (x / 2) (h / 2) (T_true (of_atom x) found.2)

      at : (k : ℕ) → x ≡ k → has s k ≡ true
      at k q = ap (has s) (sym q) ∙ has_insert_all 0 l x found.1

      go : (r : ℕ) → x % 2 ≡ r → (has s (2 * (h / 2)) || has s (2 * (h / 2) + 1)) ≡ true
      go zero q = or_left (has s (2 * (h / 2))) (has s (2 * (h / 2) + 1)) (at (2 * (h / 2)) (omega (arith, same)))
      go (suc r) q = or_right (has s (2 * (h / 2))) (has s (2 * (h / 2) + 1)) (at (2 * (h / 2) + 1) (omega (arith, same)))

  body_atom : any of_atom l ≡ (has s (2 * (h / 2)) || has s (2 * (h / 2) + 1))
  body_atom =
      same_test (any of_atom l) (has s (2 * (h / 2)) || has s (2 * (h / 2) + 1)) in_set (λ e.
      ⊎_elim (from_set (2 * (h / 2)) (omega arith)) (from_set (2 * (h / 2) + 1) (omega arith))
      (or_cases (has s (2 * (h / 2))) (has s (2 * (h / 2) + 1)) e))

-- ---- in a row

module _ (h : ℕ) (r : Rule) (b : ℕ) (t : List ℕ) (i : ℕ) (row : Row r b t i) where
  by_row : stands_in h r
      ≡ (eqb (head_at t i / 2) (h / 2) || (has (body_at t i) (2 * (h / 2)) || has (body_at t i) (2 * (h / 2) + 1)))
  by_row =
      ap₂ (λ (x y : Bool). x || y) (ap (λ (x : ℕ). eqb (x / 2) (h / 2)) (sym row.head_is))
      (body_atom r.body h
      ∙ ap (λ (x : ℕ). has x (2 * (h / 2)) || has x (2 * (h / 2) + 1)) (sym row.body_is))

  -- what the code reads of it
  module _ (x body : ℕ) (at_head : x ≡ head_at t i) (at_body : body ≡ body_at t i) where
    abbrev read : Bool
    read = eqb (x / 2) (h / 2) || (has body (2 * (h / 2)) || has body (2 * (h / 2) + 1))

    by_read : stands_in h r ≡ read
    by_read = by_row ∙ ap₂ (λ (y s : ℕ). eqb (y / 2) (h / 2) || (has s (2 * (h / 2)) || has s (2 * (h / 2) + 1))) (sym at_head) (sym at_body)

    pub plain_stands : (b : Bool) → b ≡ has body (2 * (h / 2)) → b ≡ true → true ≡ stands_in h r
    plain_stands b e q =
        sym (by_read
        ∙ or_right (eqb (x / 2) (h / 2)) (has body (2 * (h / 2)) || has body (2 * (h / 2) + 1))
        (or_left (has body (2 * (h / 2))) (has body (2 * (h / 2) + 1)) (sym e ∙ q)))

    -- the head is not of the atom and the plain literal is not in the body
    pub negated_stands : (b d : Bool) → (x / 2 ≡ h / 2 → ⊥) → b ≡ has body (2 * (h / 2)) → b ≡ false
        → d ≡ has body (2 * (h / 2) + 1) → d ≡ stands_in h r
    negated_stands b d n e q f =
        f
        ∙ sym (by_read
        ∙ ap₂ (λ (y z : Bool). y || (z || has body (2 * (h / 2) + 1))) (ne_eqb (x / 2) (h / 2) n) (sym e ∙ q))

  pub head_stands : (x : ℕ) → x ≡ head_at t i → x / 2 ≡ h / 2 → true ≡ stands_in h r
  head_stands x e q =
      sym (by_read x (body_at t i) e refl
      ∙ or_left (eqb (x / 2) (h / 2)) (has (body_at t i) (2 * (h / 2)) || has (body_at t i) (2 * (h / 2) + 1))
      (eq-eqb (x / 2) (h / 2) q))

-- ---- in the rules from one on

module _ (p : Program) (h : ℕ) where
  abbrev pub occurs_from : ℕ → Bool
  occurs_from i = any (stands_in h) (drop i p.rules)

  pub occurs_start : occurs_from 0 ≡ occurs p h
  unfolding occurs
  occurs_start = refl

  from_next : (i : ℕ) → i < length p.rules → occurs_from i ≡ (stands_in h (rule_at p.rules i) || occurs_from (suc i))
  from_next i l = ap (any (stands_in h)) (drop-cons p.rules i (fact 0) l)

  pub occurs_here : (i : ℕ) → i < length p.rules → stands_in h (rule_at p.rules i) ≡ true → occurs_from i ≡ occurs p h
      → true ≡ occurs p h
  occurs_here i l e q = sym (from_next i l ∙ or_left (stands_in h (rule_at p.rules i)) (occurs_from (suc i)) e) ∙ q

  pub occurs_later : (i : ℕ) → i < length p.rules → stands_in h (rule_at p.rules i) ≡ false → occurs_from i ≡ occurs p h
      → occurs_from (i + 1) ≡ occurs p h
  occurs_later i l e q =
      ap occurs_from (let z : i + 1 ≡ suc i = omega arith in z)
      ∙ sym (from_next i l ∙ ap (λ (x : Bool). x || occurs_from (suc i)) e)
      ∙ q

  pub occurs_nowhere : (i : ℕ) → length p.rules ≤ i → occurs_from i ≡ occurs p h → false ≡ occurs p h
  occurs_nowhere i l q = sym (ap (any (stands_in h)) (drop_of_length-le p.rules l)) ∙ q
