-- Masks under other rule numbers: which rules they have, and what Π with them derives.
use mathlib.Core.Path.{◌≡◌, sym, ap, ◌∙◌, subst}
use mathlib.Core.Bool.{Bool, true, false, false≢true}
use mathlib.Core.List.Memᴰ
use mathlib.Core.List.{List, map, Memᴰ}
use mathlib.Core.Logic.{⊎_elim}
use Prim.Native.Nat.{ℕ, ◌^◌, ◌<◌}
use native.Mathlib.Decide.{dec_lt}
use native.Mathlib.Omega.{arith}
use lib.ListN.{length}
use Rattle.lists.specs.Lists.{Within, filter, upto}
use Rattle.lists.proofs.Lists.{filter_intro, filter_found, map_intro, map_found, upto_intro, T_true}
use Rattle.lists.proofs.Places.{there, found}
use Rattle.literals.specs.Sets.{has, within}
use Rattle.literals.proofs.Tests.{true_T, same_test, and_intro, and_left, and_right, not_true_false}
use Rattle.literals.proofs.Members.{has_empty, has_ext, has_bound, members_below}
use Rattle.literals.proofs.Lists.{insert_all_cases, has_insert_all}
use Rattle.literals.proofs.Within.{within_each, each_within}
use Rattle.program.specs.Program.{Rule, Program, fact, is_defeasible, defeasibles, bit_of, rule_at, in_mask, Π_with, Π}
use Rattle.program.specs.Limits.{DefeasibleAt}
use Rattle.program.proofs.Numbers.{defeasible_test, defeasible_found, bit_of_same, bit_of_found, bit_of_below}
use Rattle.derivation.proofs.Choices.{Π_has, Π_strict, Π_with_rules, Π_with_at, Π_with_mono, Π_with_cases}
use Rattle.renaming.specs.Programs.{Renumbered, carried}

-- ---- both ways

module _ {p q : Program} {to from : ℕ → ℕ} where
  pub renumbered_sym : Renumbered p q to from → Renumbered q p from to
  renumbered_sym n = record {
    to_there = n.from_there;
    from_there = n.to_there;
    from_to = n.to_from;
    to_from = n.from_to;
    rule_same = λ j h. sym (n.rule_same (from j) (n.from_there j h)) ∙ ap (rule_at q.rules) (n.to_from j h);
    pairs_to = n.pairs_from;
    pairs_from = n.pairs_to;
  }

  module _ (n : Renumbered p q to from) where
    pub rules_to : Within p.rules q.rules
    rules_to r i =
        let f = found (fact 0) p.rules r i in
        Memᴰ.cast (sym (n.rule_same f.0 f.1 ∙ f.2)) (there (fact 0) q.rules (to f.0) (n.to_there f.0 f.1))

    pub defeasible_to : {i : ℕ} → DefeasibleAt p.rules i → DefeasibleAt q.rules (to i)
    defeasible_to {i} d = record {
      there = n.to_there i d.there;
      kind_is = ap (λ (r : Rule). r.kind) (n.rule_same i d.there) ∙ d.kind_is;
    }

    -- ---- Π with some defeasible rules

    -- bits chosen in q wherever they are in p
    pub chosen_to : (f g : ℕ → Bool)
        → ((i : ℕ) → DefeasibleAt p.rules i → f (bit_of p.rules i) ≡ true → g (bit_of q.rules (to i)) ≡ true)
        → Within (Π_with f p.rules) (Π_with g q.rules)
    chosen_to f g h r i = ⊎_elim strictly by_bit (Π_with_cases p.rules f r i)
      where
        strictly : Memᴰ r (Π p.rules) → Memᴰ r (Π_with g q.rules)
        strictly j =
            let k = found (fact 0) p.rules r (Π_with_rules p.rules (λ _. false) r j) in
            let same : rule_at q.rules (to k.0) ≡ r = n.rule_same k.0 k.1 ∙ k.2 in
            Π_with_mono q.rules (λ _. false) g (λ b e. absurd (false≢true e)) r
            (Memᴰ.cast (sym same)
            (Π_has q.rules (to k.0) (n.to_there k.0 k.1)
            (ap (λ (x : Rule). is_defeasible x.kind) same ∙ Π_strict p.rules r j)))

        by_bit : (k : ℕ) × (k < length p.rules) × (rule_at p.rules k ≡ r) × (is_defeasible r.kind ≡ true)
            × (f (bit_of p.rules k) ≡ true)
            → Memᴰ r (Π_with g q.rules)
        by_bit (k, there, is, kind, chosen) =
            let d = defeasible_found p.rules k (ap (λ (x : Rule). is_defeasible x.kind) is ∙ kind) in
            Memᴰ.cast (sym (n.rule_same k there ∙ is)) (Π_with_at q.rules g (to k) (n.to_there k there) (h k d chosen))

    -- ---- the mask that is carried over

    record Brought (m k : ℕ) : Type 0 where
      pub rule : ℕ
      pub defeasibly : DefeasibleAt p.rules rule
      pub member : has m (bit_of p.rules rule) ≡ true
      pub bit_is : k ≡ bit_of q.rules (to rule)

    carried_found : (m k : ℕ) → has (carried p q to m) k ≡ true → Brought m k
    unfolding carried
    carried_found m k e =
        ⊎_elim (λ z. absurd (false≢true (sym (has_empty k) ∙ z)))
        (λ i. found (map_found bit numbers i)) (insert_all_cases 0 (map bit numbers) k e)
      where
        bit : ℕ → ℕ
        bit i = bit_of q.rules (to i)

        numbers : List ℕ
        numbers = filter (in_mask p.rules m) (upto 0 (length p.rules))

        found : (i : ℕ) × Memᴰ i numbers × (k ≡ bit i) → Brought m k
        found (i, j, e) =
            let t = T_true (in_mask p.rules m i) (filter_found (in_mask p.rules m) (upto 0 (length p.rules)) j).1 in
            record {
              rule = i;
              defeasibly = defeasible_found p.rules i (and_left (is_defeasible (rule_at p.rules i).kind) (has m (bit_of p.rules i)) t);
              member = and_right (is_defeasible (rule_at p.rules i).kind) (has m (bit_of p.rules i)) t;
              bit_is = e;
            }

    carried_intro : (m i : ℕ) → DefeasibleAt p.rules i → has m (bit_of p.rules i) ≡ true
        → has (carried p q to m) (bit_of q.rules (to i)) ≡ true
    unfolding carried
    carried_intro m i d e =
        has_insert_all 0 (map bit numbers) (bit i)
        (map_intro bit numbers
        (filter_intro (in_mask p.rules m) (upto 0 (length p.rules)) (upto_intro 0 (length p.rules) i (omega arith) (omega (arith, d.there)))
        (true_T (in_mask p.rules m i)
        (and_intro (is_defeasible (rule_at p.rules i).kind) (has m (bit_of p.rules i)) (defeasible_test d) e))))
      where
        bit : ℕ → ℕ
        bit j = bit_of q.rules (to j)

        numbers : List ℕ
        numbers = filter (in_mask p.rules m) (upto 0 (length p.rules))

    -- it has a rule exactly if the mask has it
    pub carried_has : (m i : ℕ) → DefeasibleAt p.rules i
        → has m (bit_of p.rules i) ≡ has (carried p q to m) (bit_of q.rules (to i))
    carried_has m i d =
        same_test (has m (bit_of p.rules i)) (has (carried p q to m) (bit_of q.rules (to i))) (carried_intro m i d)
        (λ e.
        let b = carried_found m (bit_of q.rules (to i)) e in
        let same : to i ≡ to b.rule = bit_of_same q.rules (defeasible_to d) (defeasible_to b.defeasibly) b.bit_is in
        let one : i ≡ b.rule = sym (n.from_to i d.there) ∙ ap from same ∙ n.from_to b.rule b.defeasibly.there in
        subst (λ (j : ℕ). has m (bit_of p.rules j) ≡ true) (sym one) b.member)

    pub carried_below : (m : ℕ) → carried p q to m < 2 ^ defeasibles q.rules
    carried_below m = members_below (defeasibles q.rules) (carried p q to m) (λ k e.
        let b = carried_found m k e in
        let small = bit_of_below q.rules (defeasible_to b.defeasibly) in
        omega (arith, b.bit_is))

    pub carried_within : (a b : ℕ) → a < 2 ^ defeasibles p.rules → within a b ≡ within (carried p q to a) (carried p q to b)
    carried_within a b small =
        same_test (within a b) (within (carried p q to a) (carried p q to b))
        (λ w.
        each_within (carried p q to a) (carried p q to b) (λ k e.
        let f = carried_found a k e in
        ap (has (carried p q to b)) f.bit_is
        ∙ carried_intro b f.rule f.defeasibly (within_each a b w (bit_of p.rules f.rule) f.member)))
        (λ w.
        each_within a b (λ k e.
        let f = bit_of_found p.rules k (has_bound a (defeasibles p.rules) k small e) in
        ap (has b) (sym f.2)
        ∙ carried_has b f.0 f.1
        ∙ within_each (carried p q to a) (carried p q to b) w (bit_of q.rules (to f.0))
        (sym (carried_has a f.0 f.1) ∙ ap (has a) f.2 ∙ e)))

-- carried over and back
pub carried_back : {p q : Program} {to from : ℕ → ℕ} → Renumbered p q to from → (m : ℕ) → m < 2 ^ defeasibles p.rules
    → carried q p from (carried p q to m) ≡ m
carried_back {p} {q} {to} {from} n m small = has_ext back m (λ k. go k (dec_lt k (defeasibles p.rules)))
  where
    back : ℕ
    back = carried q p from (carried p q to m)

    go : (k : ℕ) → Dec (k < defeasibles p.rules) → has back k ≡ has m k
    go k (yes h) =
        let f = bit_of_found p.rules k h in
        let i = f.0 in
        ap (has back) (sym f.2)
        ∙ ap (λ (j : ℕ). has back (bit_of p.rules j)) (sym (n.from_to i f.1.there))
        ∙ sym (carried_has (renumbered_sym n) (carried p q to m) (to i) (defeasible_to n f.1))
        ∙ sym (carried_has n m i f.1)
        ∙ ap (has m) f.2
    go k (no h) =
        not_true_false (has back k) (λ e. h (has_bound back (defeasibles p.rules) k (carried_below (renumbered_sym n) (carried p q to m)) e))
        ∙ sym (not_true_false (has m k) (λ e. h (has_bound m (defeasibles p.rules) k small e)))
