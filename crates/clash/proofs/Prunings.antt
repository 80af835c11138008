-- Leaving rules out: what remains is contradictory and minimal, and the procedure leaves nothing else.
use mathlib.Core.Path.{◌≡◌, refl, sym, ap, ◌∙◌, subst}
use mathlib.Core.Bool.{Bool, true, false, not, ◌&&◌, false≢true}
use mathlib.Core.List.{List}
use mathlib.Core.Logic.{◌↔◌}
use Prim.Native.Nat.{ℕ, zero, suc, ◌^◌, ◌<◌}
use native.Mathlib.Decide.{ℕ_discrete}
use native.Mathlib.Omega.{arith}
use lib.Dec.{eqb}
use lib.ListN.{length}
use borrow.Author.Tests.{eq-eqb}
use Rattle.lists.specs.Lists.{choose}
use Rattle.literals.specs.Sets.{has, within}
use Rattle.literals.proofs.Tests.{not_true_false, and_intro, and_left, and_right}
use Rattle.literals.proofs.Members.{has_minus_power}
use Rattle.literals.proofs.Within.{within_each, each_within, within_refl, within_trans, minus_within}
use Rattle.program.specs.Program.{Rule, Π}
use Rattle.derivation.specs.Derivation.{Contradictory, HeadsBelow}
use Rattle.derivation.specs.Closure.{contradictory}
use Rattle.derivation.proofs.Contradictions.{contradictory_sound, contradictory_complete}
use Rattle.clash.specs.Clash.{among, without, LeavesOut, done, out, stays, Remains, Clash, strict_rules, left_out, pruned, clash_of}
use Rattle.clash.proofs.Among.{among_rules, among_mono}
use Rattle.clash.proofs.Strict.{strict_members, strict_unique, among_strict}

-- ---- sets without a rule

gone : (k n : ℕ) → has (without k n) n ≡ true → ⊥
gone k n e = false≢true (sym (out_of (has k n) (eqb n n) (eq-eqb n n refl)) ∙ sym (has_minus_power k n n) ∙ e)
  where
    out_of : (a b : Bool) → b ≡ true → (a && not b) ≡ false
    out_of true true q = refl
    out_of false true q = refl
    out_of a false q = absurd (false≢true q)

without_within : (a b n : ℕ) → within a b ≡ true → within (without a n) (without b n) ≡ true
without_within a b n w =
    each_within (without a n) (without b n) (λ j e.
    let both = sym (has_minus_power a n j) ∙ e in
    has_minus_power b n j
    ∙ and_intro (has b j) (not (eqb j n)) (within_each a b w j (and_left (has a j) (not (eqb j n)) both))
    (and_right (has a j) (not (eqb j n)) both))

module _ (rules : List Rule) where
  -- the rest stays contradictory
  abbrev still_clash : ℕ → ℕ → Bool
  still_clash k n = contradictory (among (without k n) rules)

  -- ---- one turn

  left_within : (n k : ℕ) → within (left_out rules n k) k ≡ true
  left_within n k = go (has k n && still_clash k n)
    where
      go : (t : Bool) → within (choose t (without k n) k) k ≡ true
      go true = minus_within k (2 ^ n)
      go false = within_refl k

  left_clashes : (n k : ℕ) → contradictory (among k rules) ≡ true → contradictory (among (left_out rules n k) rules) ≡ true
  left_clashes n k c = go (has k n && still_clash k n) refl
    where
      go : (t : Bool) → (has k n && still_clash k n) ≡ t → contradictory (among (choose t (without k n) k) rules) ≡ true
      go true e = and_right (has k n) (still_clash k n) e
      go false e = c

  -- a rule that is there after its turn is one without which the rest is not contradictory
  left_minimal : (n k : ℕ) → has (left_out rules n k) n ≡ true → still_clash (left_out rules n k) n ≡ false
  left_minimal n k = go (has k n && still_clash k n) refl
    where
      go : (t : Bool) → (has k n && still_clash k n) ≡ t → has (choose t (without k n) k) n ≡ true
          → still_clash (choose t (without k n) k) n ≡ false
      go true e h = absurd (gone k n h)
      go false e h = not_true_false (still_clash k n) (λ c. false≢true (sym e ∙ and_intro (has k n) (still_clash k n) h c))

  -- ---- all turns

  pruned_within : (n k : ℕ) → within (pruned rules n k) k ≡ true
  unfolding pruned
  pruned_within zero k = within_refl k
  pruned_within (suc n) k =
      within_trans (pruned rules n (left_out rules n k)) (left_out rules n k) k (pruned_within n (left_out rules n k)) (left_within n k)

  pruned_clashes : (n k : ℕ) → contradictory (among k rules) ≡ true → contradictory (among (pruned rules n k) rules) ≡ true
  unfolding pruned
  pruned_clashes zero k c = c
  pruned_clashes (suc n) k c = pruned_clashes n (left_out rules n k) (left_clashes n k c)

  -- what remains is within what was there after the turn of rule n, so that without rule n it is not contradictory either
  pruned_minimal : (n k i : ℕ) → i < n → has (pruned rules n k) i ≡ true → still_clash (pruned rules n k) i ≡ false
  unfolding pruned
  pruned_minimal zero k i l h = absurd (omega arith)
  pruned_minimal (suc n) k i l h = go (ℕ_discrete i n) (pruned_minimal n (left_out rules n k) i)
    where
      end : ℕ
      end = pruned rules n (left_out rules n k)

      inside : within end (left_out rules n k) ≡ true
      inside = pruned_within n (left_out rules n k)

      here : has end n ≡ true → still_clash end n ≡ false
      here e =
          not_true_false (still_clash end n) (λ c.
          false≢true (sym (left_minimal n k (within_each end (left_out rules n k) inside n e))
          ∙ among_mono (without end n) (without (left_out rules n k) n) rules (without_within end (left_out rules n k) n inside) c))

      go : Dec (i ≡ n) → (i < n → has end i ≡ true → still_clash end i ≡ false) → still_clash end i ≡ false
      go (yes e) f = ap (still_clash end) e ∙ here (ap (has end) (sym e) ∙ h)
      go (no e) f = f (omega arith) h

  -- ---- as published: with heads among the 128 literals the computed test is the published one

  module _ (heads : HeadsBelow 128 rules) where
    complete : (k : ℕ) → Contradictory (among k rules) → contradictory (among k rules) ≡ true
    complete k = contradictory_complete (among k rules) (λ r m. heads r (among_rules k rules r m))

    leaves : (n k : ℕ) → LeavesOut rules n k (pruned rules n k)
    unfolding pruned
    leaves zero k = done
    leaves (suc n) k = go (has k n && still_clash k n) refl (leaves n)
      where
        go : (t : Bool) → (has k n && still_clash k n) ≡ t → ((j : ℕ) → LeavesOut rules n j (pruned rules n j))
            → LeavesOut rules (suc n) k (pruned rules n (choose t (without k n) k))
        go true e f =
            out (and_left (has k n) (still_clash k n) e)
            (contradictory_sound (among (without k n) rules) (and_right (has k n) (still_clash k n) e)) (f (without k n))
        go false e f =
            stays (λ (h, c). false≢true (sym e ∙ and_intro (has k n) (still_clash k n) h (complete (without k n) c))) (f k)

    leaves_only : {n k r : ℕ} → LeavesOut rules n k r → r ≡ pruned rules n k
    unfolding pruned
    leaves_only done = refl
    leaves_only {k = k} {r = r} (out {n = n} h c l) =
        leaves_only l
        ∙ ap (λ (t : Bool). pruned rules n (choose t (without k n) k))
        (sym (and_intro (has k n) (still_clash k n) h (complete (without k n) c)))
    leaves_only {k = k} {r = r} (stays {n = n} f l) =
        leaves_only l
        ∙ ap (λ (t : Bool). pruned rules n (choose t (without k n) k))
        (sym (not_true_false (has k n && still_clash k n) (λ e.
        f (
          and_left (has k n) (still_clash k n) e,
          contradictory_sound (among (without k n) rules) (and_right (has k n) (still_clash k n) e),
        ))))

    pub clash_published : (k : ℕ) → Remains rules k ↔ (k ≡ clash_of rules)
    unfolding clash_of
    clash_published k = (
      λ r.
          leaves_only r.leaves
          ∙ ap (pruned rules (length rules)) (strict_unique rules r.start r.all_strict),
      λ e.
          subst (Remains rules) (sym e) (record {
            start = strict_rules rules;
            all_strict = strict_members rules;
            leaves = leaves (length rules) (strict_rules rules);
          }),
    )

    pub is_clash : contradictory (Π rules) ≡ true → Clash rules (clash_of rules)
    unfolding clash_of
    is_clash c = record {
      strict_only = λ i h. (strict_members rules i).0 (strictly i h);
      clashing =
          contradictory_sound (among (pruned rules (length rules) (strict_rules rules)) rules)
          (pruned_clashes (length rules) (strict_rules rules) (ap contradictory (among_strict rules) ∙ c));
      minimal = λ i h p.
          false≢true
          (sym (pruned_minimal (length rules) (strict_rules rules) i ((strict_members rules i).0 (strictly i h)).0 h)
          ∙ complete (without (pruned rules (length rules) (strict_rules rules)) i) p);
    }
      where
        strictly : (i : ℕ) → has (pruned rules (length rules) (strict_rules rules)) i ≡ true → has (strict_rules rules) i ≡ true
        strictly i h =
            within_each (pruned rules (length rules) (strict_rules rules)) (strict_rules rules)
            (pruned_within (length rules) (strict_rules rules)) i h
