-- The tests for contradiction and exclusion say what the definition says.
use mathlib.Core.Path.{◌≡◌, sym, ap, ◌∙◌, subst}
use mathlib.Core.Bool.{true, false}
use mathlib.Core.List.Memᴰ
use mathlib.Core.List.{List, [], ◌∷◌, ◌++◌, map, Memᴰ}
use mathlib.Core.Logic.{⊎_elim}
use Prim.Native.Nat.{ℕ, ◌+◌, ◌*◌, ◌/◌, ◌%◌, ◌^◌, ◌<◌}
use native.Mathlib.Omega.{arith}
use lib.Dec.{lit<}
use Rattle.literals.specs.Sets.{has, insert, insert_all, within, clash}
use Rattle.literals.proofs.Bits.{digit_cases}
use Rattle.literals.proofs.Members.{has_insert_same, insert_cases, insert_keeps}
use Rattle.literals.proofs.Lists.{insert_all_below}
use Rattle.literals.proofs.Within.{each_within, within_refl, within_antisym, within_empty, insert_within}
use Rattle.literals.proofs.Clashes.{Pair, clash_pair, literals_clash, clash_mono}
use Rattle.program.specs.Program.{Rule, fact, Π}
use Rattle.derivation.specs.Derivation.{complement, Contradictory, HeadsBelow}
use Rattle.derivation.specs.Closure.{closure, derives, contradictory, excludes}
use Rattle.derivation.proofs.Closures.{closure_mono, closure_below, closure_cut}
use Rattle.derivation.proofs.Chains.{closure_derives, derives_closure}
use Rattle.derivation.proofs.Choices.{Π_with_rules}

-- with given literals
module _ (rules : List Rule) (given : List ℕ) where
  pub clash_contradictory : clash (closure rules (insert_all 0 given)) ≡ true → Contradictory (map fact given ++ rules)
  clash_contradictory e = found (clash_pair 64 (closure rules (insert_all 0 given)) e)
    where
      other : (a : ℕ) → 2 * a + 1 ≡ complement (2 * a)
      other a = omega arith

      found : Pair 64 (closure rules (insert_all 0 given)) → Contradictory (map fact given ++ rules)
      found (a, l, p, q) = (
        2 * a,
        closure_derives rules given (2 * a) p,
        closure_derives rules given (complement (2 * a)) (ap (has (closure rules (insert_all 0 given))) (sym (other a)) ∙ q),
      )

  pub contradictory_clash : HeadsBelow 128 rules → ((k : ℕ) → Memᴰ k given → k < 128) → Contradictory (map fact given ++ rules)
      → clash (closure rules (insert_all 0 given)) ≡ true
  contradictory_clash hr hg (l, d, c) = ⊎_elim even odd (digit_cases (l % 2) (omega arith))
    where
      c₀ : ℕ
      c₀ = closure rules (insert_all 0 given)

      small : c₀ < 2 ^ 128
      small = closure_below rules 128 (insert_all 0 given) hr (insert_all_below 128 0 given (lit< tt) hg)

      this : has c₀ l ≡ true
      this = derives_closure rules given l d

      that : has c₀ (complement l) ≡ true
      that = derives_closure rules given (complement l) c

      even : l % 2 ≡ 0 → clash c₀ ≡ true
      even e =
          let p : l ≡ 2 * (l / 2) = omega arith in
          let q : complement l ≡ 2 * (l / 2) + 1 = omega arith in
          literals_clash c₀ (l / 2) small (ap (has c₀) (sym p) ∙ this) (ap (has c₀) (sym q) ∙ that)

      odd : l % 2 ≡ 1 → clash c₀ ≡ true
      odd e =
          let p : l ≡ 2 * (l / 2) + 1 = omega arith in
          let q : complement l ≡ 2 * (l / 2) = omega arith in
          literals_clash c₀ (l / 2) small (ap (has c₀) (sym q) ∙ that) (ap (has c₀) (sym p) ∙ this)

pub contradictory_sound : (rules : List Rule) → contradictory rules ≡ true → Contradictory rules
unfolding insert_all
contradictory_sound rules e = clash_contradictory rules [] e

pub contradictory_complete : (rules : List Rule) → HeadsBelow 128 rules → Contradictory rules → contradictory rules ≡ true
unfolding insert_all
contradictory_complete rules h d = contradictory_clash rules [] h (λ k i. absurd (Memᴰ.not-nil i)) d

pub contradictory_mono : (rules more : List Rule) → ((r : Rule) → Memᴰ r rules → Memᴰ r more) → contradictory rules ≡ true
    → contradictory more ≡ true
contradictory_mono rules more sub =
    clash_mono 64 (closure rules 0) (closure more 0) (closure_mono rules more sub 0 0 (within_refl 0))

pub excludes_sound : (rules : List Rule) (a b : ℕ) → excludes rules a b ≡ true → Contradictory (fact a ∷ fact b ∷ Π rules)
unfolding insert_all
excludes_sound rules a b e = clash_contradictory (Π rules) (a ∷ b ∷ []) e

pub excludes_complete : (rules : List Rule) → HeadsBelow 128 rules → (a b : ℕ) → a < 128 → b < 128
    → Contradictory (fact a ∷ fact b ∷ Π rules) → excludes rules a b ≡ true
unfolding insert_all
excludes_complete rules h a b p q d =
    contradictory_clash (Π rules) (a ∷ b ∷ []) (λ r i. h r (Π_with_rules rules (λ _. false) r i)) below d
  where
    below : (k : ℕ) → Memᴰ k (a ∷ b ∷ []) → k < 128
    below k i =
        ⊎_elim (λ e. subst (λ (x : ℕ). x < 128) (sym e) p)
        (λ j. ⊎_elim (λ e. subst (λ (x : ℕ). x < 128) (sym e) q) (λ n. absurd (Memᴰ.not-nil n)) (Memᴰ.cases_cons j))
        (Memᴰ.cases_cons i)

pub excludes_sym : (rules : List Rule) (a b : ℕ) → excludes rules a b ≡ excludes rules b a
excludes_sym rules a b =
    ap (λ (s : ℕ). clash (closure (Π rules) s)) (within_antisym (insert (insert 0 a) b) (insert (insert 0 b) a) (swap a b) (swap b a))
  where
    swap : (a b : ℕ) → within (insert (insert 0 a) b) (insert (insert 0 b) a) ≡ true
    swap a b =
        each_within (insert (insert 0 a) b) (insert (insert 0 b) a) (λ k e.
        ⊎_elim
        (λ h.
        ⊎_elim (λ z. insert_keeps (insert 0 b) a k (insert_keeps 0 b k z))
        (λ q. ap (has (insert (insert 0 b) a)) q ∙ has_insert_same (insert 0 b) a) (insert_cases 0 a k h))
        (λ q. ap (has (insert (insert 0 b) a)) q ∙ insert_keeps (insert 0 b) a b (has_insert_same 0 b))
        (insert_cases (insert 0 a) b k e))

-- literals that exclude each other are not both derived where Π is and no contradiction is
pub excludes_derived : (rules more : List Rule) → ((r : Rule) → Memᴰ r (Π rules) → Memᴰ r more) → (a b : ℕ)
    → derives more a ≡ true → derives more b ≡ true → excludes rules a b ≡ true → contradictory more ≡ true
excludes_derived rules more sub a b p q =
    clash_mono 64 (closure (Π rules) given) (closure more 0)
    (subst (λ (s : ℕ). within (closure (Π rules) given) s ≡ true) (closure_cut more 0 given (within_empty given) both)
    (closure_mono (Π rules) more sub given given (within_refl given)))
  where
    given : ℕ
    given = insert (insert 0 a) b

    both : within given (closure more 0) ≡ true
    both = insert_within (insert 0 a) b (closure more 0) (insert_within 0 a (closure more 0) (within_empty (closure more 0)) p) q
