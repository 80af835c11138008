-- A mask is minimal exactly if no single rule of it can be left out; so the test `is_argument` says what an argument is.
use mathlib.Core.Path.{◌≡◌, refl, sym, ap, ◌∙◌, subst}
use mathlib.Core.Bool.{Bool, true, false, not, ◌&&◌, false≢true}
use mathlib.Core.List.{List}
use mathlib.Core.Logic.{⊎_elim}
use Prim.Native.Nat.{ℕ, zero, suc, ◌^◌, ◌<◌}
use native.Mathlib.Nat.{eq-or-lt_of_le}
use native.Mathlib.Decide.{dec_lt}
use native.Mathlib.Omega.{arith}
use borrow.Author.Tests.{ne_eqb, not-true}
use Rattle.literals.specs.Sets.{has, minus}
use Rattle.literals.proofs.Tests.{not_true_false, and_intro, and_left, and_right}
use Rattle.literals.proofs.Members.{has_bound, members_below, has_empty, has_minus_power, minus_less, has_ext}
use Rattle.literals.proofs.Within.{each_within, within_each, within_without, within_lacks}
use Rattle.program.specs.Program.{Rule, defeasibles, Π_mask, Π}
use Rattle.derivation.specs.Derivation.{Derives, Contradictory, HeadsBelow}
use Rattle.derivation.specs.Closure.{derives, contradictory}
use Rattle.derivation.proofs.Chains.{derives_sound, derives_complete, derives_ind}
use Rattle.derivation.proofs.Contradictions.{contradictory_sound, contradictory_complete}
use Rattle.derivation.proofs.Choices.{Π_with_ext_below, Π_mask_empty}
use Rattle.argument.specs.Argument.{Subset, Argument}
use Rattle.argument.specs.List.{derives_without, none_without, is_argument}
use Rattle.argument.proofs.MaskClosures.{minus_subset, mask_heads, mask_derives_mono}

-- the mask without a rule of it is another mask
minus_other : (m b : ℕ) → has m b ≡ true → minus m (2 ^ b) ≡ m → ⊥
minus_other m b h e = omega (arith, minus_less m b h)

not_both : (a b : Bool) → not (a && b) ≡ true → a ≡ true → b ≡ false
not_both true b e h = not-true b e
not_both false b e h = absurd (false≢true h)

both_not : (a b : Bool) → (a ≡ true → b ≡ false) → not (a && b) ≡ true
both_not true b f = ap not (f refl)
both_not false b f = refl

and_true : (t : Bool) → (t && true) ≡ t
and_true true = refl
and_true false = refl

-- three tests, the second to fail
three_parts : (a b c : Bool) → (a && (not b && c)) ≡ true → (a ≡ true) × (b ≡ false) × (c ≡ true)
three_parts true true c e = absurd (false≢true e)
three_parts true false c e = (refl, refl, e)
three_parts false b c e = absurd (false≢true e)

parts_three : (a b c : Bool) → a ≡ true → b ≡ false → c ≡ true → (a && (not b && c)) ≡ true
parts_three a b c p q r = and_intro a (not b && c) p (and_intro (not b) c (ap not q) r)

module _ (rules : List Rule) (m h : ℕ) where
  -- the rule with bit b cannot be left out
  abbrev pub Needs : ℕ → Type 0
  Needs b = has m b ≡ true → derives_without rules m b h ≡ false

  pub none_without_each : (n : ℕ) → none_without rules m h n ≡ true → (b : ℕ) → b < n → Needs b
  unfolding none_without
  none_without_each zero e b l = absurd (omega arith)
  none_without_each (suc n) e b l =
      ⊎_elim (λ q. subst Needs (sym q) (not_both (has m n) (derives_without rules m n h) (and_left this (none_without rules m h n) e)))
      (none_without_each n (and_right this (none_without rules m h n) e) b) (eq-or-lt_of_le {n = b} {m = n} (omega arith))
    where
      this : Bool
      this = not (has m n && derives_without rules m n h)

  pub each_none_without : (n : ℕ) → ((b : ℕ) → b < n → Needs b) → none_without rules m h n ≡ true
  unfolding none_without
  each_none_without zero f = refl
  each_none_without (suc n) f =
      and_intro (not (has m n && derives_without rules m n h)) (none_without rules m h n)
      (both_not (has m n) (derives_without rules m n h) (f n (omega arith))) (each_none_without n (λ b l. f b (omega arith)))

  -- it is enough to leave out one rule at a time
  pub minimal_by_one : ((b : ℕ) → Needs b) → (n : ℕ) → Subset n m → (n ≡ m → ⊥) → Derives (Π_mask n rules) h → ⊥
  minimal_by_one f n w e d = lacking (within_lacks n m (each_within n m w) e)
    where
      lacking : (b : ℕ) × (has m b ≡ true) × (has n b ≡ false) → ⊥
      lacking (b, p, q) =
          false≢true
          (sym (f b p)
          ∙ derives_complete (Π_mask (minus m (2 ^ b)) rules) h
          (mask_derives_mono rules n (minus m (2 ^ b))
          (within_each n (minus m (2 ^ b)) (within_without n m b (each_within n m w) q)) h d))

  -- an argument with the mask m, from what the tests say
  pub argument_by_one : HeadsBelow 128 rules → derives (Π_mask m rules) h ≡ true → contradictory (Π_mask m rules) ≡ false
      → ((b : ℕ) → Needs b) → Argument rules m h
  argument_by_one hd d c f =
      record {
        derived = derives_sound (Π_mask m rules) h d;
        coherent = λ x. false≢true (sym c ∙ contradictory_complete (Π_mask m rules) (mask_heads rules 128 m hd) x);
        minimal = minimal_by_one f;
      }

  -- and what the tests say of one
  module _ (a : Argument rules m h) where
    pub argument_derives : derives (Π_mask m rules) h ≡ true
    argument_derives = derives_complete (Π_mask m rules) h a.derived

    pub argument_coherent : contradictory (Π_mask m rules) ≡ false
    argument_coherent =
        not_true_false (contradictory (Π_mask m rules)) (λ e. a.coherent (contradictory_sound (Π_mask m rules) e))

    pub argument_needs : (b : ℕ) → Needs b
    argument_needs b p =
        not_true_false (derives_without rules m b h) (λ e.
        a.minimal (minus m (2 ^ b)) (minus_subset m b) (minus_other m b p) (derives_sound (Π_mask (minus m (2 ^ b)) rules) h e))

    -- bits that no rule has are never needed
    pub argument_mask_below : m < 2 ^ defeasibles rules
    argument_mask_below = members_below (defeasibles rules) m inside
      where
        inside : (b : ℕ) → has m b ≡ true → b < defeasibles rules
        inside b p = go (dec_lt b (defeasibles rules))
          where
            go : Dec (b < defeasibles rules) → b < defeasibles rules
            go (yes l) = l
            go (no l) =
                absurd
                (false≢true
                (sym (argument_needs b p)
                ∙ ap (λ (l : List Rule). derives l h) (Π_with_ext_below rules (has (minus m (2 ^ b))) (has m) same)
                ∙ argument_derives))
              where
                same : (k : ℕ) → k < defeasibles rules → has (minus m (2 ^ b)) k ≡ has m k
                same k j =
                    has_minus_power m b k ∙ ap (λ (t : Bool). has m k && not t) (ne_eqb k b (λ q. l (omega arith))) ∙ and_true (has m k)

    pub argument_literal_below : HeadsBelow 128 rules → h < 128
    argument_literal_below hd =
        derives_ind (Π_mask m rules) (λ (k : ℕ). k < 128) (λ r i f. mask_heads rules 128 m hd r i) h a.derived

  -- the test says what the definition says
  pub is_argument_sound : HeadsBelow 128 rules → m < 2 ^ defeasibles rules → is_argument rules m h ≡ true → Argument rules m h
  unfolding is_argument
  is_argument_sound hd l e =
      let t = three_parts (derives (Π_mask m rules) h) (contradictory (Π_mask m rules)) (none_without rules m h (defeasibles rules)) e in
      argument_by_one hd t.0 t.1
      (λ b p. none_without_each (defeasibles rules) t.2 b (has_bound m (defeasibles rules) b l p) p)

  pub is_argument_complete : Argument rules m h → is_argument rules m h ≡ true
  unfolding is_argument
  is_argument_complete a =
      parts_three (derives (Π_mask m rules) h) (contradictory (Π_mask m rules)) (none_without rules m h (defeasibles rules))
      (argument_derives a) (argument_coherent a) (each_none_without (defeasibles rules) (λ b l. argument_needs a b))

-- an argument with no defeasible rule
module _ (rules : List Rule) (h : ℕ) where
  pub strict_argument : Derives (Π rules) h → (Contradictory (Π rules) → ⊥) → Argument rules 0 h
  strict_argument d c =
      record {
        derived = subst (λ (l : List Rule). Derives l h) (sym (Π_mask_empty rules)) d;
        coherent = λ x. c (subst Contradictory (Π_mask_empty rules) x);
        minimal = λ n w e x. e (none n w);
      }
    where
      none : (n : ℕ) → Subset n 0 → n ≡ 0
      none n w = has_ext n 0 (λ b. not_true_false (has n b) (λ e. false≢true (sym (has_empty b) ∙ w b e)) ∙ sym (has_empty b))

  pub argument_strict : Argument rules 0 h → Derives (Π rules) h × (Contradictory (Π rules) → ⊥)
  argument_strict a = (
    subst (λ (l : List Rule). Derives l h) (Π_mask_empty rules) a.derived,
    λ x. a.coherent (subst Contradictory (sym (Π_mask_empty rules)) x),
  )
