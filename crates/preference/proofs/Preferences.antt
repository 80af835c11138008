-- The computed preference is the published one, and the masks of the beaten rules decide it.
use mathlib.Core.Path.{◌≡◌, sym, ap, subst, ◌∙◌}
use mathlib.Core.Bool.{true, false, not, false≢true}
use mathlib.Core.List.{List}
use Prim.Native.Nat.{ℕ, ◌^◌}
use lib.Dec.{eqb}
use borrow.Author.Tests.{ne_eqb}
use Rattle.lists.specs.Decides.{Decides}
use Rattle.lists.proofs.Lists.{T_true, T_false}
use Rattle.lists.proofs.Decides.{decides_iff, decides_same, decides_not, decides_and, decides_any}
use Rattle.literals.specs.Sets.{has, minus, within, meets}
use Rattle.literals.proofs.Tests.{true_T, and_intro}
use Rattle.literals.proofs.Members.{has_bound, has_empty, has_minus_power}
use Rattle.literals.proofs.Within.{within_each, minus_within, meets_both, both_meets}
use Rattle.program.specs.Program.{Program, is_defeasible, defeasibles, rule_at, bit_of, in_mask}
use Rattle.program.specs.Limits.{DefeasibleAt, Limits, Mask}
use Rattle.program.specs.Inside.Table.{BeatenMask, Holds, beaten_at}
use Rattle.program.proofs.Numbers.{defeasible_test, defeasible_found, bit_of_same, bit_of_found}
use Rattle.program.proofs.Chaining.{beats_second}
use Rattle.preference.specs.Reached.{reached}
use Rattle.preference.specs.Preference.{RuleOf, SomeBeats, Preferred, beats_some, preferred_test}
use Rattle.preference.proofs.Reached.{reached_found, reached_intro}

-- ---- the tests, of every program

module _ (p : Program) where
  rule_of_renders : (m a : ℕ) → Decides (in_mask p.rules m a) (RuleOf p m a)
  rule_of_renders m a = decides_iff
      (λ r. record { rule = r.0; member = r.1 })
      (λ r. (r.rule, r.member))
      (decides_and kind member)
    where
      kind : Decides (is_defeasible (rule_at p.rules a).kind) (DefeasibleAt p.rules a)
      kind = record {
        says = λ h. defeasible_found p.rules a (T_true (is_defeasible (rule_at p.rules a).kind) h);
        passes = λ d. true_T (is_defeasible (rule_at p.rules a).kind) (defeasible_test d);
      }

      member : Decides (has m (bit_of p.rules a)) (has m (bit_of p.rules a) ≡ true)
      member = record { says = T_true (has m (bit_of p.rules a)); passes = true_T (has m (bit_of p.rules a)) }

  pub beats_some_renders : (m n : ℕ) → Decides (beats_some p m n) (SomeBeats p m n)
  unfolding beats_some
  beats_some_renders m n = decides_iff
      (λ r.
      let b = reached_found p (in_mask p.rules m) r.0 r.1 in
      record {
        winner = b.0;
        loser = r.0;
        of_first = (rule_of_renders m b.0).says b.1;
        of_second = r.2;
        beats = b.2;
      })
      (λ s. (
        s.loser,
        reached_intro p (in_mask p.rules m) ((rule_of_renders m s.winner).passes s.of_first) s.beats,
        s.of_second,
      ))
      (decides_any (RuleOf p n) (in_mask p.rules n) (reached p (in_mask p.rules m)) (λ x i. rule_of_renders n x))

  pub preferred_renders : (m n : ℕ) → Decides (preferred_test p m n) (Preferred p m n)
  preferred_renders m n = decides_and (beats_some_renders m n) (decides_not (beats_some_renders n m))

  -- a mask with more rules beats all the more
  pub some_beats_mono : (w m n : ℕ) → within w m ≡ true → SomeBeats p w n → SomeBeats p m n
  some_beats_mono w m n e s =
      let member = within_each w m e (bit_of p.rules s.winner) s.of_first.member in
      record {
        winner = s.winner;
        loser = s.loser;
        of_first = record { rule = s.of_first.rule; member = member };
        of_second = s.of_second;
        beats = s.beats;
      }

  -- and the empty mask beats nothing
  pub beats_some_none : (n : ℕ) → beats_some p 0 n ≡ false
  beats_some_none n = T_false (beats_some p 0 n) (λ h.
      let s = (beats_some_renders 0 n).says h in
      false≢true (sym (has_empty (bit_of p.rules s.winner)) ∙ s.of_first.member))

-- ---- by the masks of the beaten rules, within the limits

module _ (p : Program) (limits : Limits p) (m n a w : ℕ) (r : RuleOf p m a) (mask : BeatenMask p a w) where
  -- rule a of m beats a rule of n
  some_beats_met : meets w n ≡ true → SomeBeats p m n
  some_beats_met h =
      let k = meets_both w n h in
      let f = mask.found k.0 k.1 in
      record {
        winner = a;
        loser = f.0;
        of_first = r;
        of_second = record { rule = beats_second limits f.1; member = ap (has n) f.2 ∙ k.2 };
        beats = f.1;
      }

  -- it beats none, so that another rule of m does, if any
  some_beats_rest : meets w n ≡ false → SomeBeats p m n → SomeBeats p (minus m (2 ^ bit_of p.rules a)) n
  some_beats_rest h s = record {
    winner = s.winner;
    loser = s.loser;
    of_first = record { rule = s.of_first.rule; member = left };
    of_second = s.of_second;
    beats = s.beats;
  }
    where
      bit_a : ℕ
      bit_a = bit_of p.rules a

      bit_w : ℕ
      bit_w = bit_of p.rules s.winner

      other : bit_w ≡ bit_a → ⊥
      other e =
          let same : s.winner ≡ a = bit_of_same p.rules s.of_first.rule r.rule e in
          let hit = mask.each (rw same at s.beats) in
          false≢true (sym h ∙ both_meets w n (bit_of p.rules s.loser) hit s.of_second.member)

      left : has (minus m (2 ^ bit_a)) bit_w ≡ true
      left =
          has_minus_power m bit_a bit_w
          ∙ and_intro (has m bit_w) (not (eqb bit_w bit_a)) s.of_first.member (ap not (ne_eqb bit_w bit_a other))

-- ---- as a table holds them: bit b of m, and m without it

module _ {p : Program} {t : List ℕ} (limits : Limits p) (holds : Holds p t) (m n b : ℕ)
    (below : Mask p m) (h : has m b ≡ true) where
  -- the rule with bit b
  owner : (a : ℕ) × DefeasibleAt p.rules a × (bit_of p.rules a ≡ b)
  owner = bit_of_found p.rules b (has_bound m (defeasibles p.rules) b below h)

  of_mask : RuleOf p m owner.0
  of_mask = record { rule = owner.1; member = ap (has m) owner.2 ∙ h }

  its_mask : BeatenMask p owner.0 (beaten_at t b)
  its_mask =
      subst (λ (k : ℕ). BeatenMask p owner.0 (beaten_at t k)) owner.2
      (holds.beaten_is owner.0 owner.1.there (defeasible_test owner.1))

  pub beats_some_met : meets (beaten_at t b) n ≡ true → beats_some p m n ≡ true
  beats_some_met e = T_true (beats_some p m n) ((beats_some_renders p m n).passes
      (some_beats_met p limits m n owner.0 (beaten_at t b) of_mask its_mask e))

  pub beats_some_rest : meets (beaten_at t b) n ≡ false → beats_some p (minus m (2 ^ b)) n ≡ beats_some p m n
  beats_some_rest e =
      ap (λ (k : ℕ). beats_some p (minus m (2 ^ k)) n) (sym owner.2)
      ∙ decides_same (beats_some_renders p (without owner.0) n)
      (decides_iff (some_beats_rest p limits m n owner.0 (beaten_at t b) of_mask its_mask e)
      (some_beats_mono p (without owner.0) m n (minus_within m (2 ^ bit_of p.rules owner.0)))
      (beats_some_renders p m n))
    where
      without : ℕ → ℕ
      without a = minus m (2 ^ bit_of p.rules a)
