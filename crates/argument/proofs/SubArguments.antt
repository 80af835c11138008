-- The literals of the sub-arguments of an argument are those that its mask derives.
use mathlib.Core.Path.{◌≡◌, refl, sym, ap, ◌∙◌, subst, subst₂}
use mathlib.Core.Bool.{Bool, true, false, ◌&&◌, false≢true}
use mathlib.Core.List.{List}
use mathlib.Core.Logic.{◌⊎◌, inl, inr, ⊎_elim}
use Prim.Native.Nat.{ℕ, zero, suc, ◌*◌, ◌+◌, ◌^◌, ◌<◌, ◌≤◌}
use native.Mathlib.Nat.{pow-suc, eq-or-lt_of_le, le_refl}
use native.Mathlib.Omega.{arith}
use lib.Pow.{pow_pos}
use Rattle.literals.specs.Sets.{has, minus}
use Rattle.literals.proofs.Tests.{and_left, and_right, not_true_false}
use Rattle.literals.proofs.Members.{has_bound, minus_less}
use Rattle.program.specs.Program.{Rule, Π_mask}
use Rattle.derivation.specs.Derivation.{HeadsBelow}
use Rattle.derivation.specs.Closure.{derives, contradictory}
use Rattle.derivation.proofs.Chains.{derives_complete}
use Rattle.argument.specs.Argument.{Subset, Argument, SubArgument, mask_of, literal_of}
use Rattle.argument.specs.List.{derives_without}
use Rattle.argument.specs.Inside.MaskClosure.{mask_closure}
use Rattle.argument.proofs.MaskClosures.{minus_subset, mask_derives_mono, mask_contradictory_mono}
use Rattle.argument.proofs.Minimal.{Needs, argument_by_one, argument_literal_below}

below_power : (n : ℕ) → n < 2 ^ n
below_power zero = omega arith
below_power (suc n) = omega (arith, below_power n, pow-suc 2 n, pow_pos n)

-- some number below n passes, or none does
search_below : (test : ℕ → Bool) (n : ℕ) → ((b : ℕ) × (test b ≡ true)) ⊎ ((b : ℕ) → b < n → test b ≡ false)
search_below test zero = inr (λ b l. absurd (nothing b l))
  where
    nothing : (b : ℕ) → b < 0 → ⊥
    nothing b l = omega arith
search_below test (suc n) = go (test n) refl (search_below test n)
  where
    go : (t : Bool) → test n ≡ t → ((b : ℕ) × (test b ≡ true)) ⊎ ((b : ℕ) → b < n → test b ≡ false)
        → ((b : ℕ) × (test b ≡ true)) ⊎ ((b : ℕ) → b < suc n → test b ≡ false)
    go true e r = inl (n, e)
    go false e (inl r) = inl r
    go false e (inr f) = inr (λ b l. ⊎_elim (λ q. ap test q ∙ e) (f b) (eq-or-lt_of_le {n = b} {m = n} (omega arith)))

module _ (rules : List Rule) (h : ℕ) where
  -- a mask within m that derives h, no rule of which can be left out
  abbrev Least : ℕ → Type 0
  Least m = (n : ℕ) × Subset n m × (derives (Π_mask n rules) h ≡ true) × ((b : ℕ) → Needs rules n h b)

  -- either no rule of m can be left out, or one can
  step : (m : ℕ) → ((b : ℕ) × (has m b ≡ true) × (derives_without rules m b h ≡ true)) ⊎ ((b : ℕ) → Needs rules m h b)
  step m = go (search_below test m)
    where
      test : ℕ → Bool
      test b = has m b && derives_without rules m b h

      go : ((b : ℕ) × (test b ≡ true)) ⊎ ((b : ℕ) → b < m → test b ≡ false)
          → ((b : ℕ) × (has m b ≡ true) × (derives_without rules m b h ≡ true)) ⊎ ((b : ℕ) → Needs rules m h b)
      go (inl (b, e)) =
          inl (b, and_left (has m b) (derives_without rules m b h) e, and_right (has m b) (derives_without rules m b h) e)
      go (inr f) =
          inr (λ b p. sym (ap (λ (t : Bool). t && derives_without rules m b h) p) ∙ f b (has_bound m m b (below_power m) p))

  least : (k m : ℕ) → m ≤ k → derives (Π_mask m rules) h ≡ true → Least m
  least zero m l d = go (step m)
    where
      go : ((b : ℕ) × (has m b ≡ true) × (derives_without rules m b h ≡ true)) ⊎ ((b : ℕ) → Needs rules m h b) → Least m
      go (inl (b, p, e)) = absurd (omega (arith, minus_less m b p))
      go (inr f) = (m, (λ b p. p), d, f)
  least (suc k) m l d = go (step m) (λ n. least k n)
    where
      go : ((b : ℕ) × (has m b ≡ true) × (derives_without rules m b h ≡ true)) ⊎ ((b : ℕ) → Needs rules m h b)
          → ((n : ℕ) → n ≤ k → derives (Π_mask n rules) h ≡ true → Least n) → Least m
      go (inl (b, p, e)) f = wider (f (minus m (2 ^ b)) (omega (arith, minus_less m b p)) e)
        where
          wider : Least (minus m (2 ^ b)) → Least m
          wider (n, w, x, y) = (n, (λ j q. minus_subset m b j (w j q)), x, y)
      go (inr g) f = (m, (λ b p. p), d, g)

-- each literal that a coherent mask derives has an argument within the mask
pub derived_argument : (rules : List Rule) → HeadsBelow 128 rules → (m h : ℕ) → contradictory (Π_mask m rules) ≡ false
    → derives (Π_mask m rules) h ≡ true → (n : ℕ) × Subset n m × Argument rules n h
derived_argument rules heads m h c d = made (least rules h m m (le_refl m) d)
  where
    made : Least rules h m → (n : ℕ) × Subset n m × Argument rules n h
    made (n, w, x, y) = (
      n,
      w,
      argument_by_one rules n h heads x
          (not_true_false (contradictory (Π_mask n rules)) (λ e. false≢true (sym c ∙ mask_contradictory_mono rules n m w e))) y,
    )

-- and no other literal has
pub argument_derived : (rules : List Rule) (n m h : ℕ) → Subset n m → Argument rules n h → derives (Π_mask m rules) h ≡ true
argument_derived rules n m h w a = derives_complete (Π_mask m rules) h (mask_derives_mono rules n m w h a.derived)

-- the same of entries of the list
module _ (rules : List Rule) (x : ℕ) where
  pub sub_argument_literal : (z : ℕ) → SubArgument rules z x → has (mask_closure rules (mask_of x)) (literal_of z) ≡ true
  sub_argument_literal z a = argument_derived rules (mask_of z) (mask_of x) (literal_of z) a.part a.argument

  pub literal_sub_argument : HeadsBelow 128 rules → contradictory (Π_mask (mask_of x) rules) ≡ false → (l : ℕ)
      → has (mask_closure rules (mask_of x)) l ≡ true → (z : ℕ) × SubArgument rules z x × (literal_of z ≡ l)
  literal_sub_argument heads c l e = made (derived_argument rules heads (mask_of x) l c e)
    where
      made : (n : ℕ) × Subset n (mask_of x) × Argument rules n l → (z : ℕ) × SubArgument rules z x × (literal_of z ≡ l)
      made (n, w, a) =
          let small = argument_literal_below rules n l a heads in
          let p : n ≡ mask_of (n * 128 + l) = omega arith in
          let q : l ≡ literal_of (n * 128 + l) = omega arith in (
            n * 128 + l,
            record {
              argument = subst₂ (Argument rules) p q a;
              part = subst (λ (k : ℕ). Subset k (mask_of x)) p w;
            },
            sym q,
          )
