-- What is returned of two calls on one image, from demand 3.
use mathlib.Core.Path.{◌≡◌, refl, sym, ◌∙◌, ap, subst}
use mathlib.Core.Bool.{Bool, true, false, ◌&&◌}
use mathlib.Core.List.{List}
use Prim.Native.Nat.{ℕ, ◌/◌}
use lib.Dec.{T, eqb, eqb→eq, eqb_refl}
use Rattle.lists.specs.Decides.{Decides}
use Rattle.lists.proofs.Decides.{decides_and}
use Rattle.literals.proofs.Tests.{not_true_false}
use Rattle.layout.specs.Reading.{program_in}
use Rattle.defeat.specs.OfProgram.{Exclude}
use Rattle.calls.specs.Outcomes.{code_in}
use Rattle.calls.specs.Calls.{queried, host_call, trees_call, Call, query, host, trees, literal_asked, SaysYes}
use Rattle.warrant.proofs.Claims.{demand_3}
use Rattle.exclusion.specs.Exclusion.{call_of, says_yes, TwoCalls}

equal : (m n : ℕ) → Decides (eqb m n) (m ≡ n)
equal m n = record {
  says = eqb→eq m n;
  passes = λ e. subst (λ (k : ℕ). T (eqb m k)) e (eqb_refl m);
}

says_yes_lem : (s : List ℕ) (c : Call) → Decides (says_yes s c) (SaysYes s c)
says_yes_lem s (query h budget al nl) = equal (code_in (queried s h budget al nl)) 1
says_yes_lem s (host h budget) = equal (host_call s h budget / 65536) 1
says_yes_lem s (trees h budget al nl) = equal (trees_call s h budget al nl / 65536) 1

pub literal_asked_lem : (foreign : Bool) (h b al nl : ℕ) → literal_asked (call_of foreign h b al nl) ≡ h
literal_asked_lem true h b al nl = refl
literal_asked_lem false h b al nl = refl

module _ (s : List ℕ) (h k : ℕ) (c d : Call) (e : literal_asked c ≡ h) (f : literal_asked d ≡ k) where
  apart : Exclude (program_in s).rules h k → SaysYes s c → SaysYes s d → ⊥
  apart x =
      demand_3.of_calls s c d (subst (λ (n : ℕ). Exclude (program_in s).rules n (literal_asked d)) (sym e)
      (subst (λ (n : ℕ). Exclude (program_in s).rules h n) (sym f) x))

  -- where a and b are what the two calls say, each on its own
  pub two_calls : (a b r : Bool) → a ≡ says_yes s c → b ≡ says_yes s d → r ≡ (a && b) → TwoCalls s h k c d r
  two_calls a b r first second met =
      let same = met ∙ ap (λ (t : Bool). t && b) first ∙ ap (λ (t : Bool). says_yes s c && t) second in
      let decided = subst (λ (t : Bool). Decides t (SaysYes s c × SaysYes s d)) (sym same)
      (decides_and (says_yes_lem s c) (says_yes_lem s d)) in
      record {
        both = decided;
        never = λ x. not_true_false r (λ yes. let y = decided.says (subst T (sym yes) tt) in apart x y.0 y.1);
      }
