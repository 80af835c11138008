-- `store` meets its contract, by the kind of the rule.
use mathlib.Core.Path.{◌≡◌, sym, ap, subst, ◌∙◌}
use mathlib.Core.Bool.{Bool, true, false}
use mathlib.Core.List.{List}
use Prim.Native.Nat.{ℕ, ◌+◌, ◌*◌, ◌%◌, ◌^◌, ◌<◌}
use lib.ListN.{length}
use Rattle.literals.specs.declared.LiteralSet.{LiteralSet}
use Rattle.lists.specs.Lists.{choose}
use Rattle.literals.specs.Inside.Words.{set_of}
use Rattle.literals.proofs.Words.{shifted_one}
use Rattle.program.specs.Program.{Rule, strict, defeasible}
use Rattle.program.specs.Inside.Store.{with_row, with_bit}
use Rattle.program.specs.Inside.Filling.{Stored}
use Rattle.program.proofs.Fillings.{stored_strict, stored_defeasible}
use Rattle.image.specs.Inside.Passes.{RuleIs}
use native.Mathlib.Omega.{arith}
use Rattle.image.proofs.rules.store.Goals as goal

-- what the contract says of the table, by the kind of the rule
abbrev Put : Bool → ℕ → ℕ → ℕ → ℕ → LiteralSet → List ℕ → List ℕ → Type 0
Put d i bit next h body s t = (next ≡ choose d (bit + 1) bit) × ((q : Rule) → RuleIs q d h (set_of body) → Stored q i bit s t)

module _ (d : Bool) (i bit h : ℕ) (body : LiteralSet) (s t : List ℕ) (small : i < 96) (long : length s ≡ 419) where
  strict-put : d ≡ false → t ≡ with_row s i h body 0 → Put d i bit bit h body s t
  strict-put k e = (
    ap (λ (b : Bool). choose b (bit + 1) bit) (sym k),
    λ q r. subst (Stored q i bit s) (sym e) (stored_strict q i bit s h body small long r.head_is r.body_is (r.kind_is ∙ ap (λ (b : Bool). choose b defeasible strict) k)),
  )

  defeasible-put : (u : List ℕ) → d ≡ true → bit < 16 → u ≡ with_row s i h body (1 * 2 ^ bit % 2 ^ 64) → t ≡ with_bit u bit i → Put d i bit (bit + 1) h body s t
  defeasible-put u k few e f =
      let whole : t ≡ with_bit (with_row s i h body (2 ^ bit)) bit i = f ∙ ap (λ (l : List ℕ). with_bit l bit i) (e ∙ ap (with_row s i h body) (shifted_one bit (omega arith))) in (
        ap (λ (b : Bool). choose b (bit + 1) bit) (sym k),
        λ q r. subst (Stored q i bit s) (sym whole) (stored_defeasible q i bit s h body small long r.head_is r.body_is (r.kind_is ∙ ap (λ (b : Bool). choose b defeasible strict) k) few),
      )

pub returns-then-rule : goal.returns-then-rule
returns-then-rule c = defeasible-put _ _ _ _ _ _ _ c.requires.0 c.told-table _ c.if-rule.true (c.requires.1 c.if-rule.true) c.store_row.ensures c.store_bit.ensures

pub returns : goal.returns
returns c = strict-put _ _ _ _ _ _ _ c.requires.0 c.told-table c.if-rule.false c.store_row-2.ensures
