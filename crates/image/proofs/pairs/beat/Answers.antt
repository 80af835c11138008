-- `beat` meets its contract: the first rule's need is its bit.
use mathlib.Core.Path.{◌≡◌, refl, sym, ap, ap₂, ◌∙◌}
use mathlib.Core.List.{List}
use Prim.Native.Nat.{ℕ, ◌^◌}
use lib.Bits.{bit_or}
use borrow.Author.Tests.{eqb-true, eq-eqb}
use Rattle.literals.specs.Sets.{has, Lowest, union}
use Rattle.literals.proofs.Members.{has_power, has_not_empty}
use Rattle.program.specs.Inside.Store.{with_beaten}
use Rattle.program.specs.Inside.Table.{need_at, beaten_at}
use native.Mathlib.Omega.{arith}
use Rattle.image.proofs.pairs.beat.Goals as goal

lowest-power : (m k r : ℕ) → m ≡ 2 ^ k → Lowest m r → r ≡ k
lowest-power m k r e l = eqb-true r k (sym (has_power k r) ∙ ap (λ (n : ℕ). has n r) (sym e) ∙ l.member)

power-some : (m k : ℕ) → m ≡ 2 ^ k → m ≡ 0 → ⊥
power-some m k e = has_not_empty m k (ap (λ (n : ℕ). has n k) e ∙ has_power k k ∙ eq-eqb k k refl)

put : (t u : List ℕ) (k bit x y second : ℕ) → bit ≡ k → x ≡ beaten_at t bit → y ≡ need_at t second → u ≡ with_beaten t bit (bit_or x y) → u ≡ with_beaten t k (union (beaten_at t k) (need_at t second))
put t u k bit x y second b ex ey e =
    e ∙ ap (λ (n : ℕ). with_beaten t n (bit_or x y)) b ∙ ap₂ (λ (p q : ℕ). with_beaten t k (bit_or p q)) (ex ∙ ap (beaten_at t) b) ey

pub lowest-bit-requires : goal.lowest-bit-requires
lowest-bit-requires c = power-some _ c.requires.2.0 (c.need.ensures ∙ c.requires.2.2)

pub beaten-requires : goal.beaten-requires
beaten-requires c = omega (arith, lowest-power _ _ _ (c.need.ensures ∙ c.requires.2.2) c.lowest-bit.ensures, c.requires.2.1)

pub store_beaten-requires : goal.store_beaten-requires
store_beaten-requires c = omega (arith, lowest-power _ _ _ (c.need.ensures ∙ c.requires.2.2) c.lowest-bit.ensures, c.requires.2.1)

pub returns : goal.returns
returns c = λ k e. put c.args.table.now _ k _ _ _ c.args.second (lowest-power _ _ _ (c.need.ensures ∙ e) c.lowest-bit.ensures) c.beaten.ensures c.need-2.ensures c.store_beaten.ensures
