use mathlib.Core.Path.{◌≡◌, sym, ap, ◌∙◌}
use mathlib.Core.List.{List}
use Prim.Native.Nat.{ℕ, ◌+◌, ◌<◌}
use native.Mathlib.Decide.{ℕ_discrete}
use lib.ListN.{length, get_or, length-set}
use lib.Seq.{get_or-set_same, get_or-set_other}
use Rattle.program.specs.Inside.Table.{beaten_at}
use Rattle.program.specs.Inside.Store.{with_beaten}
use native.Mathlib.Omega.{arith}
use Rattle.image.proofs.pairs.clear.Goals as goal

next : (t u : List ℕ) (b : ℕ) → length t ≡ 419 → b < 16 → u ≡ with_beaten t b 0 → ((k : ℕ) → k < b → beaten_at t k ≡ 0) → (k : ℕ) → k < b + 1 → beaten_at u k ≡ 0
next t u b long few e f k h = ap (λ (l : List ℕ). beaten_at l k) e ∙ go (ℕ_discrete k b)
  where
    go : Dec (k ≡ b) → beaten_at (with_beaten t b 0) k ≡ 0
    go (yes q) = ap (beaten_at (with_beaten t b 0)) q ∙ get_or-set_same t (400 + b) 0 0 (omega arith)
    go (no q) = get_or-set_other t (400 + b) (400 + k) 0 0 (λ z. q (omega arith)) ∙ f k (omega arith)

kept : (t u : List ℕ) (b w : ℕ) → u ≡ with_beaten t b 0 → w < 400 → get_or u w 0 ≡ get_or t w 0
kept t u b w e h = ap (λ (l : List ℕ). get_or l w 0) e ∙ get_or-set_other t (400 + b) w 0 0 (λ z. omega arith)

pub loop-b-preserved : goal.loop-b-preserved
loop-b-preserved c = let l = c.loop-b in (
  λ k h. next l.table _ l.b (sym (length-set l.table _ _) ∙ ap length (sym c.store_beaten.ensures) ∙ c.store_beaten.array_long) (omega arith) c.store_beaten.ensures l.invariant.0 k h,
  λ w h. kept l.table _ l.b w c.store_beaten.ensures h ∙ l.invariant.1 w h,
)
