-- Rows turned into columns, one literal more at a time.
use mathlib.Core.Path.{◌≡◌, refl, sym, ap, ap₂, ◌∙◌}
use mathlib.Core.Bool.{Bool, true, false}
use mathlib.Core.List.{List}
use mathlib.Core.Logic.{◌⊎◌, inl, inr, ⊎_elim}
use Prim.Native.Nat.{ℕ, ◌+◌, ◌*◌, ◌^◌, ◌<◌}
use lib.Bits.{bit_or}
use Rattle.lists.specs.Lists.{choose}
use Rattle.literals.specs.Sets.{has, insert, minus, LowestBelow}
use Rattle.literals.proofs.Tests.{or_left, or_right}
use Rattle.literals.proofs.Members.{has_cases, has_union, insert_cases, insert_keeps, has_insert_same}
use Rattle.argument.specs.Inside.Sets.{set_at}
use Rattle.collecting.specs.Inside.Columns.{argues, Word, Put, Turned, Members}
use Rattle.collecting.proofs.Marks.{members_split, members_fewer, members_none}

module _ (t : List ℕ) (w : ℕ) where
  pub turned_none : (Some : ℕ → Type 0) (c : List ℕ) (x : ℕ) → ((h : ℕ) → Some h → ⊥) → Turned t w Some c c x x
  turned_none Some c x none = record {
    sized = refl;
    kept = λ k h l g. g;
    more = λ k l g. g;
    says = λ k h l g. inl g;
    passes = λ k h l s g. absurd (none h s);
  }

  pub turned_then : (P Q R : ℕ → Type 0) (c d e : List ℕ) (x y z : ℕ) → ((h : ℕ) → R h → P h ⊎ Q h) → ((h : ℕ) → P h → R h)
      → ((h : ℕ) → Q h → R h) → Turned t w P c d x y → Turned t w Q d e y z → Turned t w R c e x z
  turned_then P Q R c d e x y z cases left right a b = record {
    sized = b.sized ∙ a.sized;
    kept = λ k h l g. b.kept k h l (a.kept k h l g);
    more = λ k l g. b.more k l (a.more k l g);
    says = λ k h l g.
        ⊎_elim (λ q. ⊎_elim (λ r. inl r) (λ (p, r). inr (left h p, r)) (a.says k h l q)) (λ (p, r). inr (right h p, r)) (b.says k h l g);
    passes = λ k h l s g.
        ⊎_elim (λ p. let r = a.passes k h l p g in (b.kept k h l r.0, b.more k l r.1)) (λ q. b.passes k h l q g) (cases h s);
  }

  -- one row
  pub turned_row : (l x found : ℕ) (c d : List ℕ) → Word t l w x → Put l x c d → Turned t w (λ h. h ≡ l) c d found (bit_or x found)
  turned_row l x found c d word put = record {
    sized = put.sized;
    kept = λ k h s g.
        ⊎_elim (λ e. ap (λ (y : ℕ). has y h) (chosen k s true e) ∙ insert_keeps (set_at c k) l h g)
        (λ e. ap (λ (y : ℕ). has y h) (chosen k s false e) ∙ g) (has_cases x k);
    more = λ k s g. has_union x found k ∙ or_right (has x k) (has found k) g;
    says = λ k h s g.
        ⊎_elim
        (λ e.
        ⊎_elim (λ q. inl q) (λ q. inr (q, ap (argues t (64 * w + k)) q ∙ sym (word k s) ∙ e))
        (insert_cases (set_at c k) l h (ap (λ (y : ℕ). has y h) (sym (chosen k s true e)) ∙ g)))
        (λ e. inl (ap (λ (y : ℕ). has y h) (sym (chosen k s false e)) ∙ g)) (has_cases x k);
    passes = λ k h s q g.
        let member : has x k ≡ true = word k s ∙ ap (argues t (64 * w + k)) (sym q) ∙ g in (
          ap₂ has (chosen k s true member) q ∙ has_insert_same (set_at c k) l,
          has_union x found k ∙ or_left (has x k) (has found k) member,
        );
  }
    where
      chosen : (k : ℕ) → k < 64 → (b : Bool) → has x k ≡ b → set_at d k ≡ choose b (insert (set_at c k) l) (set_at c k)
      chosen k s b e = put.column k s ∙ ap (λ (t : Bool). choose t (insert (set_at c k) l) (set_at c k)) e

  -- a literal, then the others of its set
  pub turned_literal : (s b : ℕ) → LowestBelow 128 s b → (c d e : List ℕ) (x y z : ℕ) → Turned t w (λ h. h ≡ b) c d x y
      → Turned t w (Members (minus s (2 ^ b))) d e y z → Turned t w (Members s) c e x z
  turned_literal s b lowest c d e x y z =
      turned_then (λ h. h ≡ b) (Members (minus s (2 ^ b))) (Members s) c d e x y z
      (members_split s b) (λ h q. rw q (lowest.small, lowest.member)) (members_fewer s b)

  pub turned_end : (s : ℕ) (c : List ℕ) (x : ℕ) → s ≡ 0 → Turned t w (Members s) c c x x
  turned_end s c x e = turned_none (Members s) c x (λ h. members_none s h e)
