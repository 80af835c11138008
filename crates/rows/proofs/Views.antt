-- What a row says for the masks from 64 w on, it says for those from 64 v on, v being w cut down to what the row keeps.
use mathlib.Core.Path.{◌≡◌, refl, sym, ap, ◌∙◌}
use mathlib.Core.Bool.{Bool, true, false, ◌&&◌}
use mathlib.Core.List.{List}
use Prim.Native.Nat.{ℕ, ◌+◌}
use lib.Bits.{bit_and}
use lib.ListN.{get_or}
use Rattle.literals.specs.Sets.{has, within}
use Rattle.literals.proofs.Tests.{and_left, and_right}
use Rattle.literals.proofs.Members.{has_ext, has_and}
use Rattle.literals.proofs.Within.{within_each, each_within}
use Rattle.rows.specs.Layout.{word_of}

-- cut down twice
pub cut_twice : (w big small : ℕ) → within small big ≡ true → bit_and (bit_and w big) small ≡ bit_and w small
cut_twice w big small i =
    has_ext (bit_and (bit_and w big) small) (bit_and w small) (λ k.
    has_and (bit_and w big) small k ∙ ap (λ (t : Bool). t && has small k) (has_and w big k)
    ∙ absorb (has w k) (has big k) (has small k) (within_each small big i k) ∙ sym (has_and w small k))
  where
    absorb : (x y z : Bool) → (z ≡ true → y ≡ true) → ((x && y) && z) ≡ (x && z)
    absorb true true z f = refl
    absorb true false true f = f refl
    absorb true false false f = refl
    absorb false y z f = refl

pub view_cut : (keep base t : List ℕ) (w h l : ℕ) → within (get_or keep l 0) (get_or keep h 0) ≡ true
    → word_of keep base t (bit_and w (get_or keep h 0)) l ≡ word_of keep base t w l
view_cut keep base t w h l i = ap (λ (x : ℕ). get_or t (get_or base l 0 + x) 0) (cut_twice w (get_or keep h 0) (get_or keep l 0) i)

pub cut_within : (w f : ℕ) → within (bit_and w f) f ≡ true
cut_within w f = each_within (bit_and w f) f (λ k e. and_right (has w k) (has f k) (sym (has_and w f k) ∙ e))

pub cut_within_left : (w f : ℕ) → within (bit_and w f) w ≡ true
cut_within_left w f = each_within (bit_and w f) w (λ k e. and_left (has w k) (has f k) (sym (has_and w f k) ∙ e))
