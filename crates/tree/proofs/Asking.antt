-- What is asked of a candidate, and its number from the answers.
use mathlib.Core.Path.{◌≡◌, refl, sym, ap, ◌∙◌, subst}
use mathlib.Core.Bool.{Bool, true, false, not, ◌||◌}
use mathlib.Core.List.{List, ◌∷◌, Memᴰ}
use Prim.Native.Nat.{ℕ, ◌+◌, ◌^◌, ◌<◌}
use native.Mathlib.Numerals.{add-one}
use lib.ListN.{length, get_or}
use lib.Dec.{eqb}
use Rattle.lists.specs.Lists.{any}
use Rattle.literals.specs.Sets.{union, within}
use Rattle.argument.specs.Argument.{mask_of}
use Rattle.argument.specs.List.{argument_list}
use Rattle.closures.specs.Inside.Table.{tells}
use Rattle.defeat.specs.Tests.{kind}
use Rattle.preference.specs.Preference.{preferred_test}
use Rattle.defeat.specs.OfProgram.{tests_of}
use Rattle.defeat.specs.Inside.Exclusions.{Numbers}
use Rattle.defeat.specs.Inside.Kinds.{number_of_kind}
use Rattle.defeat.specs.Inside.Steps.{AttacksBy}
use Rattle.defeat.proofs.Attacks.{kind_apart}
use Rattle.tree.specs.declared.nodes.Step.{Step}
use Rattle.tree.specs.Reply.{theirs, permit, reply_kind, last_kind}
use Rattle.tree.specs.declared.candidates.Framework.{Framework}
use Rattle.tree.specs.Inside.Steps.{line_of, masks_of, Prepared, tests_in, Asked}
use Rattle.tree.proofs.Line.{sides_within}
use Rattle.tree.proofs.Steps.{get_d_in}
use Rattle.tree.proofs.Listings.{prepared_list, prepared_small}
use Rattle.tree.proofs.Sides.{side_concordant, reply_apart, reply_discordant, reply_used, reply_free}

module _ {f : Framework} {line : List ℕ} {s : Step} (A : Asked f line s) (j : ℕ) (inside : j < length f.arguments.now) where
  -- the candidate, the line's last argument, and the line before it
  abbrev x : ℕ
  x = get_or f.arguments.now j 0

  abbrev y : ℕ
  y = get_or line s.depth 0

  abbrev l : List ℕ
  l = line_of line s.depth

  abbrev World : Type 0
  World = Prepared f

  line_is : line_of line (s.depth + 1) ≡ y ∷ l
  line_is = rw add-one

  x_in : Memᴰ x f.arguments.now
  x_in = get_d_in f.arguments.now j inside

  y_in : Memᴰ y f.arguments.now
  y_in = A.on_line y (rw line_is (Memᴰ.head refl))

  side_is : union s.other (mask_of x) ≡ masks_of (x ∷ theirs (y ∷ l))
  side_is = ap (λ (m : ℕ). union m (mask_of x)) (A.side_masks ∙ ap (λ (k : List ℕ). masks_of (theirs k)) line_is)

  side_in : (z : ℕ) → Memᴰ z (x ∷ theirs (y ∷ l)) → Memᴰ z f.arguments.now
  side_in z (Memᴰ.head e) = subst (λ (v : ℕ). Memᴰ v f.arguments.now) (sym e) x_in
  side_in z (Memᴰ.tail i) = A.on_line z (rw line_is ((sides_within (y ∷ l)).1 z i))

  -- what the tests of attack and defeat ask
  pub asking_numbers : Numbers f.arguments.now
  asking_numbers i h = prepared_small A.prepared (get_or f.arguments.now i 0) (get_d_in f.arguments.now i h)

  pub asking_x : x < 2 ^ 23
  asking_x = prepared_small A.prepared x x_in

  pub asking_y : y < 2 ^ 23
  asking_y = prepared_small A.prepared y y_in

  listed_all : (w : World) (z : ℕ) → Memᴰ z f.arguments.now → Memᴰ z (argument_list w.program.rules)
  listed_all w z = subst (λ (l : List ℕ). Memᴰ z l) (prepared_list w)

  -- ---- the answers

  module _ (w : World) where
    abbrev all : List ℕ
    all = argument_list w.program.rules

    pub asking_apart : AttacksBy f.exclusions.now f.rows.now x y false → 0 ≡ reply_kind (tests_in w) (line_of line (s.depth + 1)) x
    asking_apart e =
        rw line_is
        (sym (reply_apart (tests_in w) y x l
        (kind_apart w.made x y (listed_all w x x_in) (listed_all w y y_in) (preferred_test w.program) e)))

    concordant_is : (tests_in w).concordant (x ∷ theirs (y ∷ l)) ≡ not (tells f.rows.now 128 (union s.other (mask_of x)))
    concordant_is =
        side_concordant w.program (preferred_test w.program) f.rows.now (x ∷ theirs (y ∷ l)) w.made.told
        ∙ ap (λ (m : ℕ). not (tells f.rows.now 128 m)) (sym side_is)

    module _ (m : ℕ) (m_is : m ≡ mask_of x) (clashes : Bool) (clashes_is : clashes ≡ tells f.rows.now 128 (union s.other m)) where
      concordant_by : (tests_in w).concordant (x ∷ theirs (y ∷ l)) ≡ not clashes
      concordant_by = concordant_is ∙ ap (λ (k : ℕ). not (tells f.rows.now 128 (union s.other k))) (sym m_is) ∙ ap not (sym clashes_is)

      pub asking_discordant : clashes ≡ true → 0 ≡ reply_kind (tests_in w) (line_of line (s.depth + 1)) x
      asking_discordant e = rw line_is (sym (reply_discordant (tests_in w) y x l (concordant_by ∙ ap not e)))

      module _ (met : Bool) (met_is : met ≡ any (λ z. within m (mask_of z)) (line_of line (s.depth + 1))) where
        used_by : any (λ z. (tests_in w).sub x z) (y ∷ l) ≡ met
        unfolding tests_of
        used_by =
            ap (any (λ z. within (mask_of x) (mask_of z))) (sym line_is)
            ∙ ap (λ (n : ℕ). any (λ z. within n (mask_of z)) (line_of line (s.depth + 1))) (sym m_is)
            ∙ sym met_is

        pub asking_used : met ≡ true → 0 ≡ reply_kind (tests_in w) (line_of line (s.depth + 1)) x
        asking_used e = rw line_is (sym (reply_used (tests_in w) y x l (used_by ∙ e)))

        pub asking_free : clashes ≡ false → met ≡ false → (k r : ℕ)
            → (Memᴰ x all → Memᴰ y all → k ≡ kind (tests_in w) x y)
            → r ≡ permit k (not (eqb (number_of_kind s.kind) 2) || eqb k 1) → r ≡ reply_kind (tests_in w) (line_of line (s.depth + 1)) x
        asking_free c u k r k-is r-is =
            r-is
            ∙ ap (λ (n : ℕ). permit k (not (eqb n 2) || eqb k 1)) (A.last_is w)
            ∙ ap (λ (n : ℕ). permit n (not (eqb (last_kind (tests_in w) (line_of line (s.depth + 1))) 2) || eqb n 1))
            (k-is (listed_all w x x_in) (listed_all w y y_in))
            ∙ rw line_is (sym (reply_free (tests_in w) y x l (concordant_by ∙ ap not c) (used_by ∙ u)))
