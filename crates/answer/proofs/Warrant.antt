-- Warrant: what is computed is what is published, a warranted literal's atom stands in some rule, and literals that
-- exclude each other are never both warranted.
use mathlib.Core.Path.{◌≡◌, refl, subst}
use mathlib.Core.Bool.{Bool}
use mathlib.Core.List.Memᴰ
use mathlib.Core.List.{List, ◌∷◌, Memᴰ}
use Prim.Native.Nat.{ℕ, ◌/◌}
use native.Mathlib.Omega.{arith}
use lib.Dec.{eqb, eqb→eq}
use Rattle.lists.specs.Lists.{any}
use Rattle.lists.specs.Decides.{Decides}
use Rattle.lists.proofs.Lists.{filter_intro, filter_found}
use Rattle.lists.proofs.Decides.{decides_iff, decides_any}
use Rattle.literals.specs.Sets.{has}
use Rattle.program.specs.Program.{Rule, Program, fact, Π_mask, Π}
use Rattle.derivation.specs.Derivation.{Derives, complement, HeadsBelow}
use Rattle.derivation.proofs.Chains.{derives_ind, derives_rule}
use Rattle.derivation.proofs.Choices.{Π_with_rules}
use Rattle.argument.specs.Argument.{mask_of, literal_of}
use Rattle.defeat.specs.Frame.{Frame}
use Rattle.defeat.specs.Tests.{Tests}
use Rattle.defeat.specs.OfProgram.{Exclude, frame_of, tests_of}
use Rattle.defeat.proofs.OfProgram.{frame_laws, frame_renders}
use Rattle.defeat.proofs.Renders.{Renders}
use Rattle.tree.specs.Marks.{UndefeatedRoot}
use Rattle.tree.specs.Forest.{undefeated_root}
use Rattle.tree.proofs.Marks.{undefeated_renders}
use Rattle.tree.proofs.Published.{number_renders}
use Rattle.tree.proofs.Exclusion.{exclusive_roots}
use Rattle.answer.specs.Warrant.{WarrantedBy}
use Rattle.answer.specs.Answer.{Occurs, occurs, arguments_for, warranted}

-- ---- atoms that stand in some rule

pub occurs_renders : (p : Program) (h : ℕ) → Decides (occurs p h) (Occurs p h)
unfolding occurs
occurs_renders p h = decides_iff
    (λ f. record {
      rule = f.0;
      in_program = f.1;
      literal = f.2.0;
      in_rule = f.2.1;
      same_atom = f.2.2;
    })
    (λ o. (o.rule, o.in_program, (o.literal, o.in_rule, o.same_atom)))
    (decides_any (λ r. (l : ℕ) × Memᴰ l (r.head ∷ r.body) × (l / 2 ≡ h / 2)) test p.rules
    (λ r i.
    decides_any (λ l. l / 2 ≡ h / 2) (λ l. eqb (l / 2) (h / 2)) (r.head ∷ r.body)
    (λ l j. number_renders (l / 2) (h / 2))))
  where
    test : Rule → Bool
    test r = any (λ l. eqb (l / 2) (h / 2)) (r.head ∷ r.body)

pub occurs_complement : {p : Program} {h : ℕ} → Occurs p (complement h) → Occurs p h
occurs_complement {p} {h} o = record {
  rule = o.rule;
  in_program = o.in_program;
  literal = o.literal;
  in_rule = o.in_rule;
  same_atom = let e = o.same_atom in omega arith;
}

-- what is derived is some rule's head
pub derived_occurs : (p : Program) (m h : ℕ) → Derives (Π_mask m p.rules) h → Occurs p h
derived_occurs p m = derives_ind (Π_mask m p.rules) (Occurs p) (λ r i f. record {
  rule = r;
  in_program = Π_with_rules p.rules (has m) r i;
  literal = r.head;
  in_rule = Memᴰ.head refl;
  same_atom = refl;
})

-- ---- of every program, at any preference

module _ {p : Program} {Preferred : ℕ → ℕ → Type 0} where
  pub warranted_occurs : {h : ℕ} → WarrantedBy p Preferred h → Occurs p h
  warranted_occurs w =
      subst (Occurs p) w.for_literal (derived_occurs p (mask_of w.root) (literal_of w.root) w.argument.derived)

  pub warranted_apart : (h k : ℕ) → Exclude p.rules h k
      → WarrantedBy p Preferred h → WarrantedBy p Preferred k → ⊥
  warranted_apart h k e u v =
      exclusive_roots (frame_laws p Preferred) u.root v.root u.argument v.argument
      (rw (u.for_literal, v.for_literal) e) u.marked_U v.marked_U

-- a literal and its complement exclude each other
pub complement_excludes : (rules : List Rule) (h : ℕ) → Exclude rules h (complement h)
complement_excludes rules h = (h, added h (Memᴰ.head refl), added (complement h) (Memᴰ.tail (Memᴰ.head refl)))
  where
    both : List Rule
    both = fact h ∷ fact (complement h) ∷ Π rules

    added : (l : ℕ) → Memᴰ (fact l) both → Derives both l
    added l i = derives_rule both (fact l) i (λ b n. absurd (Memᴰ.not-nil n))

-- ---- where the heads are below 128, and preference is tested

module _ (p : Program) (heads : HeadsBelow 128 p.rules) (Preferred : ℕ → ℕ → Type 0) (preferred : ℕ → ℕ → Bool)
    (decides : (m n : ℕ) → Decides (preferred m n) (Preferred m n)) where
  abbrev F : Frame ℕ
  F = frame_of p Preferred

  abbrev t : Tests ℕ
  t = tests_of p preferred

  R : Renders F t
  R = frame_renders p heads Preferred preferred decides

  for_found : (h x : ℕ) → Memᴰ x (arguments_for t h) → F.Argument x × (literal_of x ≡ h)
  unfolding arguments_for
  for_found h x i =
      let f = filter_found (λ y. eqb (literal_of y) h) t.arguments i in
      ((R.argument x).1 f.0, eqb→eq (literal_of x) h f.1)

  for_intro : (h x : ℕ) → F.Argument x → literal_of x ≡ h → Memᴰ x (arguments_for t h)
  unfolding arguments_for
  for_intro h x a e =
      filter_intro (λ y. eqb (literal_of y) h) t.arguments ((R.argument x).0 a) ((number_renders (literal_of x) h).passes e)

  pub warranted_renders : (h : ℕ) → Decides (warranted (tests_of p preferred) h) (WarrantedBy p Preferred h)
  unfolding warranted
  warranted_renders h = decides_iff
      (λ f. record {
        root = f.0;
        argument = (for_found h f.0 f.1).0;
        for_literal = (for_found h f.0 f.1).1;
        marked_U = f.2;
      })
      (λ w. (w.root, for_intro h w.root w.argument w.for_literal, w.marked_U))
      (decides_any (UndefeatedRoot F) (undefeated_root t) (arguments_for t h)
      (λ x i. undefeated_renders (frame_laws p Preferred) R x (for_found h x i).0))
