-- The arguments of a program under other rule numbers: each is carried over, and the two lists are permutations of each
-- other after that.
use mathlib.Core.Path.{◌≡◌, refl, sym, ap, ap₂, ◌∙◌}
use mathlib.Core.Bool.{Bool, true, false, not}
use mathlib.Core.List.Memᴰ
use mathlib.Core.List.Permᴰ
use mathlib.Core.List.{List, map, Memᴰ, Permᴰ}
use Prim.Native.Nat.{ℕ, ◌+◌, ◌*◌, ◌^◌, ◌<◌}
use native.Mathlib.Omega.{arith}
use lib.ListN.{length, length-map}
use Rattle.lists.specs.Lists.{Within}
use Rattle.lists.proofs.Lists.{map_found, map_intro}
use Rattle.lists.proofs.Orders.{ascending_distinct}
use Rattle.lists.proofs.Permutations.{same_perm, distinct_map, any_match, perm_length}
use Rattle.literals.specs.Sets.{has, insert, within, clash}
use Rattle.literals.proofs.Within.{within_each, each_within, within_le}
use Rattle.program.specs.Program.{Rule, Program, defeasibles, bit_of, Π_with, Π_mask, Π}
use Rattle.program.specs.Limits.{DefeasibleAt}
use Rattle.derivation.specs.Derivation.{Contradictory, HeadsBelow}
use Rattle.derivation.specs.Closure.{closure, contradictory, excludes}
use Rattle.derivation.proofs.Closures.{closure_same_rules}
use Rattle.derivation.proofs.Chains.{derives_mono}
use Rattle.argument.specs.Argument.{Argument, mask_of, literal_of}
use Rattle.argument.specs.List.{argument_list}
use Rattle.argument.proofs.Minimal.{argument_mask_below}
use Rattle.argument.proofs.Lists.{list_sound, argument_listed, list_ascending}
use Rattle.defeat.specs.OfProgram.{in_some, tests_of}
use Rattle.renaming.specs.Inside.Tests.{SameTests}
use Rattle.renaming.specs.Programs.{Renumbered, carried, carried_argument}
use Rattle.renaming.proofs.Masks.{renumbered_sym, rules_to, defeasible_to, chosen_to, carried_has, carried_below, carried_within, carried_back}

contradictory_to : (rules more : List Rule) → Within rules more → Contradictory rules → Contradictory more
contradictory_to rules more w c = (c.0, derives_mono rules more w c.0 c.1, derives_mono rules more w _ c.2)

-- mask and literal of M × 128 + h
coded : (m h : ℕ) → h < 128 → (mask_of (m * 128 + h) ≡ m) × (literal_of (m * 128 + h) ≡ h)
coded m h small = (omega arith, omega arith)

literal_small : (x : ℕ) → literal_of x < 128
literal_small x = omega arith

module _ {p q : Program} {to from : ℕ → ℕ} (n : Renumbered p q to from) where
  mask_to : (m : ℕ) → Within (Π_mask m p.rules) (Π_mask (carried p q to m) q.rules)
  mask_to m = chosen_to n (has m) (has (carried p q to m)) (λ i d e. sym (carried_has n m i d) ∙ e)

  mask_from : (m : ℕ) → Within (Π_mask (carried p q to m) q.rules) (Π_mask m p.rules)
  mask_from m =
      chosen_to (renumbered_sym n) (has (carried p q to m)) (has m) (λ j d e.
      carried_has n m (from j) (defeasible_to (renumbered_sym n) d)
      ∙ ap (λ (k : ℕ). has (carried p q to m) (bit_of q.rules k)) (n.to_from j d.there)
      ∙ e)

  -- an argument carried over is an argument
  pub argument_to : (m h : ℕ) → Argument p.rules m h → Argument q.rules (carried p q to m) h
  argument_to m h a = record {
    derived = derives_mono (Π_mask m p.rules) (Π_mask (carried p q to m) q.rules) (mask_to m) h a.derived;
    coherent = λ c. a.coherent (contradictory_to (Π_mask (carried p q to m) q.rules) (Π_mask m p.rules) (mask_from m) c);
    minimal = λ k w e d.
        let small : k < 2 ^ defeasibles q.rules = omega (arith, within_le k (carried p q to m) (each_within k (carried p q to m) w), carried_below n m) in
        let back : carried p q to (carried q p from k) ≡ k = carried_back (renumbered_sym n) k small in
        let under : within (carried q p from k) m ≡ true
        = carried_within n (carried q p from k) m (carried_below (renumbered_sym n) k)
        ∙ ap (λ (x : ℕ). within x (carried p q to m)) back
        ∙ each_within k (carried p q to m) w in
        a.minimal (carried q p from k) (within_each (carried q p from k) m under) (λ z. e (sym back ∙ ap (carried p q to) z))
        (derives_mono (Π_mask k q.rules) (Π_mask (carried q p from k) p.rules)
        (λ r i.
        chosen_to (renumbered_sym n) (has k) (has (carried q p from k)) (λ j f g. sym (carried_has (renumbered_sym n) k j f) ∙ g) r i)
        h d);
  }

  pub heads_to : (b : ℕ) → HeadsBelow b p.rules → HeadsBelow b q.rules
  heads_to b h r i = h r (rules_to (renumbered_sym n) r i)

  module _ (heads : HeadsBelow 128 p.rules) where
    -- the list's arguments, each carried over
    abbrev Listed : ℕ → Type 0
    Listed x = Memᴰ x (argument_list p.rules)

    pub listed_mask_lem : (x : ℕ) → Listed x → mask_of x < 2 ^ defeasibles p.rules
    listed_mask_lem x i = argument_mask_below p.rules (mask_of x) (literal_of x) (list_sound p.rules heads x i)

    pub listed_to : (x : ℕ) → Listed x → Memᴰ (carried_argument p q to x) (argument_list q.rules)
    listed_to x i =
        argument_listed q.rules (heads_to 128 heads) (carried p q to (mask_of x)) (literal_of x)
        (argument_to (mask_of x) (literal_of x) (list_sound p.rules heads x i))

    pub listed_back : (x : ℕ) → Listed x → carried_argument q p from (carried_argument p q to x) ≡ x
    listed_back x i =
        let c = coded (carried p q to (mask_of x)) (literal_of x) (literal_small x) in
        let e : carried q p from (mask_of (carried_argument p q to x)) ≡ mask_of x
        = ap (carried q p from) c.0 ∙ carried_back n (mask_of x) (listed_mask_lem x i) in
        ap₂ (λ (m h : ℕ). m * 128 + h) e c.1 ∙ omega arith

-- the two lists
pub lists_perm : {p q : Program} {to from : ℕ → ℕ} → Renumbered p q to from → HeadsBelow 128 p.rules
    → Permᴰ (map (carried_argument p q to) (argument_list p.rules)) (argument_list q.rules)
lists_perm {p} {q} {to} {from} n heads =
    same_perm (map f l) (argument_list q.rules)
    (distinct_map f l (λ x y i j e. sym (listed_back n heads x i) ∙ ap (carried_argument q p from) e ∙ listed_back n heads y j)
    (ascending_distinct l (list_ascending p.rules)))
    (ascending_distinct (argument_list q.rules) (list_ascending q.rules))
    (λ y i. let r = map_found f l i in Memᴰ.cast r.2 (listed_to n heads r.0 r.1))
    (λ y i.
    Memᴰ.cast (sym (listed_back (renumbered_sym n) (heads_to n 128 heads) y i))
    (map_intro f l (listed_to (renumbered_sym n) (heads_to n 128 heads) y i)))
  where
    l : List ℕ
    l = argument_list p.rules

    f : ℕ → ℕ
    f = carried_argument p q to

-- "the argument count"
pub lists_length : {p q : Program} {to from : ℕ → ℕ} → Renumbered p q to from → HeadsBelow 128 p.rules
    → length (argument_list p.rules) ≡ length (argument_list q.rules)
lists_length {p} {q} {to} n heads =
    sym (length-map (argument_list p.rules) (carried_argument p q to)) ∙ perm_length (lists_perm n heads)

-- ---- Π with the rules of corresponding choices derives the same

module _ {p q : Program} {to from : ℕ → ℕ} (n : Renumbered p q to from) where
  pub closure_to : (f g : ℕ → Bool)
      → ((i : ℕ) → DefeasibleAt p.rules i → f (bit_of p.rules i) ≡ g (bit_of q.rules (to i)))
      → (s : ℕ) → closure (Π_with f p.rules) s ≡ closure (Π_with g q.rules) s
  closure_to f g h s =
      closure_same_rules (Π_with f p.rules) (Π_with g q.rules) (chosen_to n f g (λ i d e. sym (h i d) ∙ e))
      (chosen_to (renumbered_sym n) g f (λ j d e.
      h (from j) (defeasible_to (renumbered_sym n) d)
      ∙ ap (λ (k : ℕ). g (bit_of q.rules k)) (n.to_from j d.there)
      ∙ e)) s

  -- "Π contradictory"
  pub strict_contradictory_to : contradictory (Π p.rules) ≡ contradictory (Π q.rules)
  strict_contradictory_to = ap clash (closure_to (λ _. false) (λ _. false) (λ i d. refl) 0)

  pub excludes_to : (a b : ℕ) → excludes p.rules a b ≡ excludes q.rules a b
  excludes_to a b = ap clash (closure_to (λ _. false) (λ _. false) (λ i d. refl) (insert (insert 0 a) b))

  -- ---- the tests, at preferences that agree on the masks that are carried over
  module _ (heads : HeadsBelow 128 p.rules) (f g : ℕ → ℕ → Bool)
      (agree : (a b : ℕ) → f a b ≡ g (carried p q to a) (carried p q to b)) where
    abbrev carry : ℕ → ℕ
    carry = carried_argument p q to

    mask_is : (x : ℕ) → mask_of (carry x) ≡ carried p q to (mask_of x)
    mask_is x = (coded (carried p q to (mask_of x)) (literal_of x) (literal_small x)).0

    pub literal_is : (x : ℕ) → literal_of (carried_argument p q to x) ≡ literal_of x
    literal_is x = (coded (carried p q to (mask_of x)) (literal_of x) (literal_small x)).1

    some_to : (l : List ℕ) (i : ℕ) → DefeasibleAt p.rules i → in_some l (bit_of p.rules i) ≡ in_some (map carry l) (bit_of q.rules (to i))
    some_to l i d =
        any_match carry {l = l} (Permᴰ.refl (map carry l)) (λ x. has (mask_of x) (bit_of p.rules i)) (λ y. has (mask_of y) (bit_of q.rules (to i)))
        (λ x k. carried_has n (mask_of x) i d ∙ ap (λ (m : ℕ). has m (bit_of q.rules (to i))) (sym (mask_is x)))

    pub tests_same : SameTests (tests_of p f) (tests_of q g) (carried_argument p q to)
    unfolding tests_of
    tests_same = record {
      listed = lists_perm n heads;
      sub_same = λ x y i j.
          carried_within n (mask_of x) (mask_of y) (listed_mask_lem n heads x i)
          ∙ ap₂ within (sym (mask_is x)) (sym (mask_is y));
      excludes_same = λ x y i j.
          excludes_to (literal_of x) (literal_of y) ∙ ap₂ (excludes q.rules) (sym (literal_is x)) (sym (literal_is y));
      preferred_same = λ x y i j. agree (mask_of x) (mask_of y) ∙ ap₂ g (sym (mask_is x)) (sym (mask_is y));
      concordant_same = λ l w.
          ap (λ (s : ℕ). not (clash s)) (closure_to (in_some l) (in_some (map carry l)) (some_to l) 0);
    }
