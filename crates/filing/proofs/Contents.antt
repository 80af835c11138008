-- The filed form tells programs apart exactly by what they hold.
use mathlib.Core.Path.{◌≡◌, refl, sym, ap, ap₂, ◌∙◌, subst}
use mathlib.Core.List.Memᴰ
use mathlib.Core.List.{List}
use mathlib.Core.Logic.{◌↔◌}
use Prim.Native.Nat.{ℕ}
use native.Mathlib.Omega.{arith}
use lib.ListN.{length, get_or}
use Rattle.lists.proofs.Places.{apart}
use Rattle.lists.specs.Lists.{Within, upto, index_in}
use Rattle.lists.proofs.Lists.{upto_found}
use Rattle.lists.specs.Sorting.{Sorted}
use Rattle.lists.proofs.Sorting.{sort_perm, sort_sorted, sorted_same, sorted_map}
use Rattle.program.specs.Program.{Rule, Program, fact, rule_at}
use Rattle.renaming.specs.Programs.{Renumbered}
use Rattle.renaming.proofs.Masks.{renumbered_sym, rules_to}
use Rattle.filing.specs.Filed.{rule_key, filed_order, ordered, filed}
use Rattle.writing.specs.Image.{pair_key}
use Rattle.writing.proofs.Accepting.{rule_apart}
use Rattle.filing.specs.Content.{ListedPair, SameContent}
use Rattle.filing.specs.Inside.Wellformed.{Wellformed}
use Rattle.lists.specs.Inside.Numbering.{Numbering}
use Rattle.lists.proofs.Numberings.{numbering_perm, upto_distinct}
use Rattle.filing.proofs.Orders.{ordered_renumbered, ordered_pairs_sorted, ordered_wellformed}

-- ---- keys tell rules apart

pub rule_key_lem : (r s : Rule) → rule_key r ≡ rule_key s → r ≡ s
rule_key_lem r s e = rule_apart r s (cc) (cc) (cc)

-- ---- the same content

content_refl : (p : Program) → SameContent p p
content_refl p = record {
  atoms_same = refl;
  rules_to = λ r i. i;
  rules_from_lem = λ r i. i;
  pairs_to = λ r s l. l;
  pairs_from = λ r s l. l;
}

pub content_sym : {p q : Program} → SameContent p q → SameContent q p
content_sym c = record {
  atoms_same = sym c.atoms_same;
  rules_to = c.rules_from_lem;
  rules_from_lem = c.rules_to;
  pairs_to = c.pairs_from;
  pairs_from = c.pairs_to;
}

pub content_trans : {p q r : Program} → SameContent p q → SameContent q r → SameContent p r
content_trans c d = record {
  atoms_same = c.atoms_same ∙ d.atoms_same;
  rules_to = λ x i. d.rules_to x (c.rules_to x i);
  rules_from_lem = λ x i. c.rules_from_lem x (d.rules_from_lem x i);
  pairs_to = λ x y l. d.pairs_to x y (c.pairs_to x y l);
  pairs_from = λ x y l. c.pairs_from x y (d.pairs_from x y l);
}

listed_to : {p q : Program} {to from : ℕ → ℕ} → Renumbered p q to from → Wellformed p → (r s : Rule) → ListedPair p r s → ListedPair q r s
listed_to {to = to} n w r s l =
    let there = w.named l.first l.second l.pair in
    record {
      first = to l.first;
      second = to l.second;
      pair = n.pairs_to l.first l.second l.pair;
      first_is = n.rule_same l.first there.0 ∙ l.first_is;
      second_is = n.rule_same l.second there.1 ∙ l.second_is;
    }

-- a program under other numbers has the same content
pub content_renumbered : {p q : Program} {to from : ℕ → ℕ} → Renumbered p q to from → Wellformed p → Wellformed q → p.atoms ≡ q.atoms
    → SameContent p q
content_renumbered n v w e = record {
  atoms_same = e;
  rules_to = rules_to n;
  rules_from_lem = rules_to (renumbered_sym n);
  pairs_to = listed_to n v;
  pairs_from = listed_to (renumbered_sym n) w;
}

-- ---- the filed form

module _ (p : Program) (s : Wellformed p) where
  pub filed_numbering : Numbering (length p.rules) (filed_order p.rules)
  unfolding filed_order
  filed_numbering =
      numbering_perm (length p.rules) (sort_perm (λ i. rule_key (rule_at p.rules i)) (upto 0 (length p.rules)))

  pub filed_renumbered : Renumbered p (filed p) (index_in (filed_order p.rules)) (λ j. get_or (filed_order p.rules) j 0)
  unfolding filed
  filed_renumbered = ordered_renumbered p (filed_order p.rules) filed_numbering s

  pub filed_wellformed : Wellformed (filed p)
  unfolding filed
  filed_wellformed = ordered_wellformed p (filed_order p.rules) filed_numbering s

  pub filed_pairs_sorted : Sorted pair_key (filed p).pairs
  unfolding filed
  filed_pairs_sorted = ordered_pairs_sorted p (filed_order p.rules) filed_numbering s

  pub filed_order_sorted : Sorted (λ i. rule_key (rule_at p.rules i)) (filed_order p.rules)
  unfolding filed_order
  filed_order_sorted =
      sort_sorted (λ i. rule_key (rule_at p.rules i)) (upto 0 (length p.rules))
      (λ i j h k e.
      let a = (upto_found 0 (length p.rules) i h).1 in
      let b = (upto_found 0 (length p.rules) j k).1 in
      apart (fact 0) p.rules i j s.rules_once (omega arith) (omega arith) (rule_key_lem (rule_at p.rules i) (rule_at p.rules j) e))
      (upto_distinct 0 (length p.rules))

  -- "Rules ascend by .."
  pub filed_rules_sorted : Sorted rule_key (filed p).rules
  unfolding filed ordered
  filed_rules_sorted = sorted_map rule_key (rule_at p.rules) (filed_order p.rules) filed_order_sorted

  pub filed_atoms : p.atoms ≡ (filed p).atoms
  unfolding filed ordered
  filed_atoms = refl

  pub filed_content : SameContent p (filed p)
  filed_content = content_renumbered filed_renumbered s filed_wellformed filed_atoms

-- two programs with their rules and pairs in ascending order, and the same content, are one
record InOrder (p : Program) : Type 0 where
  wellformed : Wellformed p
  rules_sorted : Sorted rule_key p.rules
  pairs_sorted : Sorted pair_key p.pairs

pairs_within : (p q : Program) → Wellformed p → Wellformed q → p.rules ≡ q.rules → ((r s : Rule) → ListedPair p r s → ListedPair q r s)
    → Within p.pairs q.pairs
pairs_within p q v w e f (a, b) i =
    let h = v.named a b i in
    let l = f (rule_at p.rules a) (rule_at p.rules b) (record { first = a; second = b; pair = i; first_is = refl; second_is = refl }) in
    let k = w.named l.first l.second l.pair in
    let n : length p.rules ≡ length q.rules = ap length e in
    let c : a ≡ l.first
    = apart (fact 0) q.rules a l.first w.rules_once (omega (arith, h.0)) k.0
    (ap (λ (x : List Rule). rule_at x a) (sym e) ∙ sym l.first_is) in
    let d : b ≡ l.second
    = apart (fact 0) q.rules b l.second w.rules_once (omega (arith, h.1)) k.1
    (ap (λ (x : List Rule). rule_at x b) (sym e) ∙ sym l.second_is) in
    Memᴰ.cast (ap₂ (λ (x y : ℕ). (x, y)) c d) l.pair

in_order_same : (p q : Program) → InOrder p → InOrder q → SameContent p q → p ≡ q
in_order_same p q v w c =
    let e : p.rules ≡ q.rules
    = sorted_same rule_key p.rules q.rules v.rules_sorted w.rules_sorted c.rules_to c.rules_from_lem in
    let f : p.pairs ≡ q.pairs
    = sorted_same pair_key p.pairs q.pairs v.pairs_sorted w.pairs_sorted
    (pairs_within p q v.wellformed w.wellformed e c.pairs_to) (pairs_within q p w.wellformed v.wellformed (sym e) c.pairs_from) in
    ap (λ (x : ℕ). record { atoms = x; rules = p.rules; pairs = p.pairs }) c.atoms_same
    ∙ ap₂ (λ (x : List Rule) (y : List (ℕ × ℕ)). record { atoms = q.atoms; rules = x; pairs = y }) e f

module _ (p q : Program) (v : Wellformed p) (w : Wellformed q) where
  filed_in_order : (r : Program) → Wellformed r → InOrder (filed r)
  filed_in_order r s = record { wellformed = filed_wellformed r s; rules_sorted = filed_rules_sorted r s; pairs_sorted = filed_pairs_sorted r s }

  -- "Two .. give equal bytes exactly when they hold the same .."
  pub filed_same : (filed p ≡ filed q) ↔ SameContent p q
  filed_same = (
    λ e.
        content_trans (filed_content p v)
        (content_trans (subst (SameContent (filed p)) e (content_refl (filed p))) (content_sym (filed_content q w))),
    λ c.
        in_order_same (filed p) (filed q) (filed_in_order p v) (filed_in_order q w)
        (content_trans (content_sym (filed_content p v)) (content_trans c (filed_content q w))),
  )

pub filed_twice : (p : Program) → Wellformed p → filed (filed p) ≡ filed p
filed_twice p s = (filed_same (filed p) p (filed_wellformed p s) s).1 (content_sym (filed_content p s))
