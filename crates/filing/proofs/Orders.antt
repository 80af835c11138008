-- A program in another order: the same program under other numbers.
use mathlib.Core.Path.{◌≡◌, refl, sym, ap, ap₂, ◌∙◌}
use mathlib.Core.List.Memᴰ
use mathlib.Core.List.Permᴰ
use mathlib.Core.List.{List, map, Memᴰ}
use Prim.Native.Nat.{ℕ, ◌<◌}
use native.Mathlib.Omega.{arith}
use lib.ListN.{length, get_or, length-map}
use Rattle.lists.proofs.Places.{there, apart, get_d_map, index_placed, index_of}
use Rattle.lists.specs.Lists.{index_in}
use Rattle.lists.proofs.Lists.{map_found, map_intro}
use Rattle.lists.specs.Sorting.{Sorted}
use Rattle.lists.proofs.Permutations.{perm_within, distinct_map}
use Rattle.lists.proofs.Sorting.{sort_perm, sort_sorted, sorted_distinct}
use Rattle.program.specs.Program.{Program, rule_at, fact}
use Rattle.renaming.specs.Programs.{Renumbered}
use Rattle.filing.specs.Filed.{ordered}
use Rattle.writing.specs.Image.{pair_key}
use Rattle.filing.specs.Inside.Wellformed.{Wellformed}
use Rattle.lists.specs.Inside.Numbering.{Numbering}

pair_key_lem : (x y : ℕ × ℕ) → pair_key x ≡ pair_key y → x ≡ y
pair_key_lem x y e = ap₂ (λ (a b : ℕ). (a, b)) (cc) (cc)

-- ---- the program in another order

pub ordered_atoms : (p : Program) (order : List ℕ) → (ordered p order).atoms ≡ p.atoms
unfolding ordered
ordered_atoms p order = refl

pub ordered_rules : (p : Program) (order : List ℕ) → (ordered p order).rules ≡ map (rule_at p.rules) order
unfolding ordered
ordered_rules p order = refl

module _ (p : Program) (order : List ℕ) (o : Numbering (length p.rules) order) (s : Wellformed p) where
  abbrev to : ℕ → ℕ
  to = index_in order

  abbrev from : ℕ → ℕ
  from j = get_or order j 0

  rule_moved : (j : ℕ) → j < length order → rule_at (map (rule_at p.rules) order) j ≡ rule_at p.rules (from j)
  rule_moved j h = get_d_map 0 (rule_at p.rules) order j (fact 0) h

  moved : ℕ × ℕ → ℕ × ℕ
  moved q = (to q.0, to q.1)

  pub pair_moved : (a b : ℕ) → Memᴰ (a, b) p.pairs → Memᴰ (index_in order a, index_in order b) (ordered p order).pairs
  unfolding ordered moved
  pair_moved a b i = perm_within (Permᴰ.symm (sort_perm pair_key (map moved p.pairs))) (to a, to b) (map_intro moved p.pairs i)

  pub moved_pair : (c d : ℕ) → Memᴰ (c, d) (ordered p order).pairs
      → (a : ℕ) × (b : ℕ) × Memᴰ (a, b) p.pairs × (c ≡ index_in order a) × (d ≡ index_in order b)
  unfolding ordered moved
  moved_pair c d i =
      let r = map_found moved p.pairs (perm_within (sort_perm pair_key (map moved p.pairs)) (c, d) i) in
      (r.0.0, r.0.1, r.1, ap (λ (q : ℕ × ℕ). q.0) r.2, ap (λ (q : ℕ × ℕ). q.1) r.2)

  pub ordered_length : length (ordered p order).rules ≡ length order
  unfolding ordered
  ordered_length = length-map order (rule_at p.rules)

  rule_at_lem : (i : ℕ) → i < length p.rules → rule_at (ordered p order).rules (to i) ≡ rule_at p.rules i
  unfolding ordered
  rule_at_lem i h =
      let r = index_placed order i (o.each i h) in
      rule_moved (to i) r.0 ∙ ap (rule_at p.rules) r.1

  pub ordered_renumbered : Renumbered p (ordered p order) (index_in order) (λ j. get_or order j 0)
  ordered_renumbered = record {
    to_there = λ i h. omega (arith, ordered_length, (index_placed order i (o.each i h)).0);
    from_there = λ j h. o.below (from j) (there 0 order j (omega (arith, ordered_length)));
    from_to = λ i h. (index_placed order i (o.each i h)).1;
    to_from = λ j h. index_of order j o.once (omega (arith, ordered_length));
    rule_same = rule_at_lem;
    pairs_to = pair_moved;
    pairs_from = pair_back;
  }
    where
      pair_back : (c d : ℕ) → Memᴰ (c, d) (ordered p order).pairs → Memᴰ (from c, from d) p.pairs
      pair_back c d i =
          let r = moved_pair c d i in
          let there = s.named r.0 r.1 r.2 in
          let e : from c ≡ r.0 = ap from r.3 ∙ (index_placed order r.0 (o.each r.0 there.0)).1 in
          let f : from d ≡ r.1 = ap from r.4 ∙ (index_placed order r.1 (o.each r.1 there.1)).1 in
          Memᴰ.cast (ap₂ (λ (x y : ℕ). (x, y)) e f) r.2

  -- "pairs are renumbered and sorted"
  index_apart : (a b : ℕ) → a < length p.rules → b < length p.rules → to a ≡ to b → a ≡ b
  index_apart a b h k e =
      sym (index_placed order a (o.each a h)).1 ∙ ap from e ∙ (index_placed order b (o.each b k)).1

  pub ordered_pairs_sorted : Sorted pair_key (ordered p order).pairs
  unfolding ordered moved
  ordered_pairs_sorted =
      sort_sorted pair_key (map moved p.pairs) (λ x y i j e. pair_key_lem x y e)
      (distinct_map moved p.pairs (λ x y i j e.
      let h = s.named x.0 x.1 i in
      let k = s.named y.0 y.1 j in
      ap₂ (λ (a b : ℕ). (a, b)) (index_apart x.0 y.0 h.0 k.0 (ap (λ (q : ℕ × ℕ). q.0) e))
      (index_apart x.1 y.1 h.1 k.1 (ap (λ (q : ℕ × ℕ). q.1) e)))
      s.pairs_once)

  pub ordered_wellformed : Wellformed (ordered p order)
  unfolding ordered
  ordered_wellformed = record {
    rules_once = distinct_map (rule_at p.rules) order
        (λ i j h k. apart (fact 0) p.rules i j s.rules_once (o.below i h) (o.below j k)) o.once;
    pairs_once = sorted_distinct pair_key (ordered p order).pairs ordered_pairs_sorted;
    named = λ c d i.
        let r = moved_pair c d i in
        let h = s.named r.0 r.1 r.2 in (
          omega (arith, ordered_length, r.3, (index_placed order r.0 (o.each r.0 h.0)).0),
          omega (arith, ordered_length, r.4, (index_placed order r.1 (o.each r.1 h.1)).0),
        );
  }
