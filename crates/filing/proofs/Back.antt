-- The way back: a program in the inverse order, and what filing it gives.
use mathlib.Core.Path.{◌≡◌, sym, ap, ap₂, ◌∙◌, subst}
use mathlib.Core.List.Memᴰ
use mathlib.Core.List.{List, map, Memᴰ}
use mathlib.Core.Logic.{◌↔◌}
use Prim.Native.Nat.{ℕ, ◌<◌}
use native.Mathlib.Omega.{arith}
use lib.ListN.{length, get_or, length-map}
use lib.Seq.{ext_get_or}
use Rattle.lists.specs.Lists.{upto, index_in, inverse}
use Rattle.lists.specs.Sorting.{Sorted}
use Rattle.lists.specs.Inside.Numbering.{Numbering}
use Rattle.lists.proofs.Lists.{upto_length}
use Rattle.lists.proofs.Places.{get_d_map, upto_at}
use Rattle.lists.proofs.Numberings.{numbering_length, numbering_within, upto_numbering, inverse_length, inverse_numbering, index_back, place_back, inverse_twice, inverse_index}
use Rattle.lists.proofs.Sorting.{sorted_same, map_sorted}
use Rattle.program.specs.Program.{Rule, Program, rule_at, fact}
use Rattle.renaming.specs.Programs.{Renumbered}
use Rattle.writing.specs.Image.{pair_key}
use Rattle.filing.specs.Filed.{rule_key, filed_order, ordered, filed, typed}
use Rattle.filing.specs.Inside.Wellformed.{Wellformed}
use Rattle.filing.proofs.Orders.{ordered_atoms, ordered_rules, ordered_length, ordered_renumbered, ordered_pairs_sorted, ordered_wellformed}
use Rattle.filing.proofs.Contents.{filed_numbering, filed_order_sorted}

-- two programs that agree in their parts
program_same : {p q : Program} → p.atoms ≡ q.atoms → p.rules ≡ q.rules → p.pairs ≡ q.pairs → p ≡ q
program_same {p} {q} a r b =
    ap₂ (λ (x : ℕ) (y : List Rule × List (ℕ × ℕ)). record { atoms = x; rules = y.0; pairs = y.1 }) a
    (ap₂ (λ (y : List Rule) (z : List (ℕ × ℕ)). (y, z)) r b)

-- ---- in some order and in its inverse

module _ (p : Program) (order : List ℕ) (o : Numbering (length p.rules) order) (w : Wellformed p) (sorted : Sorted pair_key p.pairs) where
  abbrev n : ℕ
  n = length p.rules

  abbrev moved : Program
  moved = ordered p order

  abbrev back : Program
  back = ordered moved (inverse order)

  moved_length : length moved.rules ≡ n
  moved_length = ordered_length p order o w ∙ numbering_length n order o

  back_numbering : Numbering (length moved.rules) (inverse order)
  back_numbering = subst (λ (k : ℕ). Numbering k (inverse order)) (sym moved_length) (inverse_numbering n order o)

  moved_wellformed : Wellformed moved
  moved_wellformed = ordered_wellformed p order o w

  first : Renumbered p moved (index_in order) (λ j. get_or order j 0)
  first = ordered_renumbered p order o w

  second : Renumbered moved back (index_in (inverse order)) (λ j. get_or (inverse order) j 0)
  second = ordered_renumbered moved (inverse order) back_numbering moved_wellformed

  back_length : length back.rules ≡ n
  back_length = ordered_length moved (inverse order) back_numbering moved_wellformed ∙ inverse_length n order o

  back_rules : back.rules ≡ p.rules
  back_rules =
      ext_get_or (fact 0) back.rules p.rules back_length (λ i h.
      let k : i < n = omega (arith, back_length) in
      ap (rule_at back.rules) (sym (index_back n order o i k))
      ∙ second.rule_same (index_in order i) (first.to_there i k)
      ∙ first.rule_same i k)

  back_pairs : back.pairs ≡ p.pairs
  back_pairs =
      sorted_same pair_key back.pairs p.pairs (ordered_pairs_sorted moved (inverse order) back_numbering moved_wellformed) sorted
      (λ (a, b) i.
      let h = (ordered_wellformed moved (inverse order) back_numbering moved_wellformed).named a b i in
      Memᴰ.cast
      (ap₂ (λ (x y : ℕ). (x, y)) (sym (place_back n order o a (omega (arith, h.0, back_length))))
      (sym (place_back n order o b (omega (arith, h.1, back_length)))))
      (first.pairs_from (get_or (inverse order) a 0) (get_or (inverse order) b 0) (second.pairs_from a b i)))
      (λ (a, b) i.
      let h = w.named a b i in
      Memᴰ.cast
      (ap₂ (λ (x y : ℕ). (x, y)) (sym (index_back n order o a h.0)) (sym (index_back n order o b h.1)))
      (second.pairs_to (index_in order a) (index_in order b) (first.pairs_to a b i)))

  pub ordered_back : ordered (ordered p order) (inverse order) ≡ p
  ordered_back = program_same (ordered_atoms moved (inverse order) ∙ ordered_atoms p order) back_rules back_pairs

-- filing, and the way back
pub filed_typed : (p : Program) → Wellformed p → Sorted pair_key p.pairs → typed (filed p) (filed_order p.rules) ≡ p
unfolding filed typed
filed_typed p w sorted = ordered_back p (filed_order p.rules) (filed_numbering p w) w sorted

-- ---- the way back, and filing

module _ (p : Program) (numbers : List ℕ) (o : Numbering (length p.rules) numbers) (w : Wellformed p) where
  order_back : Numbering (length p.rules) (inverse numbers)
  order_back = inverse_numbering (length p.rules) numbers o

  renumbered : Renumbered p (ordered p (inverse numbers)) (index_in (inverse numbers)) (λ j. get_or (inverse numbers) j 0)
  renumbered = ordered_renumbered p (inverse numbers) order_back w

  place : (i : ℕ) → i < length p.rules → index_in (inverse numbers) i ≡ get_or numbers i 0
  place = inverse_index (length p.rules) numbers o

  -- "with its rules in old order"
  pub typed_rules : (i : ℕ) → i < length p.rules → rule_at (typed p numbers).rules (get_or numbers i 0) ≡ rule_at p.rules i
  unfolding typed
  typed_rules i h =
      ap (rule_at (ordered p (inverse numbers)).rules) (sym (place i h)) ∙ renumbered.rule_same i h

  pub typed_pairs : (i j : ℕ) → i < length p.rules → j < length p.rules
      → Memᴰ (i, j) p.pairs ↔ Memᴰ (get_or numbers i 0, get_or numbers j 0) (typed p numbers).pairs
  unfolding typed
  typed_pairs i j h k = (
    λ m. Memᴰ.cast (ap₂ (λ (x y : ℕ). (x, y)) (sym (place i h)) (sym (place j k))) (renumbered.pairs_to i j m),
    λ m.
        Memᴰ.cast (ap₂ (λ (x y : ℕ). (x, y)) (sym (back i h)) (sym (back j k)))
        (renumbered.pairs_from (get_or numbers i 0) (get_or numbers j 0) m),
  )
    where
      back : (i : ℕ) → i < length p.rules → get_or (inverse numbers) (get_or numbers i 0) 0 ≡ i
      back i h =
          ap (λ (x : ℕ). get_or (inverse numbers) x 0) (sym (place i h)) ∙ renumbered.from_to i h

  pub typed_pairs_sorted : Sorted pair_key (typed p numbers).pairs
  unfolding typed
  typed_pairs_sorted = ordered_pairs_sorted p (inverse numbers) order_back w

  module _ (sorted : Sorted pair_key p.pairs) where
    typed_back : ordered (typed p numbers) numbers ≡ p
    unfolding typed
    typed_back =
        ap (ordered (ordered p (inverse numbers))) (sym (inverse_twice (length p.rules) numbers o))
        ∙ ordered_back p (inverse numbers) order_back w sorted

    typed_wellformed : Wellformed (typed p numbers)
    unfolding typed
    typed_wellformed = ordered_wellformed p (inverse numbers) order_back w

    typed_length : length (typed p numbers).rules ≡ length p.rules
    unfolding typed
    typed_length = ordered_length p (inverse numbers) order_back w ∙ inverse_length (length p.rules) numbers o

    -- of a program whose rules ascend
    module _ (ascend : Sorted rule_key p.rules) where
      numbers_sorted : Sorted (λ i. rule_key (rule_at (typed p numbers).rules i)) numbers
      numbers_sorted =
          map_sorted rule_key (rule_at (typed p numbers).rules) numbers
          (subst (Sorted rule_key) (sym (ap (λ (r : Program). r.rules) typed_back) ∙ ordered_rules (typed p numbers) numbers) ascend)

      pub typed_order : filed_order (typed p numbers).rules ≡ numbers
      typed_order =
          let u = filed_numbering (typed p numbers) typed_wellformed in
          let v : Numbering (length (typed p numbers).rules) numbers
          = subst (λ (k : ℕ). Numbering k numbers) (sym typed_length) o in
          sorted_same (λ i. rule_key (rule_at (typed p numbers).rules i)) (filed_order (typed p numbers).rules) numbers
          (filed_order_sorted (typed p numbers) typed_wellformed) numbers_sorted
          (numbering_within (length (typed p numbers).rules) (filed_order (typed p numbers).rules) numbers u v)
          (numbering_within (length (typed p numbers).rules) numbers (filed_order (typed p numbers).rules) v u)

      pub typed_filed : filed (typed p numbers) ≡ p
      unfolding filed
      typed_filed = ap (ordered (typed p numbers)) typed_order ∙ typed_back

-- ---- a program that is in order

module _ (p : Program) (w : Wellformed p) (sorted : Sorted pair_key p.pairs) (ascend : Sorted rule_key p.rules) where
  abbrev all_numbers : List ℕ
  all_numbers = upto 0 (length p.rules)

  all_of_them : Numbering (length p.rules) all_numbers
  all_of_them = upto_numbering (length p.rules)

  in_turn : map (rule_at p.rules) all_numbers ≡ p.rules
  in_turn =
      ext_get_or (fact 0) (map (rule_at p.rules) all_numbers) p.rules as_many (λ i h.
      let k : i < length p.rules = omega (arith, as_many) in
      get_d_map 0 (rule_at p.rules) all_numbers i (fact 0) (omega (arith, upto_length 0 (length p.rules)))
      ∙ ap (rule_at p.rules) (upto_at 0 (length p.rules) i k ∙ omega arith))
    where
      as_many : length (map (rule_at p.rules) all_numbers) ≡ length p.rules
      as_many = length-map all_numbers (rule_at p.rules) ∙ upto_length 0 (length p.rules)

  order_itself : filed_order p.rules ≡ all_numbers
  order_itself =
      sorted_same (λ i. rule_key (rule_at p.rules i)) (filed_order p.rules) all_numbers (filed_order_sorted p w)
      (map_sorted rule_key (rule_at p.rules) all_numbers (subst (Sorted rule_key) (sym in_turn) ascend))
      (numbering_within (length p.rules) (filed_order p.rules) all_numbers (filed_numbering p w) all_of_them)
      (numbering_within (length p.rules) all_numbers (filed_order p.rules) all_of_them (filed_numbering p w))

  -- filing changes nothing
  pub filed_itself : filed p ≡ p
  unfolding filed
  filed_itself = ap (ordered p) order_itself ∙ program_same (ordered_atoms p all_numbers) (ordered_rules p all_numbers ∙ in_turn) pairs_kept
    where
      moved : Renumbered p (ordered p all_numbers) (index_in all_numbers) (λ j. get_or all_numbers j 0)
      moved = ordered_renumbered p all_numbers all_of_them w

      itself : (i : ℕ) → i < length p.rules → get_or all_numbers i 0 ≡ i
      itself i h = upto_at 0 (length p.rules) i h ∙ omega arith

      index_itself : (i : ℕ) → i < length p.rules → index_in all_numbers i ≡ i
      index_itself i h = sym (itself (index_in all_numbers i) (omega (arith, moved.to_there i h, ordered_length p all_numbers all_of_them w, upto_length 0 (length p.rules)))) ∙ moved.from_to i h

      pairs_kept : (ordered p all_numbers).pairs ≡ p.pairs
      pairs_kept =
          sorted_same pair_key (ordered p all_numbers).pairs p.pairs (ordered_pairs_sorted p all_numbers all_of_them w) sorted
          (λ (a, b) i.
          let h = (ordered_wellformed p all_numbers all_of_them w).named a b i in
          let l = ordered_length p all_numbers all_of_them w ∙ upto_length 0 (length p.rules) in
          Memᴰ.cast (ap₂ (λ (x y : ℕ). (x, y)) (sym (itself a (omega (arith, h.0, l)))) (sym (itself b (omega (arith, h.1, l)))))
          (moved.pairs_from a b i))
          (λ (a, b) i.
          let h = w.named a b i in
          Memᴰ.cast (ap₂ (λ (x y : ℕ). (x, y)) (sym (index_itself a h.0)) (sym (index_itself b h.1))) (moved.pairs_to a b i))
