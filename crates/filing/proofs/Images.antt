-- A program in another order can be held by an image as well, and by one as long.
use mathlib.Core.Path.{◌≡◌, refl, sym, ap, ap₂, ◌∙◌, subst}
use mathlib.Core.List.{List, [], ◌∷◌, ◌++◌, map, Memᴰ, Permᴰ}
use Prim.Native.Nat.{ℕ, ◌+◌, ◌*◌}
use native.Mathlib.Omega.{arith}
use lib.ListN.{length, get_or, length-append, length-map}
use Rattle.lists.specs.Lists.{keep, filter, index_in}
use Rattle.lists.proofs.Permutations.{fold, fold_perm, same_perm, perm_length, filter_perm}
use Rattle.lists.proofs.Sorting.{sort_perm, sorted_distinct}
use Rattle.program.specs.Program.{Kind, strict, defeasible, Rule, Program, is_defeasible, next_bit, defeasibles, defeasibles_from}
use Rattle.program.specs.Limits.{DefeasibleAt, PairOf}
use Rattle.layout.specs.Causes as images
use Rattle.layout.specs.Causes.{part_verdict}
use Rattle.renaming.specs.Programs.{Renumbered}
use Rattle.renaming.proofs.Masks.{renumbered_sym, rules_to, defeasible_to}
use Rattle.writing.specs.Image.{rule_bytes, pair_bytes, parts_of, together, image_of, pair_key}
use Rattle.writing.specs.Inside.Writable.{Writable}
use Rattle.writing.proofs.Accepting.{pair_bytes_length}
use Rattle.writing.proofs.Reading.{image_length}
use Rattle.filing.specs.Filed.{ordered}
use Rattle.filing.specs.Inside.Wellformed.{Wellformed}
use Rattle.lists.specs.Inside.Numbering.{Numbering}
use Rattle.filing.proofs.Orders.{ordered_atoms, ordered_renumbered, ordered_pairs_sorted, ordered_wellformed, moved_pair}

-- ---- what does not depend on the order of the rules

count_defeasible : (n : ℕ) (l : List Rule) → defeasibles_from n l ≡ n + length (filter (λ r. is_defeasible r.kind) l)
unfolding defeasibles_from
count_defeasible n [] = omega arith
count_defeasible n (r ∷ l) = count_defeasible (next_bit r.kind n) l ∙ go r.kind
  where
    go : (k : Kind) → next_bit k n + length (filter (λ q. is_defeasible q.kind) l) ≡ n + length (keep (is_defeasible k) r (filter (λ q. is_defeasible q.kind) l))
    go strict = refl
    go defeasible = omega arith

pub defeasibles_perm : {l m : List Rule} → Permᴰ l m → defeasibles l ≡ defeasibles m
defeasibles_perm {l} {m} p =
    count_defeasible 0 l ∙ ap (λ (n : ℕ). 0 + n) (perm_length (filter_perm (λ r. is_defeasible r.kind) p)) ∙ sym (count_defeasible 0 m)

-- the bytes of the parts, added up
together_fold : (l : List Rule) (last : List ℕ)
    → length (together (map rule_bytes l ++ (last ∷ []))) ≡ fold (λ r n. length (rule_bytes r) + n) (length last) l
together_fold [] last = omega (arith, length-append last [])
together_fold (r ∷ l) last =
    length-append (rule_bytes r) (together (map rule_bytes l ++ (last ∷ []))) ∙ ap (λ (n : ℕ). length (rule_bytes r) + n) (together_fold l last)

pub writable_wellformed : (p : Program) → Writable p → Wellformed p
writable_wellformed p w = record {
  rules_once = w.rules_once;
  pairs_once = sorted_distinct pair_key p.pairs w.pairs_sorted;
  named = λ a b i. ((w.pairs_name a b i).first.there, (w.pairs_name a b i).second.there);
}

module _ (p : Program) (order : List ℕ) (o : Numbering (length p.rules) order) (w : Writable p) where
  wellformed : Wellformed p
  wellformed = writable_wellformed p w

  renumbered : Renumbered p (ordered p order) (index_in order) (λ j. get_or order j 0)
  renumbered = ordered_renumbered p order o wellformed

  pub rules_perm : Permᴰ (ordered p order).rules p.rules
  rules_perm =
      same_perm (ordered p order).rules p.rules (ordered_wellformed p order o wellformed).rules_once w.rules_once
      (rules_to (renumbered_sym renumbered)) (rules_to renumbered)

  pub pairs_count : length (ordered p order).pairs ≡ length p.pairs
  unfolding ordered
  pairs_count =
      let moved : ℕ × ℕ → ℕ × ℕ = λ q. (index_in order q.0, index_in order q.1) in
      perm_length (sort_perm pair_key (map moved p.pairs)) ∙ length-map p.pairs moved

  pub ordered_writable : Writable (ordered p order)
  ordered_writable = record {
    few_atoms = let f = w.few_atoms in omega (arith, ordered_atoms p order);
    few_rules = let f = w.few_rules in omega (arith, perm_length rules_perm);
    few_pairs = let f = w.few_pairs in omega (arith, pairs_count);
    few_defeasible = let f = w.few_defeasible in omega (arith, defeasibles_perm rules_perm);
    rule_fits = λ r i.
        subst (λ (a : ℕ). part_verdict (rule_bytes r) a 0 0 ≡ images.accepted) (sym (ordered_atoms p order))
        (w.rule_fits r (rules_to (renumbered_sym renumbered) r i));
    rules_once = (ordered_wellformed p order o wellformed).rules_once;
    pairs_name = named;
    pairs_sorted = ordered_pairs_sorted p order o wellformed;
  }
    where
      named : (c d : ℕ) → Memᴰ (c, d) (ordered p order).pairs → PairOf (ordered p order).rules c d
      named c d i =
          let m = moved_pair p order o wellformed c d i in
          let n = w.pairs_name m.0 m.1 m.2 in
          record {
            first = subst (DefeasibleAt (ordered p order).rules) (sym m.3) (defeasible_to renumbered n.first);
            second = subst (DefeasibleAt (ordered p order).rules) (sym m.4) (defeasible_to renumbered n.second);
            distinct = λ e.
                n.distinct
                (sym (renumbered.from_to m.0 n.first.there)
                ∙ ap (λ (j : ℕ). get_or order j 0) (sym m.3 ∙ e ∙ m.4)
                ∙ renumbered.from_to m.1 n.second.there);
          }

  -- "as long"
  pub ordered_image_length : length (image_of (ordered p order)) ≡ length (image_of p)
  ordered_image_length =
      image_length (ordered p order)
      ∙ ap₂ (λ (r b : ℕ). 12 + 4 * r + b) (perm_length rules_perm) parts
      ∙ sym (image_length p)
    where
      last : length (pair_bytes (ordered p order).pairs) ≡ length (pair_bytes p.pairs)
      last = pair_bytes_length (ordered p order).pairs ∙ ap (λ (n : ℕ). 2 * n) pairs_count ∙ sym (pair_bytes_length p.pairs)

      swap : (x y : Rule) (n : ℕ) → length (rule_bytes x) + (length (rule_bytes y) + n) ≡ length (rule_bytes y) + (length (rule_bytes x) + n)
      swap x y n = omega arith

      parts : length (together (parts_of (ordered p order))) ≡ length (together (parts_of p))
      parts =
          together_fold (ordered p order).rules (pair_bytes (ordered p order).pairs)
          ∙ fold_perm (λ r n. length (rule_bytes r) + n) (length (pair_bytes (ordered p order).pairs)) swap rules_perm
          ∙ ap (λ (n : ℕ). fold (λ r m. length (rule_bytes r) + m) n p.rules) last
          ∙ sym (together_fold p.rules (pair_bytes p.pairs))
