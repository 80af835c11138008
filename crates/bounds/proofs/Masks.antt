-- The computed masks are the different non-empty ones, and the number of them is settled.
use mathlib.Core.Path.{◌≡◌, refl, sym, ap, ◌∙◌, subst}
use mathlib.Core.Bool.{Bool, true, false}
use mathlib.Core.List.Memᴰ
use mathlib.Core.List.{List, [], ◌∷◌, map, Memᴰ}
use mathlib.Core.Logic.{◌⊎◌, inl, inr, ◌↔◌}
use Prim.Native.Nat.{ℕ, zero, suc, ◌-◌, ◌^◌, ◌≤◌, ◌<◌}
use native.Mathlib.Omega.{arith}
use lib.ListN.{length}
use lib.Dec.{T, not_T, T_not}
use Rattle.lists.specs.Decides.{Decides}
use Rattle.lists.specs.Lists.{Distinct, Within, keep, filter, member, upto}
use Rattle.lists.proofs.Decides.{decides_not}
use Rattle.lists.proofs.Lists.{T_known, keep_head, keep_tail, keep_cases, filter_intro, filter_found, map_intro, map_found}
use Rattle.lists.proofs.Lists.{member_intro, member_found, upto_intro, upto_length}
use Rattle.lists.proofs.Permutations.{distinct_length}
use Rattle.program.specs.Program.{Rule, defeasibles}
use Rattle.derivation.specs.Derivation.{HeadsBelow}
use Rattle.argument.specs.Argument.{mask_of, literal_of}
use Rattle.argument.specs.List.{argument_list}
use Rattle.argument.proofs.Minimal.{argument_mask_below}
use Rattle.argument.proofs.Lists.{list_published}
use Rattle.tree.proofs.Published.{number_renders}
use Rattle.bounds.specs.Masks.{DifferentMasks, or_one, LineLimit, is_new, once, non_empty, masks_in, line_limit}

-- ---- each number once

new_renders : (n : ℕ) (l : List ℕ) → Decides (is_new n l) (¬ Memᴰ n l)
new_renders n l = record {
  says = λ h i. T_not (member n l) h (member_intro l i);
  passes = λ f. not_T (member n l) (λ h. f (member_found l h));
}

once_within : (l : List ℕ) → Within (once l) l
unfolding once
once_within [] x i = i
once_within (n ∷ l) x i = go (once_within l x) (keep_cases (is_new n l) n x (once l) i)
  where
    go : (Memᴰ x (once l) → Memᴰ x l) → ((x ≡ n) × T (is_new n l)) ⊎ Memᴰ x (once l) → Memᴰ x (n ∷ l)
    go rest (inl k) = Memᴰ.head k.0
    go rest (inr j) = Memᴰ.tail (rest j)

once_has : (l : List ℕ) → Within l (once l)
unfolding once
once_has [] x none = elim none [ ]
once_has (n ∷ l) x (Memᴰ.tail i) = keep_tail (is_new n l) n (once_has l x i)
once_has (n ∷ l) x (Memᴰ.head e) = Memᴰ.cast e (go (once_has l n) (T_known (member n l)))
  where
    go : (Memᴰ n l → Memᴰ n (once l)) → T (member n l) ⊎ (T (member n l) → ⊥) → Memᴰ n (keep (is_new n l) n (once l))
    go rest (inl h) = keep_tail (is_new n l) n (rest (member_found l h))
    go rest (inr f) = keep_head (is_new n l) n (once l) ((new_renders n l).passes (λ i. f (member_intro l i)))

once_distinct : (l : List ℕ) → Distinct (once l)
unfolding once
once_distinct [] = tt
once_distinct (n ∷ l) = go (is_new n l) (λ h i. (new_renders n l).says h (once_within l n i)) (once_distinct l)
  where
    go : (b : Bool) → (T b → ¬ Memᴰ n (once l)) → Distinct (once l) → Distinct (keep b n (once l))
    go true f d = (f tt, d)
    go false f d = d

-- ---- the masks

empty_renders : (m : ℕ) → Decides (non_empty m) (¬ (m ≡ 0))
empty_renders m = decides_not (number_renders m 0)

pub masks_different : (list : List ℕ) → DifferentMasks list (masks_in list)
unfolding masks_in
masks_different list = record {
  different = once_distinct (filter non_empty (map mask_of list));
  each = λ m k.
      once_has (filter non_empty (map mask_of list)) m
      (filter_intro non_empty (map mask_of list)
      (Memᴰ.cast (sym k.mask_is) (map_intro mask_of list k.listed)) ((empty_renders m).passes k.not_empty));
  no_other = λ m i.
      let f = filter_found non_empty (map mask_of list) (once_within (filter non_empty (map mask_of list)) m i) in
      let (x, j, e) = map_found mask_of list f.0 in
      record { not_empty = (empty_renders m).says f.1; argument = x; listed = j; mask_is = sym e };
}

-- two lists of them are as long
masks_count : (list ms ns : List ℕ) → DifferentMasks list ms → DifferentMasks list ns → length ms ≤ length ns
masks_count list ms ns a b = distinct_length ms ns a.different (λ m i. b.each m (a.no_other m i))

-- ---- the limit

module _ (rules : List Rule) where
  pub limit_settled : HeadsBelow 128 rules → (most : ℕ) → LineLimit rules most ↔ (most ≡ line_limit rules)
  unfolding line_limit
  limit_settled heads most = (
    λ k.
        let same = (list_published rules heads k.list).0 k.is_list in
        let a : DifferentMasks (argument_list rules) k.masks = subst (λ (l : List ℕ). DifferentMasks l k.masks) same k.are_masks in
        let b = masks_different (argument_list rules) in
        let m = masks_count (argument_list rules) k.masks (masks_in (argument_list rules)) a b in
        let n = masks_count (argument_list rules) (masks_in (argument_list rules)) k.masks b a in
        let e : length k.masks ≡ length (masks_in (argument_list rules)) = omega arith in
        k.limit_is ∙ ap or_one e,
    λ e. record {
      list = argument_list rules;
      is_list = (list_published rules heads (argument_list rules)).1 refl;
      masks = masks_in (argument_list rules);
      are_masks = masks_different (argument_list rules);
      limit_is = e;
    },
  )

  -- a limit is at least one, and at least the number of masks
  pub limit_least : {most : ℕ} (k : LineLimit rules most) → (1 ≤ most) × (length k.masks ≤ most)
  limit_least k = go (length k.masks) k.limit_is
    where
      go : {most : ℕ} (n : ℕ) → most ≡ or_one n → (1 ≤ most) × (n ≤ most)
      go zero e = (omega arith, omega arith)
      go (suc n) e = (omega arith, omega arith)

  or_one_more : (m n : ℕ) → m ≤ n → or_one m ≤ or_one n
  or_one_more zero zero h = omega arith
  or_one_more zero (suc n) h = omega arith
  or_one_more (suc m) zero h = absurd (omega arith)
  or_one_more (suc m) (suc n) h = h

  above_zero : (m : ℕ) → ¬ (m ≡ 0) → 0 < m
  above_zero zero f = absurd (f refl)
  above_zero (suc m) f = omega arith

  -- the masks of arguments are below 2 ^ the number of defeasible rules
  pub limit_rules : (most : ℕ) → LineLimit rules most → most ≤ or_one (2 ^ defeasibles rules - 1)
  limit_rules most k =
      let count : length k.masks ≤ length (upto 1 (2 ^ defeasibles rules - 1)) =
      distinct_length k.masks (upto 1 (2 ^ defeasibles rules - 1)) k.are_masks.different (λ m i.
      let a = k.are_masks.no_other m i in
      let b : mask_of a.argument < 2 ^ defeasibles rules =
      argument_mask_below rules (mask_of a.argument) (literal_of a.argument) (k.is_list.each_is_one a.argument a.listed) in
      upto_intro 1 (2 ^ defeasibles rules - 1) m (above_zero m a.not_empty) (omega (arith, a.mask_is, above_zero m a.not_empty))) in
      subst (λ (x : ℕ). x ≤ or_one (2 ^ defeasibles rules - 1)) (sym k.limit_is)
      (or_one_more (length k.masks) (2 ^ defeasibles rules - 1) (omega (arith, upto_length 1 (2 ^ defeasibles rules - 1))))
