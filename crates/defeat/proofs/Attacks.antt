-- Which sub-arguments a listed argument attacks, as the table of rows and the exclusion table tell it, and the kind that
-- follows.
use mathlib.Core.Path.{◌≡◌, sym, ap, ◌∙◌, subst}
use mathlib.Core.Bool.{Bool, true, false, ◌&&◌, false≢true}
use mathlib.Core.List.{List, ◌∷◌, Memᴰ}
use mathlib.Core.Logic.{⊎_elim}
use Prim.Native.Nat.{ℕ, ◌+◌, ◌^◌, ◌<◌, ◌≤◌}
use native.Mathlib.Numerals.{add-one}
use native.Mathlib.Decide.{dec_lt}
use native.Mathlib.Omega.{arith}
use lib.Dec.{T, lit<}
use lib.ListN.{length, get_or, drop}
use lib.Seq.{drop-cons}
use Rattle.lists.specs.Lists.{any, Ascending}
use Rattle.lists.proofs.Lists.{T_true, any_intro, any_found}
use Rattle.lists.proofs.Orders.{ascending_rest}
use Rattle.lists.proofs.Places.{there}
use Rattle.literals.specs.Sets.{has, within, meets}
use Rattle.literals.proofs.Tests.{true_T, same_test, not_true_false, and_intro, and_left, and_right}
use Rattle.literals.proofs.Members.{has_bound, has_cases, has_empty}
use Rattle.literals.proofs.Within.{within_each, each_within, within_le, meets_both, both_meets}
use Rattle.program.specs.Program.{Rule, Program, Π_mask}
use Rattle.program.specs.Limits.{Limits, Mask}
use Rattle.derivation.specs.Closure.{contradictory, excludes}
use Rattle.derivation.proofs.Contradictions.{excludes_sym, excludes_derived}
use Rattle.derivation.proofs.Closures.{closure_below}
use Rattle.derivation.proofs.Choices.{Π_with_mono, Π_with_rules}
use Rattle.derivation.proofs.Tables.{limits_heads}
use Rattle.argument.specs.Argument.{Subset, Argument, SubArgument, mask_of, literal_of}
use Rattle.argument.specs.List.{argument_list}
use Rattle.argument.specs.Inside.MaskClosure.{mask_closure}
use Rattle.argument.proofs.Minimal.{argument_derives, argument_coherent, argument_mask_below}
use Rattle.argument.proofs.SubArguments.{argument_derived, sub_argument_literal, literal_sub_argument}
use Rattle.argument.proofs.Lists.{list_sound, list_complete, list_ascending}
use Rattle.defeat.specs.Tests.{kind}
use Rattle.defeat.specs.OfProgram.{tests_of}
use Rattle.defeat.specs.Inside.Exclusions.{Ready}
use Rattle.excluded.specs.Inside.Exclusions.{excluded_by}
use Rattle.defeat.specs.Inside.Steps.{AttacksBy, attacked_by, kind_among}
use Rattle.defeat.proofs.Weighing.{any_same, any_none, among_none, among_same, kind_among_lem}

-- ---- arguments that do not exclude each other

-- an argument and one of those within its mask
pub sub_apart : (rules : List Rule) (n m a b : ℕ) → Subset n m → Argument rules n a → Argument rules m b
    → excludes rules a b ≡ false
sub_apart rules n m a b w aa ab = not_true_false (excludes rules a b) (λ e.
    false≢true
    (sym (argument_coherent rules m b ab)
    ∙ excludes_derived rules (Π_mask m rules) (Π_with_mono rules (λ _. false) (has m) (λ k q. absurd (false≢true q))) a b
    (argument_derived rules n m a w aa) (argument_derives rules m b ab) e))

empty_subset : (n m : ℕ) → n ≡ 0 → Subset n m
empty_subset n m e b h = absurd (false≢true (sym (has_empty b) ∙ ap (λ (k : ℕ). has k b) (sym e) ∙ h))

-- ---- within the limits

module _ (p : Program) (limits : Limits p) where
  listed_argument : (x : ℕ) → Memᴰ x (argument_list p.rules) → Argument p.rules (mask_of x) (literal_of x)
  listed_argument = list_sound p.rules (limits_heads limits)

  pub listed_mask_lem : (x : ℕ) → Memᴰ x (argument_list p.rules) → Mask p (mask_of x)
  listed_mask_lem x i = argument_mask_below p.rules (mask_of x) (literal_of x) (listed_argument x i)

  -- an argument with an empty mask attacks nothing
  pub strict_apart : (x z : ℕ) → x < 128 → Memᴰ x (argument_list p.rules) → Memᴰ z (argument_list p.rules)
      → excludes p.rules (literal_of x) (literal_of z) ≡ false
  strict_apart x z l i j =
      sub_apart p.rules (mask_of x) (mask_of z) (literal_of x) (literal_of z)
      (empty_subset (mask_of x) (mask_of z) (omega arith)) (listed_argument x i) (listed_argument z j)

  -- The literals of y's sub-arguments are those that its mask derives: a set meets these exactly if it has the literal of
  -- a listed sub-argument.
  pub sub_meets : (s y : ℕ) → Memᴰ y (argument_list p.rules)
      → meets s (mask_closure p.rules (mask_of y)) ≡ any (attacked_by s (mask_of y)) (argument_list p.rules)
  sub_meets s y i =
      same_test (meets s derived) (any (attacked_by s (mask_of y)) list) (λ h. to (meets_both s derived h))
      (λ h. from (any_found (attacked_by s (mask_of y)) list (true_T (any (attacked_by s (mask_of y)) list) h)))
    where
      list : List ℕ
      list = argument_list p.rules

      derived : ℕ
      derived = mask_closure p.rules (mask_of y)

      coherent : contradictory (Π_mask (mask_of y) p.rules) ≡ false
      coherent = argument_coherent p.rules (mask_of y) (literal_of y) (listed_argument y i)

      to : (k : ℕ) × (has s k ≡ true) × (has derived k ≡ true) → any (attacked_by s (mask_of y)) list ≡ true
      to (k, a, b) = go (literal_sub_argument p.rules y (limits_heads limits) coherent k b)
        where
          go : (z : ℕ) × SubArgument p.rules z y × (literal_of z ≡ k) → any (attacked_by s (mask_of y)) list ≡ true
          go (z, w, e) =
              T_true (any (attacked_by s (mask_of y)) list)
              (any_intro (attacked_by s (mask_of y)) list (list_complete p.rules (limits_heads limits) z w.argument)
              (true_T (attacked_by s (mask_of y) z)
              (and_intro (within (mask_of z) (mask_of y)) (has s (literal_of z)) (each_within (mask_of z) (mask_of y) w.part)
              (ap (has s) e ∙ a))))

      from : (z : ℕ) × Memᴰ z list × T (attacked_by s (mask_of y) z) → meets s derived ≡ true
      from (z, j, t) =
          let h = T_true (attacked_by s (mask_of y) z) t in
          let part = within_each (mask_of z) (mask_of y) (and_left (within (mask_of z) (mask_of y)) (has s (literal_of z)) h) in
          both_meets s derived (literal_of z) (and_right (within (mask_of z) (mask_of y)) (has s (literal_of z)) h)
          (sub_argument_literal p.rules y z (record { argument = listed_argument z j; part = part }))

-- ---- by the two tables

module _ {p : Program} {u : ℕ} {table rows exclusions arguments : List ℕ}
    (ready : Ready p u table rows exclusions arguments) (x y : ℕ)
    (lx : Memᴰ x (argument_list p.rules)) (ly : Memᴰ y (argument_list p.rules)) where
  abbrev list : List ℕ
  list = argument_list p.rules

  -- z is a sub-argument of y, and x attacks it
  abbrev attacks : ℕ → Bool
  attacks z = within (mask_of z) (mask_of y) && excludes p.rules (literal_of x) (literal_of z)

  -- the row of x's literal says which listed arguments x excludes
  pub row_excludes : 128 ≤ x → (z : ℕ) → Memᴰ z (argument_list p.rules)
      → has (excluded_by exclusions (literal_of x)) (literal_of z) ≡ excludes p.rules (literal_of x) (literal_of z)
  row_excludes h z lz = ⊎_elim inside outside (has_cases u (literal_of z))
    where
      this : has u (literal_of x) ≡ true
      this = ready.conclusions x lx h

      row : ℕ
      row = excluded_by exclusions (literal_of x)

      inside : has u (literal_of z) ≡ true → has row (literal_of z) ≡ excludes p.rules (literal_of x) (literal_of z)
      inside = ready.excluded.exact (literal_of x) (literal_of z) this

      outside : has u (literal_of z) ≡ false → has row (literal_of z) ≡ excludes p.rules (literal_of x) (literal_of z)
      outside e =
          not_true_false (has row (literal_of z)) (λ q.
          false≢true (sym e ∙ ready.excluded.only (literal_of x) (literal_of z) this q))
          ∙ sym (excludes_sym p.rules (literal_of x) (literal_of z)
          ∙ strict_apart p ready.limits z x (strict (dec_lt z 128)) lz lx)
        where
          strict : Dec (z < 128) → z < 128
          strict (yes l) = l
          strict (no n) = absurd (false≢true (sym e ∙ ready.conclusions z lz (omega arith)))

  pub attacked_same : 128 ≤ x → (z : ℕ) → Memᴰ z (argument_list p.rules)
      → attacked_by (excluded_by exclusions (literal_of x)) (mask_of y) z ≡ attacks z
  attacked_same h z lz = ap (λ (t : Bool). within (mask_of z) (mask_of y) && t) (row_excludes h z lz)

  -- the early test: where it fails, x attacks no sub-argument of y
  pub none_attacked : 128 ≤ x → AttacksBy exclusions rows x y false → any attacks list ≡ false
  none_attacked h by = not_true_false (any attacks list) (λ e.
      found
      (meets_both row derived
      (sub_meets p ready.limits row y ly ∙ any_same (attacked_by row (mask_of y)) attacks list (attacked_same h) ∙ e)))
    where
      row : ℕ
      row = excluded_by exclusions (literal_of x)

      derived : ℕ
      derived = mask_closure p.rules (mask_of y)

      -- what the mask derives is a literal
      below : derived < 2 ^ 128
      below =
          closure_below (Π_mask (mask_of y) p.rules) 128 0
          (λ r d. limits_heads ready.limits r (Π_with_rules p.rules (has (mask_of y)) r d)) (lit< tt)

      found : (k : ℕ) × (has row k ≡ true) × (has derived k ≡ true) → ⊥
      found (k, a, b) =
          false≢true (by.passes k a (ready.told.derived k (mask_of y) (has_bound derived 128 k below b) ∙ b))

  -- ---- the kind

  module _ (preferred : ℕ → ℕ → Bool) where
    abbrev over : ℕ → Bool
    over z = preferred (mask_of x) (mask_of z)

    abbrev under : ℕ → Bool
    under z = preferred (mask_of z) (mask_of x)

    among : kind (tests_of p preferred) x y ≡ kind_among attacks over under list
    unfolding tests_of
    among = kind_among_lem (tests_of p preferred) x y

    pub kind_strict : x < 128 → kind (tests_of p preferred) x y ≡ 0
    kind_strict l =
        among ∙ among_none attacks over under list (any_none attacks list (λ z lz.
        not_true_false (attacks z) (λ q.
        false≢true
        (sym (strict_apart p ready.limits x z l lx lz)
        ∙ and_right (within (mask_of z) (mask_of y)) (excludes p.rules (literal_of x) (literal_of z)) q))))

    -- where by the tables it does not attack, x is no defeater: with an empty mask it is none, whatever stands in the row
    pub kind_apart : AttacksBy exclusions rows x y false
        → kind (tests_of p preferred) x y ≡ 0
    kind_apart e = go (dec_lt x 128)
      where
        go : Dec (x < 128) → kind (tests_of p preferred) x y ≡ 0
        go (yes l) = kind_strict l
        go (no n) = among ∙ among_none attacks over under list (none_attacked (omega arith) e)

    pub kind_weighed : 128 ≤ x
        → kind_among (attacked_by (excluded_by exclusions (literal_of x)) (mask_of y)) over under list
        ≡ kind (tests_of p preferred) x y
    kind_weighed h =
        among_same (attacked_by (excluded_by exclusions (literal_of x)) (mask_of y)) attacks over under list (attacked_same h)
        ∙ sym among

-- ---- the list from an index on

-- the entry at i of a table that begins with the list
module _ (rules : List Rule) (l : List ℕ) (i : ℕ) (listed : l ≡ argument_list rules) (inside : i < length l) where
  pub entry_listed : Memᴰ (get_or l i 0) (argument_list rules)
  entry_listed = subst (λ (k : List ℕ). Memᴰ (get_or l i 0) k) listed (there 0 l i inside)

  pub entry_first : drop i (argument_list rules) ≡ get_or l i 0 ∷ drop (i + 1) (argument_list rules)
  entry_first =
      subst (λ (k : List ℕ). drop i k ≡ get_or l i 0 ∷ drop (i + 1) k) listed
      (drop-cons l i 0 inside ∙ ap (λ (k : ℕ). get_or l i 0 ∷ drop k l) (sym (add-one i)))

  -- past the masks up to m none is within m
  pub entry_past : (s m : ℕ) → m < mask_of (get_or l i 0) → (z : ℕ) → Memᴰ z (drop i (argument_list rules))
      → attacked_by s m z ≡ false
  entry_past s m h z j = not_true_false (attacked_by s m z) (λ q.
      let low =
      ascending_rest l i z (subst Ascending (sym listed) (list_ascending rules)) inside
      (subst (λ (k : List ℕ). Memᴰ z (drop i k)) (sym listed) j) in
      let part = within_le (mask_of z) m (and_left (within (mask_of z) m) (has s (literal_of z)) q) in
      omega arith)
