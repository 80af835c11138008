-- The ways out of the two calls, and of what they begin with.
use mathlib.Core.Path.{◌≡◌, refl, sym, ap, ap₂, ◌∙◌, subst}
use mathlib.Core.Bool.{Bool, true, false, not, ◌||◌}
use mathlib.Core.List.{List, ◌++◌}
use Prim.Native.Nat.{ℕ, ◌+◌, ◌<◌, ◌≤◌}
use native.Mathlib.Omega.{arith}
use lib.ListN.{length, get_or, take, drop}
use lib.Seq.{sets, sets-eq, length-take-le}
use lib.Dec.{ltb}
use borrow.Author.Tests.{lt-ltb, le-ltb}
use Rattle.lists.specs.Lists.{inverse}
use Rattle.lists.specs.Sorting.{sorted}
use Rattle.lists.specs.Inside.Numbering.{Numbering}
use Rattle.lists.proofs.Numberings.{inverse_numbering}
use Rattle.calls.specs.Verdicts.{Verdict, Accepted, Refused}
use Rattle.layout.specs.Layout.{rules_of}
use Rattle.calls.specs.Verdicts.{refuse, and_then}
use Rattle.layout.specs.Reading.{program_in}
use Rattle.writing.specs.Image.{image_of}
use Rattle.calls.specs.Outcomes as outcomes
use Rattle.calls.specs.Outcomes.{by_verdict}
use Rattle.calls.specs.Calls.{check_image, front, unless_refused}
use Rattle.filing.specs.Filed.{rule_key, filed_order, ordered, filed, typed}
use Rattle.filing.specs.Calls.{filed_image, old_numbers, file_verdict, filed_by, file_table, file_numbers}
use Rattle.filing.specs.Calls.{numbers_of, typed_image, bad_numbers, unfile_verdict, unfiled_by, unfile_table}
use Rattle.filing.specs.Claims.{AcceptedImage}
use Rattle.filing.proofs.Filed.{long, numbers_long, old_numbering}
use Rattle.filing.proofs.Typed.{typed_long}
use Rattle.filing.proofs.Refusals.{file_accepted, unfile_accepted}
use Rattle.filing.proofs.Claims.{file_fills, file_numbers_lem, unfile_fills}
use Rattle.filer.proofs.Rules.{accepted_few}
use Rattle.filer.proofs.Renumberings.{placed_inverse}

-- what was written at the front of a table
front_of : (table l after : List ℕ) → length l ≤ length table → after ≡ sets table 0 l → after ≡ front l table
front_of table l after h e = e ∙ sets-eq l table 0 (omega arith) ∙ ap (λ (k : ℕ). l ++ drop k table) none
  where
    none : 0 + length l ≡ length l
    none = omega arith

-- ---- the causes that both look for

module _ (s : List ℕ) (room entries : ℕ) where
  pub admit_checked : (n p : ℕ) → check_image s ≡ Refused n p → Refused n p ≡ file_verdict s room entries
  unfolding file_verdict
  admit_checked n p e =
      sym (ap (λ (v : Verdict). and_then v (and_then (refuse (ltb room (length s)) 24 0) (refuse (ltb entries (rules_of s)) 25 0))) e)

  module _ (a : AcceptedImage s) where
    by_rooms : (x y : Bool) → ltb room (length s) ≡ x → ltb entries (rules_of s) ≡ y
        → file_verdict s room entries ≡ and_then (refuse x 24 0) (refuse y 25 0)
    unfolding file_verdict
    by_rooms x y e f = ap₂ and_then a (ap₂ (λ (u v : Bool). and_then (refuse u 24 0) (refuse v 25 0)) e f)

    pub admit_short : room < length s → Refused 24 0 ≡ file_verdict s room entries
    admit_short h = sym (by_rooms true (ltb entries (rules_of s)) (lt-ltb room (length s) h) refl)

    pub admit_few : length s ≤ room → entries < rules_of s → Refused 25 0 ≡ file_verdict s room entries
    admit_few h k = sym (by_rooms false true (le-ltb room (length s) h) (lt-ltb entries (rules_of s) k))

    pub admit_all : length s ≤ room → rules_of s ≤ entries → Accepted ≡ file_verdict s room entries
    admit_all h k = sym (by_rooms false false (le-ltb room (length s) h) (le-ltb entries (rules_of s) k))

-- an accepted image's rules are few, and the number table has an entry for each
pub rules_in : (s : List ℕ) (room entries : ℕ) → file_verdict s room entries ≡ Accepted → (n : ℕ) → n ≡ rules_of s → (n ≤ entries) × (n ≤ 96)
rules_in s room entries e n is =
    let a = file_accepted s room entries e in
    (omega (arith, a.2), omega (arith, (accepted_few s a.0).0))

-- ---- the writer

module _ (s table numbers : List ℕ) where
  pub file_turned : (n p : ℕ) → file_verdict s (length table) (length numbers) ≡ Refused n p
      → (outcomes.Refused n p ≡ filed_by s (length table) (length numbers)) × (table ≡ file_table s table (length numbers)) × (numbers ≡ file_numbers s (length table) numbers)
  unfolding filed_by file_table file_numbers
  file_turned n p e = (
    sym (ap (λ (w : Verdict). by_verdict w (length (filed_image s))) e),
    sym (ap (λ (w : Verdict). unless_refused w (front (filed_image s) table) table) e),
    sym (ap (λ (w : Verdict). unless_refused w (front (old_numbers s) numbers) numbers) e),
  )

  module _ (e : file_verdict s (length table) (length numbers) ≡ Accepted) where
    accepted : AcceptedImage s
    accepted = (file_accepted s (length table) (length numbers) e).0

    -- the numbers in their table
    pub filed_front : (n : ℕ) (order : List ℕ) → n ≡ rules_of s → order ≡ filed_order (program_in s).rules
        → order ++ drop n numbers ≡ file_numbers s (length table) numbers
    unfolding old_numbers
    filed_front n order is f =
        ap₂ (λ (l : List ℕ) (k : ℕ). l ++ drop k numbers) f (is ∙ sym (numbers_long s accepted)) ∙ sym (file_numbers_lem s table numbers e)

    pub filed_numbering : (order : List ℕ) → order ≡ filed_order (program_in s).rules → Numbering (rules_of s) order
    unfolding old_numbers
    filed_numbering order f = subst (Numbering (rules_of s)) (sym f) (old_numbering s accepted)

    pub file_done : (order after : List ℕ) → order ≡ filed_order (program_in s).rules
        → after ≡ sets table 0 (image_of (ordered (program_in s) order))
        → (outcomes.Given (length s) ≡ filed_by s (length table) (length numbers)) × (after ≡ file_table s table (length numbers))
    unfolding filed_by filed_image filed
    file_done order after f g = (
      sym (ap₂ by_verdict e (long s accepted)),
      front_of table (filed_image s) after (omega (arith, long s accepted, (file_accepted s (length table) (length numbers) e).1))
          (g ∙ ap (λ (l : List ℕ). sets table 0 (image_of (ordered (program_in s) l))) f)
          ∙ sym (file_fills s table numbers e),
    )

-- ---- the way back

module _ (s numbers table : List ℕ) where
  pub unfile_turned : (n p : ℕ) → unfile_verdict s numbers (length table) ≡ Refused n p
      → (outcomes.Refused n p ≡ unfiled_by s numbers (length table)) × (table ≡ unfile_table s numbers table)
  unfolding unfiled_by unfile_table
  unfile_turned n p e = (
    sym (ap (λ (w : Verdict). by_verdict w (length (typed_image s numbers))) e),
    sym (ap (λ (w : Verdict). unless_refused w (front (typed_image s numbers) table) table) e),
  )

  pub unfile_first : (n p : ℕ) → file_verdict s (length table) (length numbers) ≡ Refused n p → unfile_verdict s numbers (length table) ≡ Refused n p
  unfolding unfile_verdict
  unfile_first n p e =
      ap (λ (v : Verdict). and_then v (refuse (bad_numbers (rules_of s) (numbers_of s numbers) || not (sorted rule_key (program_in s).rules)) 26 0)) e

  module _ (e : file_verdict s (length table) (length numbers) ≡ Accepted) (n : ℕ) (is : n ≡ rules_of s) where
    abbrev order : List ℕ
    order = take n numbers

    -- by the two tests
    by_tests : (x y : Bool) → x ≡ not (bad_numbers (length order) order) → y ≡ sorted rule_key (program_in s).rules
        → unfile_verdict s numbers (length table) ≡ refuse (not x || not y) 26 0
    unfolding unfile_verdict
    by_tests x y f g =
        let as_many : length order ≡ n
        = length-take-le n numbers (let h = (file_accepted s (length table) (length numbers) e).2 in omega arith) in
        ap₂ and_then e
        (ap₂ (λ (u v : Bool). refuse (u || not v) 26 0)
        (ap (λ (m : ℕ). bad_numbers m (take m numbers)) (sym is) ∙ ap (λ (m : ℕ). bad_numbers m order) (sym as_many)
        ∙ double (bad_numbers (length order) order) ∙ ap not (sym f)) (sym g))
      where
        double : (b : Bool) → b ≡ not (not b)
        double true = refl
        double false = refl

    pub unfile_numbers : false ≡ not (bad_numbers (length order) order) → unfile_verdict s numbers (length table) ≡ Refused 26 0
    unfile_numbers f = by_tests false (sorted rule_key (program_in s).rules) f refl

    pub unfile_form : false ≡ sorted rule_key (program_in s).rules → unfile_verdict s numbers (length table) ≡ Refused 26 0
    unfile_form g = go (not (bad_numbers (length order) order)) refl
      where
        go : (x : Bool) → x ≡ not (bad_numbers (length order) order) → unfile_verdict s numbers (length table) ≡ Refused 26 0
        go true f = by_tests true false f g
        go false f = by_tests false false f g

    pub unfile_both : true ≡ not (bad_numbers (length order) order) → true ≡ sorted rule_key (program_in s).rules
        → unfile_verdict s numbers (length table) ≡ Accepted
    unfile_both f g = by_tests true true f g

  -- where nothing is refused, and the table of places holds those of the numbers
  module _ (e : unfile_verdict s numbers (length table) ≡ Accepted) (n : ℕ) (is : n ≡ rules_of s) (places : List ℕ) (room : n ≤ length places)
      (placed : (i : ℕ) → i < length (take n numbers) → get_or places (get_or (take n numbers) i 0) 0 ≡ i) where
    numbering : Numbering n (take n numbers)
    numbering = subst (λ (k : ℕ). Numbering k (take k numbers)) (sym is) (unfile_accepted s numbers (length table) e).3

    order_back : take n places ≡ inverse (take n numbers)
    order_back = placed_inverse n (take n numbers) numbering places room placed

    pub order_numbering : Numbering (rules_of s) (take n places)
    order_numbering =
        subst (λ (k : ℕ). Numbering k (take n places)) is
        (subst (Numbering n) (sym order_back) (inverse_numbering n (take n numbers) numbering))

    pub unfile_done : (after : List ℕ) → after ≡ sets table 0 (image_of (ordered (program_in s) (take n places)))
        → (outcomes.Given (length s) ≡ unfiled_by s numbers (length table)) × (after ≡ unfile_table s numbers table)
    unfolding unfiled_by typed_image typed
    unfile_done after g =
        let r = unfile_accepted s numbers (length table) e in
        let l = typed_long s numbers r.0 r.3 in (
          sym (ap₂ by_verdict e l),
          front_of table (typed_image s numbers) after (omega (arith, r.1))
              (g
              ∙ ap (λ (o : List ℕ). sets table 0 (image_of (ordered (program_in s) o)))
              (order_back ∙ ap (λ (k : ℕ). inverse (take k numbers)) is))
              ∙ sym (unfile_fills s numbers table e),
        )
