-- The two ways out of a call that writes the list.
use mathlib.Core.Path.{◌≡◌, sym, ap, ◌∙◌, subst}
use mathlib.Core.Bool.{Bool, true, false}
use mathlib.Core.List.{List, ◌++◌}
use Prim.Native.Nat.{ℕ, ◌<◌, ◌≤◌}
use native.Mathlib.Nat.{zero-add}
use native.Mathlib.Omega.{arith}
use lib.Dec.{leb}
use lib.ListN.{length, drop}
use lib.Seq.{sets, sets-eq}
use borrow.Author.Tests.{le-leb, lt-leb}
use Rattle.lists.specs.Lists.{choose}
use Rattle.std.specs.Prelude.{Some, None}
use Rattle.listing.specs.Inside.Listing.{listed, with_list}

-- l is the list, k the one that was read and n its length
module _ (l k table : List ℕ) (n : ℕ) (read : k ≡ l) (counted : n ≡ length k) where
  count : n ≡ length l
  count = counted ∙ ap length read

  module _ (short : length table < n) where
    over : leb (length l) (length table) ≡ false
    over = lt-leb (length l) (length table) (subst (λ (x : ℕ). length table < x) count short)

    pub listed_over : None ≡ listed l table
    listed_over = ap (λ (b : Bool). choose b (Some (length l)) None) (sym over)

    pub kept_over : table ≡ with_list l table
    kept_over = ap (λ (b : Bool). choose b (l ++ drop (length l) table) table) (sym over)

  module _ (long : n ≤ length table) where
    fits : leb (length l) (length table) ≡ true
    fits = le-leb (length l) (length table) (subst (λ (x : ℕ). x ≤ length table) count long)

    pub listed_count : Some n ≡ listed l table
    listed_count = ap Some count ∙ ap (λ (b : Bool). choose b (Some (length l)) None) (sym fits)

    pub written_list : (after : List ℕ) → after ≡ sets table 0 k → after ≡ with_list l table
    written_list after e =
        e ∙ ap (sets table 0) read ∙ sets-eq l table 0 (omega (arith, count))
        ∙ ap (λ (j : ℕ). l ++ drop j table) (zero-add (length l))
        ∙ ap (λ (b : Bool). choose b (l ++ drop (length l) table) table) (sym fits)
