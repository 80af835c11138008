-- What the tables that a call lends down say of the argument list: each argument once, at its index.
use mathlib.Core.Path.{◌≡◌, sym, ap, subst}
use mathlib.Core.List.{List, Memᴰ}
use Prim.Native.Nat.{ℕ, ◌*◌, ◌^◌, ◌≤◌, ◌<◌}
use native.Mathlib.Omega.{arith}
use native.Mathlib.Nat.{pow-le-pow_right}
use lib.ListN.{length, get_or}
use Rattle.lists.specs.Lists.{index_in}
use Rattle.lists.proofs.Orders.{ascending_distinct, ascends_high}
use Rattle.lists.proofs.Places.{index_of}
use Rattle.literals.specs.Sets.{within}
use Rattle.literals.proofs.Tests.{true_T}
use Rattle.literals.proofs.Within.{within_refl}
use Rattle.program.specs.Program.{defeasibles}
use Rattle.argument.specs.Argument.{mask_of}
use Rattle.argument.specs.List.{argument_list}
use Rattle.argument.proofs.Lists.{list_ascends, list_ascending, list_length}
use Rattle.defeat.specs.OfProgram.{tests_of}
use Rattle.tree.specs.declared.candidates.Framework.{Framework}
use Rattle.tree.specs.Inside.Steps.{Prepared, tests_in}
use Rattle.tree.proofs.Growing.{Listing}

-- ---- the tables

module _ {f : Framework} (w : Prepared f) where
  abbrev l : List ℕ
  l = argument_list w.program.rules

  pub prepared_list : f.arguments.now ≡ l
  prepared_list = w.made.listed

  few : 2 ^ defeasibles w.program.rules ≤ 2 ^ 16
  few = pow-le-pow_right {n = 2} (omega arith) {i = defeasibles w.program.rules} {j = 16} w.made.limits.defeasibles_limit

  -- a listed argument's mask is one of the program's
  pub prepared_mask : (x : ℕ) → Memᴰ x f.arguments.now → mask_of x < 2 ^ defeasibles w.program.rules
  prepared_mask x i =
      let n : ℕ = 2 ^ defeasibles w.program.rules in
      let h = ascends_high l 0 (n * 128) x (list_ascends w.program.rules) (rw prepared_list at i) in
      omega arith

  -- an argument's number fits
  pub prepared_small : (x : ℕ) → Memᴰ x f.arguments.now → x < 2 ^ 23
  prepared_small x i = let h = prepared_mask x i in omega (arith, few)

  -- an index fits
  pub prepared_count : length f.arguments.now ≤ 8388608
  prepared_count =
      omega (arith, list_length w.program.rules, ap length prepared_list, few)

  pub prepared_listing : Listing (tests_in w) f.arguments.now
  unfolding tests_of
  prepared_listing = record {
    itself = λ x i. true_T (within (mask_of x) (mask_of x)) (within_refl (mask_of x));
    listed = prepared_list;
    placed = λ j h.
        subst (λ (x : ℕ). index_in l x ≡ j) (ap (λ (m : List ℕ). get_or m j 0) (sym prepared_list))
        (index_of l j (ascending_distinct l (list_ascending w.program.rules)) (omega (arith, ap length prepared_list)));
  }
