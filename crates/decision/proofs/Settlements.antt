-- The argument list in its table, and the answer after it.
use mathlib.Core.Path.{◌≡◌, refl, sym, ap, ◌∙◌}
use mathlib.Core.Bool.{Bool, true, false}
use mathlib.Core.List.{List, ◌++◌}
use Prim.Native.Nat.{ℕ, ◌≤◌}
use native.Mathlib.Omega.{arith}
use lib.Dec.{leb}
use lib.ListN.{length, take, drop, length-append}
use lib.Seq.{take-append_seam}
use Rattle.std.specs.Prelude.{Option, Some, None}
use Rattle.lists.specs.Lists.{choose}
use Rattle.program.specs.Program.{Program}
use Rattle.argument.specs.List.{argument_list}
use Rattle.listing.specs.Inside.Listing.{listed, with_list}
use Rattle.closures.specs.Inside.Table.{Laid, Tells}
use Rattle.tree.specs.Inside.Tables.{Columns}
use Rattle.answer.specs.declared.Answer.{Answer}
use Rattle.answer.specs.Answer.{answer}
use Rattle.decision.specs.Inside.Steps.{Held, Listing, Decided, Settled}

-- ---- what the list's result says

module _ (l t : List ℕ) where
  abbrev fits : Bool
  fits = leb (length l) (length t)

  count_fits : (n : ℕ) → Some n ≡ listed l t → (fits ≡ true) × (n ≡ length l)
  count_fits n e = go fits refl
    where
      go : (b : Bool) → fits ≡ b → (fits ≡ true) × (n ≡ length l)
      go true h = (h, let z : Some n ≡ Some (length l) = e ∙ ap (λ (x : Bool). choose x (Some (length l)) None) h in cc)
      go false h = let z : Some n ≡ None = e ∙ ap (λ (x : Bool). choose x (Some (length l)) None) h in cc

  none_fits : ◌≡◌ {A = Option ℕ} None (listed l t) → fits ≡ false
  none_fits e = go fits refl
    where
      go : (b : Bool) → fits ≡ b → fits ≡ false
      go true h = let z : ◌≡◌ {A = Option ℕ} None (Some (length l)) = e ∙ ap (λ (x : Bool). choose x (Some (length l)) None) h in cc
      go false h = h

-- ---- counted: the list stands in the table

module _ {table : List ℕ} (w : Held table) (arguments : List ℕ) {arguments' : List ℕ} {count : ℕ}
    (result : Some count ≡ listed (argument_list w.program.rules) arguments)
    (written : arguments' ≡ with_list (argument_list w.program.rules) arguments) where
  abbrev l : List ℕ
  l = argument_list w.program.rules

  stands : arguments' ≡ l ++ drop (length l) arguments
  stands = written ∙ ap (λ (x : Bool). choose x (l ++ drop (length l) arguments) arguments) (count_fits l arguments count result).0

  count_is : count ≡ length l
  count_is = (count_fits l arguments count result).1

  pub counted : count ≤ length arguments'
  counted = omega (arith, count_is, ap length stands, length-append l (drop (length l) arguments))

  pub listing : (rows : List ℕ) → Tells w.program.rules rows → Laid rows → Listing w rows (take count arguments')
  listing rows told laid = record {
    told = told;
    laid = laid;
    listed = ap (λ (n : ℕ). take n arguments') count_is ∙ ap (take (length l)) stands ∙ take-append_seam l (drop (length l) arguments);
  }

  pub settled_listed : {h b : ℕ} {r : Answer} {before after : Columns} → Decided w.program h b r before after
      → Settled w.program h b (Some r) arguments arguments' before after
  settled_listed {h} {b} d = record {
    result_is = ap Some d.result_is
        ∙ ap (λ (x : Bool). choose x (Some (answer w.program h b)) None) (sym (count_fits l arguments count result).0);
    arguments_are = written;
    nodes_are = d.nodes_are;
  }

-- ---- there is no room: nothing is touched

pub settled_none : (p : Program) (h b : ℕ) (arguments arguments' : List ℕ) (t : Columns)
    → None ≡ listed (argument_list p.rules) arguments → arguments' ≡ with_list (argument_list p.rules) arguments
    → Settled p h b None arguments arguments' t t
settled_none p h b arguments arguments' t e w = record {
  result_is = ap (λ (x : Bool). choose x (Some (answer p h b)) None) (sym (none_fits (argument_list p.rules) arguments e));
  arguments_are = w;
  nodes_are = refl;
}
