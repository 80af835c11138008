-- `write_word` meets its contract: the columns of the word are its part of the list.
use mathlib.Core.Path.{sym, subst}
use mathlib.Core.List.{List}
use Prim.Native.Nat.{ℕ, ◌+◌, ◌≤◌}
use lib.ListN.{length}
use Rattle.lists.specs.Inside.Stores.{Written}
use Rattle.literals.specs.Inside.Words.{set_of}
use Rattle.collecting.proofs.Lists.{columns_list_lem}
use Rattle.collecting.proofs.write_word.Goals as goal

pub write_columns-requires : goal.write_columns-requires
write_columns-requires c = let a = c.args in record {
  w_bound = c.requires.laid.1;
  w_in_bounds = subst (λ (l : List ℕ). a.at + length l ≤ length a.arguments.now) (sym (columns_list_lem a.rows.now (set_of a.literals) a.w _ _ c.turn-masks.ensures)) c.requires.w_in_bounds;
}

pub returns : goal.returns
returns c = let a = c.args in
    subst (Written _ _ _ _) (columns_list_lem a.rows.now (set_of a.literals) a.w _ _ c.turn-masks.ensures) c.write_columns.ensures
