use mathlib.Core.Path.{refl}
use mathlib.Core.List.{List}
use Prim.Native.Nat.{ℕ, ◌+◌, ◌*◌}
use Rattle.literals.specs.Inside.Words.{set_of}
use Rattle.collecting.specs.Inside.Columns.{word_list}
use Rattle.collecting.proofs.Lists.{parts_room, parts_more, parts_written}
use Rattle.collecting.proofs.write_words.Goals as goal

-- the arguments of the words 64 i + b
abbrev words : List ℕ → ℕ → ℕ → ℕ → List ℕ
words rows s i b = word_list rows s (64 * i + b)

pub write_word-next-requires-clause-w_in_bounds : goal.write_word-next-requires-clause-w_in_bounds
write_word-next-requires-clause-w_in_bounds c = let a = c.args in
    parts_room (words a.rows.now (set_of a.literals) a.i) _ _ _ a.at c.loop-b.next _ c.loop-b.invariant _ c.in-Some.ensures.steps.0 _ refl c.requires.i_in_bounds

pub loop-b-preserved : goal.loop-b-preserved
loop-b-preserved c = let a = c.args in
    parts_more (words a.rows.now (set_of a.literals) a.i) _ _ _ a.at c.loop-b.next _ c.loop-b.invariant _ c.in-Some.ensures.steps.0 _ refl _ _ _
    c.in-Some.ensures.steps.1 c.write_word-next.ensures

pub returns : goal.returns
returns c = let a = c.args in
    parts_written (words a.rows.now (set_of a.literals) a.i) _ _ _ a.at c.loop-b.next _ c.loop-b.invariant c.in-None.ensures.steps.0
