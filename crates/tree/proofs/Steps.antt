-- From what a step is asked to what it asks of a candidate and of a reply's step.
use mathlib.Core.Path.{◌≡◌, refl, sym, ap, ◌∙◌, subst}
use mathlib.Core.List.{List, [], ◌∷◌, Memᴰ}
use Prim.Native.Nat.{ℕ, zero, suc, ◌+◌, ◌≤◌, ◌<◌}
use native.Mathlib.Omega.{arith}
use native.Mathlib.Numerals.{add-one}
use lib.ListN.{length, get_or, set}
use lib.Seq.{get_or-set_same, get_or-set_other}
use Rattle.lists.specs.Lists.{Within}
use Rattle.literals.specs.Sets.{union}
use Rattle.argument.specs.Argument.{mask_of}
use Rattle.defeat.proofs.Kind.{number_some}
use Rattle.tree.specs.declared.candidates.Framework.{Framework}
use Rattle.tree.specs.declared.candidates.Reply.{Reply}
use Rattle.tree.specs.declared.nodes.Step.{Step}
use Rattle.tree.specs.Reply.{mine, theirs, last_kind}
use Rattle.tree.specs.Inside.Tables.{Columns, Hold}
use Rattle.tree.specs.Inside.Steps.{line_of, masks_of, tests_in, argument_of, answered, Ready, Asked, FirstReply}
use Rattle.tree.proofs.Reply.{reply_last}

-- ---- the line in its table

pub line_same : (line : List ℕ) (depth i x : ℕ) → depth ≤ i → line_of (set line i x) depth ≡ line_of line depth
line_same line zero i x h = refl
line_same line (suc depth) i x h =
    let e = get_or-set_other line i depth x 0 (λ z. omega arith) in
    let r = line_same line depth i x (omega arith) in
    cc

-- one argument more
pub line_more : (line : List ℕ) (depth x : ℕ) → depth < length line → line_of (set line depth x) (depth + 1) ≡ x ∷ line_of line depth
line_more line depth x h =
    let e = get_or-set_same line depth x 0 h in
    let r = line_same line depth depth x (omega arith) in
    rw add-one (cc)

-- one less
pub line_less : (line before : List ℕ) (depth x : ℕ) → line_of line (depth + 1) ≡ x ∷ line_of before depth
    → line_of line depth ≡ line_of before depth
line_less line before depth x h = let e = rw add-one at h in cc

-- ---- after a step's argument stands on the line

pub get_d_in : (l : List ℕ) (j : ℕ) → j < length l → Memᴰ (get_or l j 0) l
get_d_in [] j h = absurd (omega arith)
get_d_in (x ∷ l) zero h = Memᴰ.head refl
get_d_in (x ∷ l) (suc j) h = Memᴰ.tail (get_d_in l j (omega arith))

within_more : {l m : List ℕ} (x : ℕ) → Memᴰ x m → Within l m → Within (x ∷ l) m
within_more {l} {m} x i w y (Memᴰ.head e) = subst (λ (z : ℕ). Memᴰ z m) (sym e) i
within_more {l} {m} x i w y (Memᴰ.tail j) = w y j

module _ {f : Framework} {before : List ℕ} {s : Step} {limit : ℕ} {t : Columns} (ready : Ready f before s limit t)
    (line : List ℕ) (more : line_of line (s.depth + 1) ≡ argument_of f s ∷ line_of before s.depth) where
  on_line_more : Within (line_of line (s.depth + 1)) f.arguments.now
  on_line_more = rw more
      (within_more (argument_of f s) (get_d_in f.arguments.now s.index ready.in_list) ready.on_line)

  -- what is asked of a candidate: its side is the other one
  pub ready_asked : s.depth < length line → Asked f line s
  ready_asked h = record {
    prepared = ready.prepared;
    on_line = on_line_more;
    side_masks = ready.other_masks ∙ ap (λ (l : List ℕ). masks_of (theirs l)) (sym more);
    last_is = λ w. ready.kind_is w ∙ ap (last_kind (tests_in w)) (sym more);
    line_holds = h;
  }

  -- what a reply's step is asked: the sides change places
  pub ready_reply : {start next : ℕ} {r : Reply} → FirstReply f line s start r → s.at < next → next ≤ limit
      → limit ≤ length line → {t' : Columns} → Hold limit t'
      → Ready f line (answered s (union s.own (mask_of (argument_of f s))) r next) limit t'
  ready_reply {r = r} first low high long hold = record {
    prepared = ready.prepared;
    on_line = on_line_more;
    own_masks = ready.other_masks ∙ ap (λ (l : List ℕ). masks_of (theirs l)) (sym more);
    other_masks =
        ap (λ (m : ℕ). union m (mask_of (argument_of f s))) ready.own_masks
        ∙ ap (λ (l : List ℕ). masks_of (mine l)) (sym more);
    kind_is = λ w.
        first.kind_is w
        ∙ reply_last (tests_in w) (line_of line (s.depth + 1)) (get_or f.arguments.now r.index 0)
        (λ z. number_some r.kind (first.kind_is w ∙ z));
    in_list = first.in_list;
    parent_in = omega arith;
    deep = let d = ready.deep in omega arith;
    below = high;
    budget = ready.budget;
    line_holds = long;
    tables_hold = hold;
  }
