-- The list by words, by columns, and as the list of the program's arguments.
use mathlib.Core.Path.{◌≡◌, refl, sym, ap, ap₂, subst, ◌∙◌}
use mathlib.Core.Bool.{Bool, true, false, false≢true}
use mathlib.Core.List.{List, [], ◌++◌, append_assoc, append-nil}
use mathlib.Core.Logic.{⊎_elim}
use Prim.Native.Nat.{ℕ, zero, suc, ◌+◌, ◌-◌, ◌*◌, ◌/◌, ◌%◌, ◌^◌, ◌<◌, ◌≤◌}
use native.Mathlib.Nat.{add-zero}
use native.Mathlib.Omega.{arith}
use lib.ListN.{length, get_or, replicate, get_or-replicate}
use lib.Pow.{pow_mono}
use lib.Seq.{sets}
use Rattle.lists.specs.Inside.Stores.{Written}
use Rattle.lists.proofs.Stores.{Writing, writing_room, writing_part, writing_none, written_length}
use Rattle.literals.specs.Sets.{has, minus, Lowest}
use Rattle.literals.specs.Inside.Words.{joined}
use Rattle.literals.proofs.Tests.{same_test, not_true_false, and_intro, and_left, and_right}
use Rattle.literals.proofs.Members.{has_empty}
use Rattle.program.specs.Program.{Rule, Program, defeasibles}
use Rattle.program.specs.Limits.{Limits}
use Rattle.derivation.specs.Derivation.{HeadsBelow}
use Rattle.argument.specs.Argument.{Argument}
use Rattle.argument.specs.List.{is_argument, picked, list_by, argument_list}
use Rattle.argument.specs.Inside.Sets.{set_at}
use Rattle.argument.proofs.Minimal.{argument_derives, argument_mask_below, is_argument_sound, is_argument_complete}
use Rattle.listing.proofs.Picks.{picked_ext, picked_none}
use Rattle.closures.specs.Inside.Table.{Tells}
use Rattle.collecting.specs.Inside.Folds.{fold_from, only, lists}
use Rattle.collecting.specs.Inside.Columns.{argues, argues_for, marked, Members, Marked, Turned, word_list, words_list, list_of, column_list, columns_list, Derivable}
use Rattle.collecting.proofs.Folds.{fold_ext, fold_none, fold_split, fold_shift, fold_blocks, fold_only, fold_empty, fold_lowest}
use Rattle.collecting.proofs.Told.{argues_argument, argument_argues}

unit : (x : List ℕ) → [] ++ x ≡ x
unit x = refl

lists_ext : (f g : ℕ → List ℕ) (k n : ℕ) → ((j : ℕ) → k ≤ j → j < k + n → f j ≡ g j) → lists f k n ≡ lists g k n
lists_ext = fold_ext (List ℕ) ◌++◌ [] unit append_assoc

lists_from : (f : ℕ → List ℕ) (c n : ℕ) → lists f c n ≡ lists (λ j. f (c + j)) 0 n
lists_from f c n = ap (λ (x : ℕ). lists f x n) (sym (add-zero c)) ∙ fold_shift (List ℕ) ◌++◌ [] unit append_assoc f c 0 n

-- the parts of the members of a word are being written, the lowest first, and those of left are left
module _ (f : ℕ → List ℕ) (before after whole : List ℕ) (at next left : ℕ)
    (state : Writing before after at next whole (lists (only (List ℕ) [] left f) 0 64)) where
  module _ (b : ℕ) (lowest : Lowest left b) (x : List ℕ) (e : x ≡ f b) where
    first : lists (only (List ℕ) [] left f) 0 64 ≡ x ++ lists (only (List ℕ) [] (minus left (2 ^ b)) f) 0 64
    first =
        fold_lowest (List ℕ) ◌++◌ [] unit append_assoc f 64 left b lowest
        ∙ ap (λ (y : List ℕ). y ++ lists (only (List ℕ) [] (minus left (2 ^ b)) f) 0 64) (sym e)

    pub parts_room : at + length whole ≤ length before → next + length x ≤ length after
    parts_room =
        writing_room before after at next whole (lists (only (List ℕ) [] left f) 0 64) state x
        (lists (only (List ℕ) [] (minus left (2 ^ b)) f) 0 64) first

    pub parts_more : (more : List ℕ) (n k : ℕ) → k ≡ minus left (2 ^ b) → Written after more next n x
        → Writing before more at n whole (lists (only (List ℕ) [] k f) 0 64)
    parts_more more n k less w =
        subst (λ (y : ℕ). Writing before more at n whole (lists (only (List ℕ) [] y f) 0 64)) (sym less)
        (writing_part before after at next whole (lists (only (List ℕ) [] left f) 0 64) state x
        (lists (only (List ℕ) [] (minus left (2 ^ b)) f) 0 64) first more n (written_length after more next n x w) w)

  pub parts_written : left ≡ 0 → Written before after at next whole
  parts_written e =
      writing_none before after at next whole (lists (only (List ℕ) [] left f) 0 64) state
      (fold_empty (List ℕ) ◌++◌ [] unit append_assoc f left 64 e)

-- n parts are being written, and those from i on are left
module _ (f : ℕ → List ℕ) (n : ℕ) (before after whole : List ℕ) (at i : ℕ)
    (state : Writing before after 0 at whole (lists f i (n - i))) where
  module _ (low : i < n) where
    one : lists f i (n - i) ≡ f i ++ lists f (i + 1) (n - (i + 1))
    unfolding fold_from
    one =
        let more : n - i ≡ suc (n - (i + 1)) = omega arith in
        let next : suc i ≡ i + 1 = omega arith in
        ap (lists f i) more ∙ ap (λ (k : ℕ). f i ++ lists f k (n - (i + 1))) next

    pub lists_room : length whole ≤ length before → at + length (f i) ≤ length after
    lists_room h = writing_room before after 0 at whole (lists f i (n - i)) state (f i) (lists f (i + 1) (n - (i + 1))) one (omega arith)

    pub lists_more : (more : List ℕ) (next : ℕ) → Written after more at next (f i) → Writing before more 0 next whole (lists f (i + 1) (n - (i + 1)))
    lists_more more next w =
        writing_part before after 0 at whole (lists f i (n - i)) state (f i) (lists f (i + 1) (n - (i + 1))) one more next
        (written_length after more at next (f i) w) w

  pub lists_written : n ≤ i → after ≡ sets before 0 whole
  unfolding fold_from
  lists_written l =
      let none : n - i ≡ 0 = omega arith in
      (writing_none before after 0 at whole (lists f i (n - i)) state (ap (lists f i) none)).stored

-- ---- the parts of the masks

mask_part : (ℕ → ℕ → Bool) → ℕ → List ℕ
mask_part test m = picked (test m) (m * 128) 0 128

listed_lists : (test : ℕ → ℕ → Bool) (k n : ℕ) → list_by test k n ≡ lists (mask_part test) k n
unfolding list_by fold_from mask_part
listed_lists test k zero = refl
listed_lists test k (suc n) = ap (λ (l : List ℕ). picked (test k) (k * 128) 0 128 ++ l) (listed_lists test (suc k) n)

part_none : (test : ℕ → ℕ → Bool) (m : ℕ) → ((h : ℕ) → h < 128 → test m h ≡ true → ⊥) → mask_part test m ≡ []
unfolding mask_part
part_none test m none =
    picked_ext (test m) (λ h. false) (m * 128) 0 128 (λ h a b. not_true_false (test m h) (none h (omega arith)))
    ∙ picked_none (λ h. false) (m * 128) 0 128 (λ h. refl)

part_same : (f g : ℕ → Bool) (m : ℕ) → ((h : ℕ) → h < 128 → f h ≡ g h) → picked f (m * 128) 0 128 ≡ picked g (m * 128) 0 128
part_same f g m e = picked_ext f g (m * 128) 0 128 (λ h a b. e h (omega arith))

module _ (t : List ℕ) (s : ℕ) where
  arguing : (m h : ℕ) → h < 128 → argues_for t s m h ≡ true → Members s h × (argues t m h ≡ true)
  arguing m h low e = ((low, and_left (has s h) (argues t m h) e), and_right (has s h) (argues t m h) e)

  -- ---- the words that are marked

  -- a word that is not marked has no argument
  unmarked : (u : List ℕ) → Marked t s u → (w : ℕ) → w < 1024 → marked u w ≡ false → word_list t s w ≡ []
  unmarked u all w low e =
      listed_lists (argues_for t s) (64 * w) 64
      ∙ fold_none (List ℕ) ◌++◌ [] unit append_assoc (mask_part (argues_for t s)) (64 * w) 64 (λ m a b.
      part_none (argues_for t s) m (λ h q g.
      let word : m / 64 ≡ w = omega arith in
      let r = arguing m h q g in
      false≢true (sym e ∙ ap (marked u) (sym word) ∙ all h m r.0 (omega arith) r.1)))

  pub list_marked : (u : List ℕ) → Marked t s u → lists (λ i. words_list t s (get_or u i 0) i) 0 16 ≡ list_of t s
  unfolding list_of
  list_marked u all =
      sym
      (listed_lists (argues_for t s) 0 65536
      ∙ fold_blocks (List ℕ) ◌++◌ [] unit append_assoc (mask_part (argues_for t s)) 0 1024
      ∙ lists_ext (λ w. lists (mask_part (argues_for t s)) (64 * w) 64) (word_list t s) 0 1024 (λ w a b. sym (listed_lists (argues_for t s) (64 * w) 64))
      ∙ fold_blocks (List ℕ) ◌++◌ [] unit append_assoc (word_list t s) 0 16
      ∙ lists_ext (λ i. lists (word_list t s) (64 * i) 64) (λ i. words_list t s (get_or u i 0) i) 0 16 (λ i a b. block i (omega arith)))
    where
      block : (i : ℕ) → i < 16 → lists (word_list t s) (64 * i) 64 ≡ words_list t s (get_or u i 0) i
      block i low =
          lists_from (word_list t s) (64 * i) 64
          ∙ fold_only (List ℕ) ◌++◌ [] unit append_assoc (λ b. word_list t s (64 * i + b)) (get_or u i 0) 0 64 (λ b x y e.
          let word : (64 * i + b) / 64 ≡ i = omega arith in
          let place : (64 * i + b) % 64 ≡ b = omega arith in
          unmarked u all (64 * i + b) (omega arith) (ap₂ (λ (j k : ℕ). has (get_or u j 0) k) word place ∙ e))

  -- ---- the columns

  zeros : (k h : ℕ) → has (set_at (replicate 128 0) k) h ≡ true → k < 64 → ⊥
  zeros k h e low =
      false≢true
      (sym (has_empty h)
      ∙ sym
      (ap (λ (x : ℕ). has x h) (ap₂ joined (get_or-replicate {A = ℕ} 128 (2 * k + 1) 0 0 (omega arith)) (get_or-replicate {A = ℕ} 128 (2 * k) 0 0 (omega arith))))
      ∙ e)

  pub columns_list_lem : (w : ℕ) (c : List ℕ) (x : ℕ) → Turned t w (Members s) (replicate 128 0) c 0 x → columns_list c x w ≡ word_list t s w
  unfolding mask_part
  columns_list_lem w c x turned =
      sym
      (listed_lists (argues_for t s) (64 * w) 64
      ∙ lists_from (mask_part (argues_for t s)) (64 * w) 64
      ∙ lists_ext (λ k. mask_part (argues_for t s) (64 * w + k)) (column_list c w) 0 64 (λ k a b.
      part_same (argues_for t s (64 * w + k)) (has (set_at c k)) (64 * w + k) (λ h low. same k h (omega arith) low))
      ∙ fold_only (List ℕ) ◌++◌ [] unit append_assoc (column_list c w) x 0 64 (λ k a b e. empty k (omega arith) e))
    where
      from : (k h : ℕ) → k < 64 → has (set_at c k) h ≡ true → Members s h × (argues t (64 * w + k) h ≡ true)
      from k h low e = ⊎_elim (λ q. absurd (zeros k h q low)) (λ q. q) (turned.says k h low e)

      same : (k h : ℕ) → k < 64 → h < 128 → argues_for t s (64 * w + k) h ≡ has (set_at c k) h
      same k h low small =
          same_test (argues_for t s (64 * w + k) h) (has (set_at c k) h)
          (λ e. let r = arguing (64 * w + k) h small e in (turned.passes k h low r.0 r.1).0)
          (λ e. let r = from k h low e in and_intro (has s h) (argues t (64 * w + k) h) r.0.1 r.1)

      empty : (k : ℕ) → k < 64 → has x k ≡ false → column_list c w k ≡ []
      empty k low e =
          part_none (λ m. has (set_at c k)) (64 * w + k) (λ h small g.
          let r = from k h low g in false≢true (sym e ∙ (turned.passes k h low r.0 r.1).1))

-- ---- the arguments of the program

pub list_told : (p : Program) (t : List ℕ) (s : ℕ) → Limits p → Tells p.rules t → Derivable p.rules s → list_of t s ≡ argument_list p.rules
unfolding list_of argument_list mask_part
list_told p t s limits rows derivable =
    ap (list_by (argues_for t s) 0) whole
    ∙ listed_lists (argues_for t s) 0 (end + (65536 - end))
    ∙ fold_split (List ℕ) ◌++◌ [] unit append_assoc (mask_part (argues_for t s)) 0 end (65536 - end)
    ∙ ap₂ (λ (x y : List ℕ). x ++ y)
    (lists_ext (mask_part (argues_for t s)) (mask_part (is_argument rules)) 0 end (λ m a b. first m (omega arith)))
    (fold_none (List ℕ) ◌++◌ [] unit append_assoc (mask_part (argues_for t s)) (0 + end) (65536 - end) (λ m a b. past m (omega arith) (omega arith)))
    ∙ append-nil (lists (mask_part (is_argument rules)) 0 end)
    ∙ sym (listed_lists (is_argument rules) 0 end)
  where
    rules : List Rule
    rules = p.rules

    end : ℕ
    end = 2 ^ defeasibles p.rules

    whole : ◌≡◌ {A = ℕ} 65536 (end + (65536 - end))
    whole = omega (arith, pow_mono {i = defeasibles p.rules} {j = 16} limits.defeasibles_limit)

    heads : HeadsBelow 128 rules
    heads r i = omega (arith, limits.heads_below r i, limits.atoms_limit)

    told : (m h : ℕ) → m < 65536 → h < 128 → argues_for t s m h ≡ true → Argument rules m h
    told m h small low e = argues_argument rules t heads rows m h low small (and_right (has s h) (argues t m h) e)

    first : (m : ℕ) → m < end → mask_part (argues_for t s) m ≡ mask_part (is_argument rules) m
    first m l =
        part_same (argues_for t s m) (is_argument rules m) m (λ h low.
        same_test (argues_for t s m h) (is_argument rules m h)
        (λ e. is_argument_complete rules m h (told m h (omega (arith, whole)) low e))
        (λ e.
        let a = is_argument_sound rules m h heads l e in
        and_intro (has s h) (argues t m h) (derivable h m (argument_derives rules m h a)) (argument_argues rules t heads rows m h low a)))

    past : (m : ℕ) → end ≤ m → m < 65536 → mask_part (argues_for t s) m ≡ []
    past m l small = part_none (argues_for t s) m (λ h low e. omega (arith, argument_mask_below rules m h (told m h small low e)))
