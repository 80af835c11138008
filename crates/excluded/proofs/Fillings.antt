-- The leaf with literals as switches: what it asks, and what rows that it has filled say of Π.
use mathlib.Core.Path.{◌≡◌, sym, ap, ap₂, ◌∙◌, subst}
use mathlib.Core.Bool.{Bool, true, false, ◌&&◌, ◌||◌, false≢true}
use mathlib.Core.List.{List}
use mathlib.Core.Logic.{◌⊎◌, inl, inr, ⊎_elim}
use Prim.Native.Nat.{ℕ, ◌+◌, ◌*◌, ◌/◌, ◌%◌, ◌^◌, ◌<◌}
use native.Mathlib.Decide.{ℕ_discrete}
use native.Mathlib.Omega.{arith}
use lib.ListN.{length, get_or, set}
use Rattle.literals.specs.Sets.{has, insert, within}
use Rattle.literals.specs.Inside.Words.{joined}
use Rattle.literals.proofs.Tests.{same_test, not_true_false, and_intro, and_left, and_right, or_left, or_right, or_cases}
use Rattle.literals.proofs.Members.{has_empty, has_bound, has_cases, has_insert_same, insert_cases, insert_keeps}
use Rattle.literals.proofs.Within.{within_each, within_empty, within_refl, insert_within}
use Rattle.literals.proofs.Clashes.{clash_pair, pair_clash}
use Rattle.program.specs.Program.{strict, Rule, Π}
use Rattle.program.specs.Inside.Table.{head_at, body_at, need_at, rule_count, Shaped}
use Rattle.derivation.specs.Closure.{closure, excludes}
use Rattle.derivation.proofs.Closures.{closure_ind, closure_contains, closure_mono}
use Rattle.rows.specs.Switched.{Named, ClosedIn, NeedsOne}
use Rattle.rows.specs.Layout.{row_has, HeadWord, Rows, Placed, Bearing}
use Rattle.excluded.specs.Inside.Exclusions.{excluded_by, Excluded}
use Rattle.excluded.specs.Inside.Strict.{StrictRules, Reduced, Laid}
use Rattle.excluded.specs.Inside.Rows.{reaches, Begun, Reached, RowOf, Each, Joined}
use Rattle.excluded.specs.Inside.Joint.{CrossAt, Crossed, Coherent, Solid, Unspread, PairAt, Pairs}
use Rattle.excluded.proofs.RowWords.{row_reaches, row_same, row_bit, stored_low, stored_high, stored_others}

-- the strict rules, and rows of two words
pub laid : (t : List ℕ) (d w : ℕ) (u keep base : List ℕ) → Shaped t → StrictRules t d w u → length keep ≡ 128 → length base ≡ 128
    → ((l : ℕ) → l < 128 → get_or keep l 0 ≡ 1) → ((l : ℕ) → l < 128 → get_or base l 0 ≡ 2 * l) → Laid u keep base
laid t d w u keep base shaped taken keeps bases kept based = record {
  shaped = record {
    few = taken.few;
    literals = λ j h.
        let found = taken.from j h in
        subst (λ (x : ℕ). x < 128) (sym found.1.head_is) (shaped.literals found.0 found.1.listed);
  };
  needless = λ j h. (taken.from j h).1.need_is;
  bodies = λ j h. (taken.from j h).1.small;
  keeps = keeps;
  bases = bases;
  kept = kept;
  based = based;
}

module _ (t keep base : List ℕ) (so : Laid t keep base) where
  body_small : (i l : ℕ) → i < rule_count t → has (body_at t i) l ≡ true → l < 128
  body_small i l h m = has_bound (body_at t i) 128 l (so.bodies i h) m

  named_small : (l : ℕ) → Named t l → l < 128
  named_small l (i, h, inl m) = body_small i l h m
  named_small l (i, h, inr e) = subst (λ (x : ℕ). x < 128) (sym e) (so.shaped.literals i h)

  -- what the leaf asks
  pub laid_needs : NeedsOne t
  laid_needs = record {
    one = λ i h. (strict, 0, so.needless i h);
    below = λ i h. omega (arith, so.needless i h);
  }

  pub laid_bearing : Bearing t keep
  laid_bearing = record {
    need = λ i h.
        let z : 0 ≡ need_at t i / 64 = omega (arith, so.needless i h) in
        subst (λ (n : ℕ). within n (get_or keep (head_at t i) 0) ≡ true) z (within_empty (get_or keep (head_at t i) 0));
    body = λ i l h m.
        let e = so.kept l (body_small i l h m) ∙ sym (so.kept (head_at t i) (so.shaped.literals i h)) in
        subst (λ (n : ℕ). within (get_or keep l 0) n ≡ true) e (within_refl (get_or keep l 0));
  }

  pub laid_placed : (n : ℕ) → n ≡ 256 → Placed t keep base n
  laid_placed n e = record {
    keeps = so.keeps;
    bases = so.bases;
    small = named_small;
    inside = λ l q.
        let s = named_small l q in
        omega (arith, so.kept l s, so.based l s);
    apart = λ l h i j q r li lj z.
        let s = named_small l q in
        let r = named_small h r in
        omega (arith, so.kept l s, so.based l s, so.kept h r, so.based h r);
  }

  bit : (c : List ℕ) (l x : ℕ) → l < 128 → x < 128 → row_has keep base c l x ≡ reaches c l x
  bit c l x s r = row_bit keep base c l x r (so.kept l s) (so.based l s)

  -- filled rows
  module _ (rules : List Rule) (d u : ℕ) (reduced : Reduced rules d u t) (below : u < 2 ^ 128) (c e : List ℕ) (filled : Rows t keep base c e) where
    -- a closed set that has what the rows had has what they have
    inside_start : (x : ℕ) → x < 128 → (s : ℕ → Bool) → ClosedIn t x s → ((l : ℕ) → l < 128 → reaches c l x ≡ true → s l ≡ true)
        → (l : ℕ) → l < 128 → reaches e l x ≡ true → s l ≡ true
    inside_start x r s closed start l small h = go (filled.others (2 * l + x / 64))
      where
        go : (get_or e (2 * l + x / 64) 0 ≡ get_or c (2 * l + x / 64) 0) ⊎ HeadWord t keep base (2 * l + x / 64) → s l ≡ true
        go (inl q) = start l small (ap (λ (z : ℕ). has z (x % 64)) (sym q) ∙ h)
        go (inr (i, w, listed, lw, place)) =
            filled.least x s closed (λ k n q. let m = named_small k n in start k m (sym (bit c k x m r) ∙ q)) l
            (i, listed, inr same) (bit e l x small r ∙ h)
          where
            same : l ≡ head_at t i
            same =
                let m = so.shaped.literals i listed in
                omega (arith, so.kept (head_at t i) m, so.based (head_at t i) m)

    closes : (x g : ℕ) → x < 128 → ((l : ℕ) → l < 128 → reaches c l x ≡ true → has (closure (Π rules) g) l ≡ true)
        → ((l : ℕ) → has g l ≡ true → (has u l ≡ true) × (reaches c l x ≡ true)) → ((l : ℕ) → has d l ≡ true → reaches c l x ≡ true)
        → (l : ℕ) → l < 128 → reaches e l x ≡ has (closure (Π rules) g) l
    closes x g r start given known l small =
        same_test (reaches e l x) (has (closure (Π rules) g) l)
        (inside_start x r (has (closure (Π rules) g)) (reduced.sound x g) start l small)
        (λ h. sym (bit e l x small r) ∙ (closure_ind (Π rules) (λ k. (has reduced.reach k ≡ true) × (row_has keep base e k x ≡ true)) g
        (reduced.whole x (λ k. row_has keep base e k x) (λ k q. begins k (has_bound d 128 k reduced.below q) (known k q)) (filled.closed x))
        (λ k q. let w = given k q in (reduced.given k w.0, begins k (has_bound u 128 k below w.0) w.1)) l h).1)
      where
        begins : (k : ℕ) → k < 128 → reaches c k x ≡ true → row_has keep base e k x ≡ true
        begins k m q = filled.starts x k (bit c k x m r ∙ q)

    empties : (x : ℕ) → x < 128 → ((l : ℕ) → l < 128 → reaches c l x ≡ true → ⊥) → (l : ℕ) → l < 128 → reaches e l x ≡ false
    empties x r none l small =
        not_true_false (reaches e l x) (λ h.
        false≢true
        (inside_start x r (λ _. false) (λ i listed on body. let w = reduced.bodied i listed in body w.0 w.1)
        (λ k m q. absurd (none k m q)) l small h))

    -- what Π derives it derives from anything, and each given literal
    pub known_in : (g l : ℕ) → has d l ≡ true → has (closure (Π rules) g) l ≡ true
    known_in g l h =
        within_each (closure (Π rules) 0) (closure (Π rules) g) (closure_mono (Π rules) (Π rules) (λ r m. m) 0 g (within_empty g)) l
        (ap (λ (x : ℕ). has x l) (sym reduced.derived_is) ∙ h)

    pub reached : Begun d u c → Reached rules u e
    reached begun l x small r = go (has_cases u x)
      where
        own : has (closure (Π rules) (insert 0 x)) x ≡ true
        own = within_each (insert 0 x) (closure (Π rules) (insert 0 x)) (closure_contains (Π rules) (insert 0 x)) x (has_insert_same 0 x)

        go : (has u x ≡ true) ⊎ (has u x ≡ false) → reaches e l x ≡ (has u x && has (closure (Π rules) (insert 0 x)) l)
        go (inl h) =
            closes x (insert 0 x) r
            (λ k m q.
            ⊎_elim (known_in (insert 0 x) k) (λ z. ap (has (closure (Π rules) (insert 0 x))) z ∙ own) (begun.only k x m r q).1)
            (λ k q.
            ⊎_elim (λ z. absurd (false≢true (sym (has_empty k) ∙ z)))
            (λ z. (ap (has u) z ∙ h, ap (λ (n : ℕ). reaches c n x) z ∙ begun.own x h)) (insert_cases 0 x k q))
            (λ k q. begun.derived k x q h) l small
            ∙ ap (λ (b : Bool). b && has (closure (Π rules) (insert 0 x)) l) (sym h)
        go (inr n) =
            empties x r (λ k m q. false≢true (sym n ∙ (begun.only k x m r q).0)) l small
            ∙ ap (λ (b : Bool). b && has (closure (Π rules) (insert 0 x)) l) (sym n)

-- the rows with a under each literal, filled again
module _ (t keep base : List ℕ) (so : Laid t keep base) (rules : List Rule) (d u : ℕ) (reduced : Reduced rules d u t) (c e : List ℕ) (a lo hi s : ℕ)
    (reached : Reached rules u c) (mine : has u a ≡ true) (sized : length c ≡ 256) (small : a < 128) (fits : lo < 2 ^ 64) (u_is : joined hi lo ≡ u) (below : u < 2 ^ 128)
    (filled : Rows t keep base (set (set c (2 * a) lo) (2 * a + 1) hi) e) (pairs : Pairs e 64 s) where
  abbrev start : List ℕ
  start = set (set c (2 * a) lo) (2 * a + 1) hi

  room : 2 * a + 1 < length c
  room = omega arith

  of_a : (x : ℕ) → x < 128 → reaches start a x ≡ has u x
  of_a x r =
      row_reaches start a u x r (subst (λ (z : ℕ). z < 2 ^ 64) (sym (stored_low c a lo hi room)) fits)
      (ap₂ joined (stored_high c a lo hi room) (stored_low c a lo hi room) ∙ u_is)

  of_others : (l x : ℕ) → l < 128 → x < 128 → (l ≡ a → ⊥) → reaches start l x ≡ (has u x && has (closure (Π rules) (insert 0 x)) l)
  of_others l x m r o =
      row_same c start l x r (stored_others c a lo hi l o) ∙ reached l x m r

  abbrev both : ℕ → ℕ
  both x = insert (insert 0 a) x

  has_a : (x : ℕ) → has (closure (Π rules) (both x)) a ≡ true
  has_a x =
      within_each (both x) (closure (Π rules) (both x)) (closure_contains (Π rules) (both x)) a
      (insert_keeps (insert 0 a) x a (has_insert_same 0 a))

  one_both : (x l : ℕ) → has (closure (Π rules) (insert 0 x)) l ≡ true → has (closure (Π rules) (both x)) l ≡ true
  one_both x l h =
      within_each (closure (Π rules) (insert 0 x)) (closure (Π rules) (both x))
      (closure_mono (Π rules) (Π rules) (λ r m. m) (insert 0 x) (both x)
      (insert_within 0 x (both x) (within_empty (both x)) (has_insert_same (insert 0 a) x))) l h

  own : (x : ℕ) → has (closure (Π rules) (insert 0 x)) x ≡ true
  own x = within_each (insert 0 x) (closure (Π rules) (insert 0 x)) (closure_contains (Π rules) (insert 0 x)) x (has_insert_same 0 x)

  known : (x l : ℕ) → x < 128 → has u x ≡ true → l < 128 → has (closure (Π rules) (insert 0 x)) l ≡ true → reaches start l x ≡ true
  known x l r h m q = go (ℕ_discrete l a)
    where
      go : Dec (l ≡ a) → reaches start l x ≡ true
      go (yes z) = ap (λ (n : ℕ). reaches start n x) z ∙ of_a x r ∙ h
      go (no z) = of_others l x m r z ∙ and_intro (has u x) (has (closure (Π rules) (insert 0 x)) l) h q

  with_a : (x l : ℕ) → x < 128 → has u x ≡ true → l < 128 → reaches e l x ≡ has (closure (Π rules) (both x)) l
  with_a x l r h =
      closes t keep base so rules d u reduced below start e filled x (both x) r
      (λ k m q. begins k m q (ℕ_discrete k a))
      (λ k q.
      ⊎_elim
      (λ z.
      ⊎_elim (λ y. absurd (false≢true (sym (has_empty k) ∙ y)))
      (λ y. (ap (has u) y ∙ mine, ap (λ (n : ℕ). reaches start n x) y ∙ of_a x r ∙ h)) (insert_cases 0 a k z))
      (λ z. (ap (has u) z ∙ h, ap (λ (n : ℕ). reaches start n x) z ∙ known x x r h r (own x)))
      (insert_cases (insert 0 a) x k q))
      (λ k q. known x k r h (has_bound d 128 k reduced.below q) (known_in t keep base so rules d u reduced below start e filled (insert 0 x) k q)) l
    where
      begins : (k : ℕ) → k < 128 → reaches start k x ≡ true → Dec (k ≡ a) → has (closure (Π rules) (both x)) k ≡ true
      begins k m q (yes z) = ap (has (closure (Π rules) (both x))) z ∙ has_a x
      begins k m q (no z) =
          one_both x k (and_right (has u x) (has (closure (Π rules) (insert 0 x)) k) (sym (of_others k x m r z) ∙ q))

  without : (x l : ℕ) → x < 128 → has u x ≡ false → l < 128 → reaches e l x ≡ false
  without x l r n =
      empties t keep base so rules d u reduced below start e filled x r (λ k m q. none k m q (ℕ_discrete k a)) l
    where
      none : (k : ℕ) → k < 128 → reaches start k x ≡ true → Dec (k ≡ a) → ⊥
      none k m q (yes z) = false≢true (sym n ∙ sym (of_a x r) ∙ ap (λ (i : ℕ). reaches start i x) (sym z) ∙ q)
      none k m q (no z) =
          false≢true (sym n ∙ and_left (has u x) (has (closure (Π rules) (insert 0 x)) k) (sym (of_others k x m r z) ∙ q))

  pub row_together : RowOf rules u a s
  row_together x = same_test (has s x) (has u x && excludes rules a x) forth back
    where
      forth : has s x ≡ true → (has u x && excludes rules a x) ≡ true
      forth h = go (pairs.found x h) (has_cases u x)
        where
          go : PairAt e 64 x → (has u x ≡ true) ⊎ (has u x ≡ false) → (has u x && excludes rules a x) ≡ true
          go w (inl q) =
              let l = w.below in
              and_intro (has u x) (excludes rules a x) q
              (pair_clash 64 (closure (Π rules) (both x)) w.atom w.below
              (sym (with_a x (2 * w.atom) w.small q (omega arith)) ∙ w.positive)
              (sym (with_a x (2 * w.atom + 1) w.small q (omega arith)) ∙ w.negative))
          go w (inr n) =
              let l = w.below in
              absurd (false≢true (sym (without x (2 * w.atom) w.small n (omega arith)) ∙ w.positive))

      back : (has u x && excludes rules a x) ≡ true → has s x ≡ true
      back h =
          let q = and_left (has u x) (excludes rules a x) h in
          let r = has_bound u 128 x below q in
          let w = clash_pair 64 (closure (Π rules) (both x)) (and_right (has u x) (excludes rules a x) h) in
          let l = w.1 in
          pairs.each x w.0 r w.1 (with_a x (2 * w.0) r q (omega arith) ∙ w.2)
          (with_a x (2 * w.0 + 1) r q (omega arith) ∙ w.3)

-- what each literal derives is closed
pub solid : (t keep base : List ℕ) (so : Laid t keep base) (rules : List Rule) (d u : ℕ) (reduced : Reduced rules d u t) (c : List ℕ)
    → Reached rules u c → Solid t c
solid t keep base so rules d u reduced c reached x r i listed on body = go (has_cases u x)
  where
    head : head_at t i < 128
    head = so.shaped.literals i listed

    go : (has u x ≡ true) ⊎ (has u x ≡ false) → reaches c (head_at t i) x ≡ true
    go (inl h) =
        reached (head_at t i) x head r
        ∙ and_intro (has u x) (has (closure (Π rules) (insert 0 x)) (head_at t i)) h
        (reduced.sound 0 (insert 0 x) i listed on (λ l m.
        and_right (has u x) (has (closure (Π rules) (insert 0 x)) l)
        (sym (reached l x (body_small t keep base so i l listed m) r) ∙ body l m)))
    go (inr n) =
        let w = reduced.bodied i listed in
        absurd
        (false≢true
        (sym n
        ∙ and_left (has u x) (has (closure (Π rules) (insert 0 x)) w.0)
        (sym (reached w.0 x (body_small t keep base so i w.0 listed w.1) r) ∙ body w.0 w.1)))

-- the rows that are not joint by what crosses, the joint ones by themselves
module _ (t keep base : List ℕ) (so : Laid t keep base) (rules : List Rule) (d u j : ℕ) (reduced : Reduced rules d u t) (c e f : List ℕ) (below : u < 2 ^ 128)
    (reached : Reached rules u c) (crossed : Crossed c 64 e)
    (settled : (a : ℕ) → has u a ≡ true → has j a ≡ false → Coherent c 64 × Unspread t c a) (joined_rows : Each (Joined u t c) j e f) where
  reach_of : (l x : ℕ) → l < 128 → has u x ≡ true → reaches c l x ≡ has (closure (Π rules) (insert 0 x)) l
  reach_of l x m h =
      reached l x m (has_bound u 128 x below h) ∙ ap (λ (b : Bool). b && has (closure (Π rules) (insert 0 x)) l) h

  each_in : (x l : ℕ) → has (insert 0 x) l ≡ true → has (closure (Π rules) (insert 0 x)) l ≡ true
  each_in x l h = within_each (insert 0 x) (closure (Π rules) (insert 0 x)) (closure_contains (Π rules) (insert 0 x)) l h

  -- what is derived from one is derived from both
  part : (a b x l : ℕ) → has (insert (insert 0 a) b) x ≡ true → has (closure (Π rules) (insert 0 x)) l ≡ true
      → has (closure (Π rules) (insert (insert 0 a) b)) l ≡ true
  part a b x l m h =
      within_each (closure (Π rules) (insert 0 x)) (closure (Π rules) (insert (insert 0 a) b))
      (closure_mono (Π rules) (Π rules) (λ r i. i) (insert 0 x) (insert (insert 0 a) b)
      (insert_within 0 x (insert (insert 0 a) b) (within_empty (insert (insert 0 a) b)) m)) l h

  of_known : (l x : ℕ) → has u x ≡ true → has d l ≡ true → reaches c l x ≡ true
  of_known l x h q =
      reach_of l x (has_bound d 128 l reduced.below q) h
      ∙ within_each (closure (Π rules) 0) (closure (Π rules) (insert 0 x))
      (closure_mono (Π rules) (Π rules) (λ r i. i) 0 (insert 0 x) (within_empty (insert 0 x))) l
      (ap (λ (z : ℕ). has z l) (sym reduced.derived_is) ∙ q)

  -- of a literal that is not joint, and another
  module _ (a b : ℕ) (mine : has u a ≡ true) (its : has u b ≡ true) (apart : has j a ≡ false) where
    a_small : a < 128
    a_small = has_bound u 128 a below mine

    b_small : b < 128
    b_small = has_bound u 128 b below its

    self : (x : ℕ) → has u x ≡ true → reaches c x x ≡ true
    self x h = reach_of x x (has_bound u 128 x below h) h ∙ each_in x x (has_insert_same 0 x)

    -- together they derive what each derives
    both_in : (l : ℕ) → has (closure (Π rules) (insert (insert 0 a) b)) l ≡ true
        → (has reduced.reach l ≡ true) × ((reaches c l a || reaches c l b) ≡ true)
    both_in =
        closure_ind (Π rules) (λ l. (has reduced.reach l ≡ true) × ((reaches c l a || reaches c l b) ≡ true)) (insert (insert 0 a) b)
        (reduced.whole 0 (λ l. reaches c l a || reaches c l b) (λ l q. or_left (reaches c l a) (reaches c l b) (of_known l a mine q))
        ((settled a mine apart).1 (solid t keep base so rules d u reduced c reached) b b_small))
        (λ l h.
        ⊎_elim
        (λ z.
        ⊎_elim (λ y. absurd (false≢true (sym (has_empty l) ∙ y)))
        (λ y. (reduced.given l (ap (has u) y ∙ mine), or_left (reaches c l a) (reaches c l b) (ap (λ (n : ℕ). reaches c n a) y ∙ self a mine)))
        (insert_cases 0 a l z))
        (λ z. (reduced.given l (ap (has u) z ∙ its), or_right (reaches c l a) (reaches c l b) (ap (λ (n : ℕ). reaches c n b) z ∙ self b its)))
        (insert_cases (insert 0 a) b l h))

    either : (l : ℕ) → has (closure (Π rules) (insert (insert 0 a) b)) l ≡ true → (reaches c l a || reaches c l b) ≡ true
    either l h = (both_in l h).1

    forth : has (excluded_by e a) b ≡ true → excludes rules a b ≡ true
    forth h =
        let w = crossed.found a b a_small h in
        ⊎_elim
        (λ z.
        clashes w (part a b a (2 * w.atom) in_a (plus w a mine (and_left (reaches c (2 * w.atom) a) (reaches c (2 * w.atom + 1) b) z)))
        (part a b b (2 * w.atom + 1) in_b (minus_of_lem w b its (and_right (reaches c (2 * w.atom) a) (reaches c (2 * w.atom + 1) b) z))))
        (λ z.
        clashes w (part a b b (2 * w.atom) in_b (plus w b its (and_right (reaches c (2 * w.atom + 1) a) (reaches c (2 * w.atom) b) z)))
        (part a b a (2 * w.atom + 1) in_a (minus_of_lem w a mine (and_left (reaches c (2 * w.atom + 1) a) (reaches c (2 * w.atom) b) z))))
        (or_cases (reaches c (2 * w.atom) a && reaches c (2 * w.atom + 1) b) (reaches c (2 * w.atom + 1) a && reaches c (2 * w.atom) b) w.at)
      where
        in_a : has (insert (insert 0 a) b) a ≡ true
        in_a = insert_keeps (insert 0 a) b a (has_insert_same 0 a)

        in_b : has (insert (insert 0 a) b) b ≡ true
        in_b = has_insert_same (insert 0 a) b

        plus : (w : CrossAt c 64 a b) (x : ℕ) → has u x ≡ true → reaches c (2 * w.atom) x ≡ true → has (closure (Π rules) (insert 0 x)) (2 * w.atom) ≡ true
        plus w x q z = let l = w.below in sym (reach_of (2 * w.atom) x (omega arith) q) ∙ z

        minus_of_lem : (w : CrossAt c 64 a b) (x : ℕ) → has u x ≡ true → reaches c (2 * w.atom + 1) x ≡ true
            → has (closure (Π rules) (insert 0 x)) (2 * w.atom + 1) ≡ true
        minus_of_lem w x q z = let l = w.below in sym (reach_of (2 * w.atom + 1) x (omega arith) q) ∙ z

        clashes : (w : CrossAt c 64 a b) → has (closure (Π rules) (insert (insert 0 a) b)) (2 * w.atom) ≡ true
            → has (closure (Π rules) (insert (insert 0 a) b)) (2 * w.atom + 1) ≡ true → excludes rules a b ≡ true
        clashes w p q = pair_clash 64 (closure (Π rules) (insert (insert 0 a) b)) w.atom w.below p q

    back : excludes rules a b ≡ true → has (excluded_by e a) b ≡ true
    back h = go (clash_pair 64 (closure (Π rules) (insert (insert 0 a) b)) h)
      where
        go : ((k : ℕ) × (k < 64) × (has (closure (Π rules) (insert (insert 0 a) b)) (2 * k) ≡ true)
            × (has (closure (Π rules) (insert (insert 0 a) b)) (2 * k + 1) ≡ true)) → has (excluded_by e a) b ≡ true
        go (k, l, p, q) =
            crossed.each a b k a_small b_small l
            (⊎_elim
            (λ z.
            ⊎_elim (λ y. absurd ((settled a mine apart).0 k a l a_small z y))
            (λ y.
            or_left (reaches c (2 * k) a && reaches c (2 * k + 1) b) (reaches c (2 * k + 1) a && reaches c (2 * k) b)
            (and_intro (reaches c (2 * k) a) (reaches c (2 * k + 1) b) z y)) (or_cases (reaches c (2 * k + 1) a) (reaches c (2 * k + 1) b) (either (2 * k + 1) q)))
            (λ z.
            ⊎_elim
            (λ y.
            or_right (reaches c (2 * k) a && reaches c (2 * k + 1) b) (reaches c (2 * k + 1) a && reaches c (2 * k) b)
            (and_intro (reaches c (2 * k + 1) a) (reaches c (2 * k) b) y z))
            (λ y. absurd ((settled a mine apart).0 k b l b_small z y)) (or_cases (reaches c (2 * k + 1) a) (reaches c (2 * k + 1) b) (either (2 * k + 1) q)))
            (or_cases (reaches c (2 * k) a) (reaches c (2 * k) b) (either (2 * k) p)))

  -- what crosses is in u
  crossed_only : (a b : ℕ) → has u a ≡ true → has (excluded_by e a) b ≡ true → has u b ≡ true
  crossed_only a b mine h =
      let w = crossed.found a b (has_bound u 128 a below mine) h in
      let l = w.below in
      ⊎_elim
      (λ z.
      of_reached (2 * w.atom + 1) b (omega arith) w.small (and_right (reaches c (2 * w.atom) a) (reaches c (2 * w.atom + 1) b) z))
      (λ z. of_reached (2 * w.atom) b (omega arith) w.small (and_right (reaches c (2 * w.atom + 1) a) (reaches c (2 * w.atom) b) z))
      (or_cases (reaches c (2 * w.atom) a && reaches c (2 * w.atom + 1) b) (reaches c (2 * w.atom + 1) a && reaches c (2 * w.atom) b) w.at)
    where
      of_reached : (k x : ℕ) → k < 128 → x < 128 → reaches c k x ≡ true → has u x ≡ true
      of_reached k x m r z = and_left (has u x) (has (closure (Π rules) (insert 0 x)) k) (sym (reached k x m r) ∙ z)

  same_row : (a : ℕ) → has j a ≡ false → excluded_by f a ≡ excluded_by e a
  same_row a n = let w = joined_rows.others a n in ap₂ joined w.1 w.0

  pub excluded_all : Excluded rules u f
  excluded_all = record {
    exact = λ a b h i. exact a b h i (has_cases j a);
    only = λ a b h i. only a b h i (has_cases j a);
  }
    where
      exact : (a b : ℕ) → has u a ≡ true → has u b ≡ true → (has j a ≡ true) ⊎ (has j a ≡ false) → has (excluded_by f a) b ≡ excludes rules a b
      exact a b h i (inl m) = joined_rows.done a m rules d reduced reached h b ∙ ap (λ (z : Bool). z && excludes rules a b) i
      exact a b h i (inr n) =
          ap (λ (s : ℕ). has s b) (same_row a n)
          ∙ same_test (has (excluded_by e a) b) (excludes rules a b) (forth a b h i n) (back a b h i n)

      only : (a b : ℕ) → has u a ≡ true → has (excluded_by f a) b ≡ true → (has j a ≡ true) ⊎ (has j a ≡ false) → has u b ≡ true
      only a b h i (inl m) = and_left (has u b) (excludes rules a b) (sym (joined_rows.done a m rules d reduced reached h b) ∙ i)
      only a b h i (inr n) = crossed_only a b h (ap (λ (s : ℕ). has s b) (sym (same_row a n)) ∙ i)
