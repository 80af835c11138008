-- The header and the directory: what their tests say.
use mathlib.Core.Path.{◌≡◌, refl, sym, ap, subst, ◌∙◌}
use mathlib.Core.Bool.{Bool, true, false, not, ◌&&◌, ◌||◌}
use mathlib.Core.List.{List}
use mathlib.Core.Logic.{◌⊎◌, inl, inr}
use Prim.Native.Nat.{ℕ, zero, suc, ◌+◌, ◌-◌, ◌*◌, ◌<◌, ◌≤◌}
use native.Mathlib.Numerals.{add-one}
use native.Mathlib.Nat.{eq-or-lt_of_le, sub-zero}
use native.Mathlib.Decide.{dec_lt, ℕ_discrete}
use native.Mathlib.Omega.{arith}
use lib.ListN.{length}
use lib.Dec.{ltb, eqb}
use borrow.Author.Tests.{eqb-true, eq-eqb, ne_eqb, lt-ltb, le-ltb, ltb-false, not-false}
use Rattle.literals.proofs.Tests.{and_left, and_right, or_left, or_right}
use Rattle.std.specs.Prelude.{None, Some, Result, Ok}
use Rattle.layout.specs.declared.Cause.TheVariants.{ImageLength, Header}
use Rattle.layout.specs.Layout.{number_at, atoms_of, rules_of, pair_count_of, offset_of, size_of}
use Rattle.layout.specs.Causes.{refused, refuse, and_then, bad_length, bad_counts, parts_follow, bad_directory}
use Rattle.layout.specs.declared.Refusal.{Refusal}
use Rattle.layout.specs.declared.header.Counts.{Counts}
use Rattle.lists.specs.Lists.{choose}
use Rattle.layout.specs.declared.cursor.Cursor.{Cursor}
use Rattle.layout.specs.Inside.Steps.{cursor_at, header_read, header_of, follow_from, Along, PartAt, Located}
use Rattle.layout.proofs.Cursors.{Follow-is, follow_is, broken_is}

-- ---- neither of two tests
pub neither_left : (a b : Bool) → (a || b) ≡ false → a ≡ false
neither_left true b e = e
neither_left false b e = refl

pub neither_right : (a b : Bool) → (a || b) ≡ false → b ≡ false
neither_right true b e = absurd (let z : ◌≡◌ {A = ℕ} 0 1 = cc in omega arith)
neither_right false b e = e

pub neither : {a b : Bool} → a ≡ false → b ≡ false → (a || b) ≡ false
neither p q = rw (p, q) refl

-- ---- the entries from entry i to entry n
module _ (s : List ℕ) (ends i n : ℕ) (more : i < n) where
  follow_next : parts_follow s ends i (n - i) ≡ (eqb (offset_of s i) ends && parts_follow s (offset_of s i + size_of s i) (i + 1) (n - (i + 1)))
  unfolding parts_follow
  follow_next = let z : n - i ≡ suc (n - (i + 1)) = omega arith in rw (z, add-one) refl

  pub follow_step : offset_of s i ≡ ends → parts_follow s ends i (n - i) ≡ parts_follow s (offset_of s i + size_of s i) (i + 1) (n - (i + 1))
  follow_step e =
      follow_next ∙ ap (λ (t : Bool). t && parts_follow s (offset_of s i + size_of s i) (i + 1) (n - (i + 1))) (eq-eqb (offset_of s i) ends e)

  pub follow_stop : (offset_of s i ≡ ends → ⊥) → parts_follow s ends i (n - i) ≡ false
  follow_stop e =
      follow_next ∙ ap (λ (t : Bool). t && parts_follow s (offset_of s i + size_of s i) (i + 1) (n - (i + 1))) (ne_eqb (offset_of s i) ends e)

pub follow_end : (s : List ℕ) (ends i n : ℕ) → n ≤ i → parts_follow s ends i (n - i) ≡ eqb ends (length s)
unfolding parts_follow
follow_end s ends i n h = let z : n - i ≡ 0 = omega arith in rw z refl

-- parts that follow one another lie within the image
follow_inside : (s : List ℕ) (n ends i : ℕ) → parts_follow s ends i n ≡ true → (ends ≤ length s) × ((k : ℕ) → i ≤ k → k < i + n → offset_of s k + size_of s k ≤ length s)
unfolding parts_follow
follow_inside s zero ends i e = let q = eqb-true ends (length s) e in (omega arith, λ k l h. absurd (omega arith))
follow_inside s (suc n) ends i e = go (follow_inside s n (offset_of s i + size_of s i) (suc i) (and_right (eqb (offset_of s i) ends) _ e))
  where
    here : offset_of s i ≡ ends
    here = eqb-true (offset_of s i) ends (and_left (eqb (offset_of s i) ends) _ e)

    go : (offset_of s i + size_of s i ≤ length s) × ((k : ℕ) → suc i ≤ k → k < suc i + n → offset_of s k + size_of s k ≤ length s) → (ends ≤ length s) × ((k : ℕ) → i ≤ k → k < i + suc n → offset_of s k + size_of s k ≤ length s)
    go r = let f = r.0 in (omega (arith, here), λ k l h. at k h (eq-or-lt_of_le l))
      where
        at : (k : ℕ) → k < i + suc n → (i ≡ k) ⊎ (i < k) → offset_of s k + size_of s k ≤ length s
        at k h (inl q) = rw (sym q) r.0
        at k h (inr l) = r.1 k l (omega arith)

-- each part of a sound directory can be looked up
pub directory_part : (s : List ℕ) → bad_directory s ≡ false → (i : ℕ) → i ≤ rules_of s → PartAt s i
directory_part s e i l =
    let fits = ltb-false (length s) (12 + 4 * rules_of s) (neither_left _ _ e) in
    let follow = follow_inside s (rules_of s + 1) (12 + 4 * rules_of s) 0 (not-false _ (neither_right (ltb (length s) (12 + 4 * rules_of s)) _ e)) in
    record { fits = omega arith; inside = follow.1 i (omega arith) (omega arith) }

-- cause 3 by the walk over the entries: a directory that does not fit, and one that does
module _ (s : List ℕ) where
  pub directory_short : length s < 12 + 4 * rules_of s → bad_directory s ≡ true
  directory_short h = ap (λ (t : Bool). t || not (parts_follow s (12 + 4 * rules_of s) 0 (rules_of s + 1))) (lt-ltb (length s) (12 + 4 * rules_of s) h)

  pub directory_broken : parts_follow s (12 + 4 * rules_of s) 0 (rules_of s + 1) ≡ false → bad_directory s ≡ true
  directory_broken e = go (ltb (length s) (12 + 4 * rules_of s))
    where
      go : (b : Bool) → (b || not (parts_follow s (12 + 4 * rules_of s) 0 (rules_of s + 1))) ≡ true
      go true = refl
      go false = ap not e

  pub directory_kept : 12 + 4 * rules_of s ≤ length s → parts_follow s (12 + 4 * rules_of s) 0 (rules_of s + 1) ≡ true → bad_directory s ≡ false
  directory_kept h e =
      ap (λ (t : Bool). t || not (parts_follow s (12 + 4 * rules_of s) 0 (rules_of s + 1))) (le-ltb (length s) (12 + 4 * rules_of s) h) ∙ ap not e

-- parts that run past the image do not end with it
pub follow_over : (s : List ℕ) (n ends i : ℕ) → length s < ends → parts_follow s ends i n ≡ false
follow_over s n ends i h = go (parts_follow s ends i n) refl
  where
    go : (b : Bool) → parts_follow s ends i n ≡ b → parts_follow s ends i n ≡ false
    go true e = absurd (omega (arith, (follow_inside s n ends i e).0))
    go false e = e

-- ---- along the directory
pub along_start : (s : List ℕ) (c : Cursor) (ends : ℕ) → c.at ≡ 8 → ends ≡ 12 + 4 * rules_of s → Along s c ends 0
along_start s c ends at e = record { here = at; inside = omega arith; far = omega arith; rest = rw (e, sub-zero) refl }

module _ (s : List ℕ) (c : Cursor) (ends i : ℕ) (a : Along s c ends i) where
  begins_at_lem : number_at s c.at ≡ offset_of s i
  begins_at_lem = ap (number_at s) a.here

  size_at : number_at s (c.at + 2) ≡ size_of s i
  size_at = let h = a.here in ap (number_at s) (omega arith)

  module _ (h : i ≤ rules_of s) where
    further : offset_of s i ≡ ends → (to : ℕ) → to ≡ ends + size_of s i → parts_follow s (12 + 4 * rules_of s) 0 (rules_of s + 1) ≡ parts_follow s to (i + 1) (rules_of s + 1 - (i + 1))
    further e to t =
        a.rest ∙ follow_step s ends i (rules_of s + 1) (omega arith) e
        ∙ ap (λ (n : ℕ). parts_follow s n (i + 1) (rules_of s + 1 - (i + 1))) (omega arith)

    -- a part that does not follow is cause 3
    pub along_broken : follow_from s c.at ends ≡ None → bad_directory s ≡ true
    along_broken e = go (dec_lt (length s) (c.at + 4)) (ℕ_discrete (offset_of s i) ends) (dec_lt (length s) (ends + size_of s i))
      where
        go : Dec (length s < c.at + 4) → Dec (offset_of s i ≡ ends) → Dec (length s < ends + size_of s i) → bad_directory s ≡ true
        go (yes p) q r = let x = a.here in directory_short s (omega arith)
        go (no p) (no q) r = directory_broken s (a.rest ∙ follow_stop s ends i (rules_of s + 1) (omega arith) q)
        go (no p) (yes q) (yes r) = directory_broken s (further q (ends + size_of s i) refl ∙ follow_over s _ (ends + size_of s i) (i + 1) r)
        go (no p) (yes q) (no r) =
            absurd (broken_is s c.at ends e (record { room = omega arith; begins = begins_at_lem ∙ q; inside = omega (arith, size_at) }))

    -- one that does leads to the next entry
    module _ (to : ℕ) (next : Cursor) (e : follow_from s c.at ends ≡ Some (to, next)) where
      read : Follow-is s c.at ends to next
      read = follow_is s c.at ends to next e

      pub along_located : Located s i ends to
      along_located =
          let b = sym begins_at_lem ∙ read.follows_so.begins in
          record { from_is = sym b; to_is = omega (arith, b, read.to_is, size_at) }

      pub along_inside : to ≤ length s
      along_inside = omega (arith, read.follows_so.inside, read.to_is)

      pub along_next : Along s next to (i + 1)
      along_next =
          let n = read.next in
          let at = a.here in
          let f = a.far in
          let l = along_located in
          record {
            here = omega arith;
            inside = omega arith;
            far = omega (arith, l.from_is, l.to_is);
            rest = further (sym l.from_is) to (omega (arith, l.from_is, l.to_is));
          }

  -- the last entry of a sound directory
  pub along_last : i ≡ rules_of s → bad_directory s ≡ false → (ends ≡ offset_of s (rules_of s)) × (offset_of s (rules_of s) + size_of s (rules_of s) ≡ length s)
  along_last q e =
      let all = not-false _ (neither_right (ltb (length s) (12 + 4 * rules_of s)) _ e) in
      let both = sym (follow_next s ends i (rules_of s + 1) (omega arith)) ∙ sym a.rest ∙ all in
      let ended = sym (follow_end s (offset_of s i + size_of s i) (i + 1) (rules_of s + 1) (omega arith)) ∙ and_right (eqb (offset_of s i) ends) _ both in
      subst (λ (k : ℕ). (ends ≡ offset_of s k) × (offset_of s k + size_of s k ≡ length s)) q
      (sym (eqb-true (offset_of s i) ends (and_left (eqb (offset_of s i) ends) _ both)), eqb-true (offset_of s i + size_of s i) (length s) ended)

  -- after the last entry, the end of the last part decides
  pub along_end : rules_of s < i → eqb ends (length s) ≡ not (bad_directory s)
  along_end h = go (ℕ_discrete ends (length s))
    where
      last : parts_follow s (12 + 4 * rules_of s) 0 (rules_of s + 1) ≡ eqb ends (length s)
      last = a.rest ∙ follow_end s ends i (rules_of s + 1) (omega arith)

      go : Dec (ends ≡ length s) → eqb ends (length s) ≡ not (bad_directory s)
      go (yes e) = let f = a.far in eq-eqb ends (length s) e ∙ sym (ap not (directory_kept s (omega arith) (last ∙ eq-eqb ends (length s) e)))
      go (no n) = ne_eqb ends (length s) n ∙ sym (ap not (directory_broken s (last ∙ ne_eqb ends (length s) n)))

-- ---- the counts with the cursor after them, or cause 2
abbrev pub header_with : (atoms rules pairs zeros : ℕ) → Cursor → Result (Counts × Cursor) Refusal
header_with atoms rules pairs zeros next =
    choose (ltb 64 atoms || (ltb 96 rules || (ltb 240 pairs || not (eqb zeros 0)))) (refused Header 0)
    (Ok (record { atoms = atoms; rules = rules; pairs = pairs }, next))

-- ---- one law for each answer of the header
module _ (s : List ℕ) where
  header_long_lem : bad_length s ≡ true → refused ImageLength 0 ≡ header_of s
  unfolding header_of
  header_long_lem e = rw e refl

  pub header_short : length s < 12 → refused ImageLength 0 ≡ header_of s
  header_short h = header_long_lem (or_left _ _ (lt-ltb (length s) 12 h))

  pub header_long : 1836 < length s → refused ImageLength 0 ≡ header_of s
  header_long h = header_long_lem (or_right _ _ (lt-ltb 1836 (length s) h))

  module _ (long : 12 ≤ length s) (short : length s ≤ 1836) where
    pub length_fine : bad_length s ≡ false
    length_fine = neither (le-ltb (length s) 12 long) (le-ltb 1836 (length s) short)

    -- by the counts that are read
    pub header_fields : (atoms rules pairs zeros : ℕ) (next : Cursor) → atoms ≡ atoms_of s → rules ≡ rules_of s → pairs ≡ pair_count_of s → zeros ≡ number_at s 6 → next.at ≡ 8 → header_with atoms rules pairs zeros next ≡ header_of s
    unfolding header_of
    header_fields atoms rules pairs zeros next ea er ep ez en =
        let q : next ≡ cursor_at 8 = ap cursor_at en in
        rw (length_fine, ea, er, ep, ez, q) (go (bad_counts s))
      where
        go : (b : Bool) → choose b (refused Header 0) (Ok (header_read s)) ≡ and_then (refuse b Header 0) (Ok (header_read s))
        go true = refl
        go false = refl

    module _ (atoms rules pairs zeros : ℕ) (ea : atoms ≡ atoms_of s) (er : rules ≡ rules_of s) (ep : pairs ≡ pair_count_of s) (ez : zeros ≡ number_at s 6) where
      abbrev over : Bool
      over = ltb 64 atoms || (ltb 96 rules || (ltb 240 pairs || not (eqb zeros 0)))

      -- one of the four tests refuses the counts, or none
      pub header_bad : (64 < atoms) ⊎ ((atoms ≤ 64 × 96 < rules) ⊎ ((atoms ≤ 64 × rules ≤ 96 × 240 < pairs) ⊎ (atoms ≤ 64 × rules ≤ 96 × pairs ≤ 240 × (zeros ≡ 0 → ⊥)))) → refused Header 0 ≡ header_of s
      header_bad h =
          ap (λ (b : Bool). choose b (refused Header 0) (Ok (record { atoms = atoms; rules = rules; pairs = pairs }, cursor_at 8))) (sym (go h))
          ∙ header_fields atoms rules pairs zeros (cursor_at 8) ea er ep ez refl
        where
          go : (64 < atoms) ⊎ ((atoms ≤ 64 × 96 < rules) ⊎ ((atoms ≤ 64 × rules ≤ 96 × 240 < pairs) ⊎ (atoms ≤ 64 × rules ≤ 96 × pairs ≤ 240 × (zeros ≡ 0 → ⊥)))) → over ≡ true
          go (inl h) = or_left _ _ (lt-ltb 64 atoms h)
          go (inr (inl h)) = or_right (ltb 64 atoms) _ (or_left _ _ (lt-ltb 96 rules h.1))
          go (inr (inr (inl h))) = or_right (ltb 64 atoms) _ (or_right (ltb 96 rules) _ (or_left _ _ (lt-ltb 240 pairs h.2)))
          go (inr (inr (inr h))) = or_right (ltb 64 atoms) _ (or_right (ltb 96 rules) _ (or_right (ltb 240 pairs) _ (ap not (ne_eqb zeros 0 h.3))))

      pub header_fine : atoms ≤ 64 → rules ≤ 96 → pairs ≤ 240 → zeros ≡ 0 → (next : Cursor) → next.at ≡ 8 → Ok (record { atoms = atoms; rules = rules; pairs = pairs }, next) ≡ header_of s
      header_fine a r p z next n =
          let fine : over ≡ false = neither (le-ltb 64 atoms a) (neither (le-ltb 96 rules r) (neither (le-ltb 240 pairs p) (ap not (eq-eqb zeros 0 z)))) in
          ap (λ (b : Bool). choose b (refused Header 0) (Ok (record { atoms = atoms; rules = rules; pairs = pairs }, next))) (sym fine)
          ∙ header_fields atoms rules pairs zeros next ea er ep ez n
