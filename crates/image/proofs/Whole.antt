-- The whole verdict, from the header on.
use mathlib.Core.Path.{◌≡◌, refl, sym, ap, ◌∙◌}
use mathlib.Core.Bool.{Bool, true, false}
use mathlib.Core.List.{List}
use Prim.Native.Nat.{ℕ, ◌≤◌}
use native.Mathlib.Omega.{arith}
use lib.Dec.{ltb}
use borrow.Author.Tests.{ltb-false}
use Rattle.layout.specs.declared.cursor.Cursor.{Cursor}
use Rattle.layout.specs.declared.header.Counts.{Counts}
use Rattle.std.specs.Prelude.{Result, Ok, Err}
use Rattle.layout.specs.declared.Refusal.{Refusal}
use Rattle.layout.specs.Layout.{atoms_of, rules_of, pair_count_of}
use Rattle.layout.specs.declared.Cause.TheVariants.{ImageLength, Header, Directory, LastPartLength}
use Rattle.layout.specs.Causes.{Verdict, accepted, refuse, and_then, bad_length, bad_counts, bad_directory, rules_verdict, bad_pairs, pairs_verdict, verdict}
use Rattle.layout.specs.Inside.Steps.{cursor_at, header_read, header_of}
use Rattle.layout.proofs.Directory.{neither_left, neither_right}

-- what the header says where it is read
pub record Known (s : List ℕ) (c : Counts) (next : Cursor) : Type 0 where
  pub atoms_are : c.atoms ≡ atoms_of s
  pub rules_are : c.rules ≡ rules_of s
  pub pairs_are : c.pairs ≡ pair_count_of s
  pub few_atoms : c.atoms ≤ 64
  pub few_rules : c.rules ≤ 96
  pub few_pairs : c.pairs ≤ 240
  pub here : next.at ≡ 8
  pub length_fine : bad_length s ≡ false
  pub counts_fine : bad_counts s ≡ false

-- what follows the header
abbrev rest : (three : Bool) → Verdict → Verdict → Verdict
rest three rules pairs = and_then (refuse three Directory 0) (and_then rules pairs)

module _ (s : List ℕ) where
  by_header : (one two : Bool) → bad_length s ≡ one → bad_counts s ≡ two → verdict s ≡ and_then (refuse one ImageLength 0) (and_then (refuse two Header 0) (rest (bad_directory s) (rules_verdict s 0 0 (rules_of s)) (and_then (refuse (bad_pairs s) LastPartLength 0) (pairs_verdict s 0 (pair_count_of s)))))
  unfolding verdict
  by_header one two e f = rw (e, f) refl

  pub header_refuses : (r : Refusal) → header_of s ≡ Err r → verdict s ≡ Err r
  unfolding header_of
  header_refuses r e = go (bad_length s) (bad_counts s) refl refl e
    where
      same : (q : Refusal) → ◌≡◌ {A = Result (Counts × Cursor) Refusal} (Err q) (Err r) → ◌≡◌ {A = Verdict} (Err q) (Err r)
      same q e = let x : q ≡ r = cc in rw x refl

      go : (one two : Bool) → bad_length s ≡ one → bad_counts s ≡ two → and_then (refuse one ImageLength 0) (and_then (refuse two Header 0) (Ok (header_read s))) ≡ Err r → verdict s ≡ Err r
      go true two a b q = by_header true two a b ∙ same _ q
      go false true a b q = by_header false true a b ∙ same _ q
      go false false a b q = cc

  pub header_known : (c : Counts) (next : Cursor) → header_of s ≡ Ok (c, next) → Known s c next
  unfolding header_of
  header_known c next e = go (bad_length s) (bad_counts s) refl refl e
    where
      known : (c : Counts) (next : Cursor) → record { atoms = atoms_of s; rules = rules_of s; pairs = pair_count_of s } ≡ c → cursor_at 8 ≡ next → bad_length s ≡ false → bad_counts s ≡ false → Known s c next
      known c next p q a b =
          let x : c.atoms ≡ atoms_of s = sym (ap (λ (k : Counts). k.atoms) p) in
          let y : c.rules ≡ rules_of s = sym (ap (λ (k : Counts). k.rules) p) in
          let z : c.pairs ≡ pair_count_of s = sym (ap (λ (k : Counts). k.pairs) p) in
          let f = ltb-false 64 (atoms_of s) (neither_left (ltb 64 (atoms_of s)) _ b) in
          let more = neither_right (ltb 64 (atoms_of s)) _ b in
          let g = ltb-false 96 (rules_of s) (neither_left (ltb 96 (rules_of s)) _ more) in
          let h = ltb-false 240 (pair_count_of s) (neither_left (ltb 240 (pair_count_of s)) _ (neither_right (ltb 96 (rules_of s)) _ more)) in
          record {
            atoms_are = x;
            rules_are = y;
            pairs_are = z;
            few_atoms = omega arith;
            few_rules = omega arith;
            few_pairs = omega arith;
            here = sym (ap (λ (k : Cursor). k.at) q);
            length_fine = a;
            counts_fine = b;
          }

      go : (one two : Bool) → bad_length s ≡ one → bad_counts s ≡ two → and_then (refuse one ImageLength 0) (and_then (refuse two Header 0) (Ok (header_read s))) ≡ Ok (c, next) → Known s c next
      go true two a b q = cc
      go false true a b q = cc
      go false false a b q = let k : header_read s ≡ (c, next) = cc in known c next (ap (λ (h : Counts × Cursor). h.0) k) (ap (λ (h : Counts × Cursor). h.1) k) a b

  -- after a header that is read: 3 and the rules, then 11 and the pairs
  module _ (c : Counts) (next : Cursor) (k : Known s c next) where
    whole : verdict s ≡ rest (bad_directory s) (rules_verdict s 0 0 (rules_of s)) (and_then (refuse (bad_pairs s) LastPartLength 0) (pairs_verdict s 0 (pair_count_of s)))
    whole = by_header false false k.length_fine k.counts_fine

    pub rules_refuse : (r : Refusal) → and_then (refuse (bad_directory s) Directory 0) (rules_verdict s 0 0 (rules_of s)) ≡ Err r → verdict s ≡ Err r
    rules_refuse r e = whole ∙ cut (bad_directory s) (rules_verdict s 0 0 (rules_of s)) _ e
      where
        cut : (b : Bool) (v w : Verdict) → and_then (refuse b Directory 0) v ≡ Err r → and_then (refuse b Directory 0) (and_then v w) ≡ Err r
        cut true v w q = q
        cut false (Ok a) w q = cc
        cut false (Err m) w q = q

    pub rules_accept : bad_directory s ≡ false → rules_verdict s 0 0 (rules_of s) ≡ accepted → verdict s ≡ and_then (refuse (bad_pairs s) LastPartLength 0) (pairs_verdict s 0 (pair_count_of s))
    rules_accept e f =
        whole
        ∙ ap (λ (b : Bool). rest b (rules_verdict s 0 0 (rules_of s)) (and_then (refuse (bad_pairs s) LastPartLength 0) (pairs_verdict s 0 (pair_count_of s)))) e
        ∙ ap (λ (v : Verdict). rest false v (and_then (refuse (bad_pairs s) LastPartLength 0) (pairs_verdict s 0 (pair_count_of s)))) f
