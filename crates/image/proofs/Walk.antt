-- Rule by rule: what reading one hands on, and what the walk over the directory says.
use mathlib.Core.Path.{◌≡◌, refl, sym, ap, subst, ◌∙◌}
use mathlib.Core.Bool.{Bool, true, false, not}
use mathlib.Core.List.{List}
use mathlib.Core.Logic.{◌⊎◌, inl, inr}
use Prim.Native.Nat.{ℕ, suc, ◌+◌, ◌-◌, ◌*◌, ◌<◌, ◌≤◌}
use native.Mathlib.Numerals.{add-one}
use native.Mathlib.Nat.{eq-or-lt_of_le, sub-zero}
use native.Mathlib.Omega.{arith}
use lib.ListN.{length, get_or, take, length-set}
use lib.Seq.{take-length}
use borrow.Author.Tests.{not-true, not-false}
use Rattle.std.specs.Prelude.{None, Some, Result, Ok, Err}
use Rattle.layout.specs.declared.Refusal.{Refusal}
use Rattle.part.specs.declared.Rule.{Rule as PartRule}
use Rattle.lists.specs.Lists.{choose}
use Rattle.literals.specs.Inside.Words.{set_of}
use Rattle.literals.proofs.Tests.{not_true_false}
use Rattle.program.specs.Program.{strict, defeasible, Rule, next_bit, defeasibles_from, defeasibles, bit_of, rule_at}
use Rattle.program.specs.Inside.Table.{Row}
use Rattle.program.specs.Inside.Filling.{Stored, RowsTo}
use Rattle.program.proofs.Fillings.{bit_of_next, rows_more}
use Rattle.layout.specs.Layout.{atoms_of, rules_of, part_of, kind_byte}
use Rattle.layout.specs.declared.Cause.TheVariants.{Directory}
use Rattle.layout.specs.Causes.{Verdict, accepted, refused, refuse, and_then, same_bytes, bad_repeat, bad_directory, part_verdict, rule_verdict, count_kind, rules_verdict}
use Rattle.layout.specs.Reading.{rule_in}
use Rattle.layout.specs.declared.cursor.Cursor.{Cursor}
use Rattle.layout.specs.Inside.Steps.{Located, follow_from, Along}
use Rattle.part.specs.Inside.Steps.{RuleRead, PartRead}
use Rattle.layout.proofs.Directory.{along_start, along_broken, along_located, along_inside, along_next, along_last}
use Rattle.part.proofs.Bytes.{below_here}
use Rattle.image.specs.Inside.Passes.{linked_with, Repeats, RuleIs, all_rules, ReadTo, NextRead, AllRead}
use Rattle.image.proofs.EachRule.{rule_by, rules_next, rules_end, kind_counted}
use Rattle.image.proofs.Readings.{rules_length, rules_at}
use Rattle.image.proofs.Accepted.{PartSound, part_sound}
use Rattle.image.proofs.Repeated.{row_bytes, bytes_row, stands_none, stands_some, linked_more, linked_none}

-- ---- what reading a part says of rule i, by the slice it was read from
module _ (s bytes : List ℕ) (i atoms bits : ℕ) (v : Result PartRule Refusal) (p : bytes ≡ part_of s i) (a : atoms ≡ atoms_of s) (r : PartRead v bytes atoms bits i) where
  within : PartRead v (part_of s i) (atoms_of s) bits i
  within = subst (λ (n : ℕ). PartRead v (part_of s i) n bits i) a (subst (λ (l : List ℕ). PartRead v l atoms bits i) p r)

pub refused_of : (s bytes : List ℕ) (i atoms bits : ℕ) (r : Refusal) → bytes ≡ part_of s i → atoms ≡ atoms_of s → PartRead (Err r) bytes atoms bits i → rule_verdict s bits i ≡ Err r
refused_of s bytes i atoms bits r p a h = rule_by s bits i (Err r) _ (within s bytes i atoms bits (Err r) p a h) refl

-- ---- rule i of the image, where the first i are read
module _ (s : List ℕ) (i bits : ℕ) (t links : List ℕ) where
  -- what a rule that was read from its part says
  pub record Found (rule : PartRule) : Type 0 where
    pub read : RuleRead (part_of s i) (atoms_of s) bits i rule
    pub few : i < 96
    pub small : rule.head < 128
    pub room : rule.defeasible ≡ true → bits < 16
    pub is : RuleIs (rule_in (part_of s i)) rule.defeasible rule.head (set_of rule.body)
    pub repeat : (b : Bool) → Repeats b t i rule.defeasible rule.head (set_of rule.body) → bad_repeat s i ≡ b

  module _ (to : ReadTo s i bits t links) (more : i < rules_of s) (few : rules_of s ≤ 96) (rule : PartRule) where
    module _ (r : RuleRead (part_of s i) (atoms_of s) bits i rule) where
      row : (j : ℕ) → j < i → Row (rule_in (part_of s j)) (bit_of (all_rules s) j) t j
      row j h = subst (λ (q : Rule). Row q (bit_of (all_rules s) j) t j) (rules_at s (rules_of s) j (omega arith)) (to.rows.row j h)

      earlier : (j : ℕ) → j < i → PartSound (part_of s j) (atoms_of s) (bit_of (all_rules s) j)
      earlier j h = part_sound (part_of s j) (atoms_of s) _ j (to.accepts j h)

      this : PartSound (part_of s i) (atoms_of s) bits
      this = part_sound (part_of s i) (atoms_of s) bits i r.accepts

      -- cause 10 is what the table says
      repeats : (b : Bool) → Repeats b t i rule.defeasible rule.head (set_of rule.body) → bad_repeat s i ≡ b
      repeats true (j, h, q) =
          stands_some s (part_of s i) i 0 j (omega arith) (omega arith)
          (row_bytes (part_of s j) (part_of s i) (atoms_of s) _ bits (earlier j h) this t j _ rule.head (set_of rule.body) rule.defeasible (row j h) r.kind_is r.head_is r.body_is q)
      repeats false f =
          stands_none s (part_of s i) i 0 (λ j a b.
          let h : j < i = omega arith in
          not_true_false (same_bytes (part_of s j) (part_of s i)) (λ e.
          f j h (bytes_row (part_of s j) (part_of s i) (atoms_of s) _ bits (earlier j h) this t j _ rule.head (set_of rule.body) rule.defeasible (row j h) r.kind_is r.head_is r.body_is e)))

      found_here : atoms_of s ≤ 64 → Found rule
      found_here l =
          let b = below_here (2 * atoms_of s) (part_of s i) 1 (omega (arith, this.long)) this.literals in
          record {
            read = r;
            few = omega arith;
            small = omega (arith, r.head_is, b);
            room = λ e. this.room (r.kind_is ∙ e);
            is = record { kind_is = ap (λ (b : Bool). choose b defeasible strict) r.kind_is; head_is = r.head_is; body_is = r.body_is };
            repeat = repeats;
          }

    -- by the slice that the part was read from
    pub found : (bytes : List ℕ) (atoms : ℕ) → bytes ≡ part_of s i → atoms ≡ atoms_of s → atoms ≤ 64 → RuleRead bytes atoms bits i rule → Found rule
    found bytes atoms p a l r = found_here (within s bytes i atoms bits (Ok rule) p a r) (omega arith)

    -- ---- and is stored
    module _ (f : Found rule) where
      counted : (next : ℕ) → next ≡ choose rule.defeasible (bits + 1) bits → next ≡ count_kind (kind_byte (part_of s i)) bits
      counted next e = e ∙ ap (λ (n : ℕ). choose rule.defeasible n bits) (add-one bits) ∙ ap (λ (b : Bool). choose b (suc bits) bits) (sym f.read.kind_is)

      next_bit_lem : (next : ℕ) → next ≡ count_kind (kind_byte (part_of s i)) bits → next ≡ bit_of (all_rules s) (i + 1)
      next_bit_lem next e =
          e ∙ kind_counted (part_of s i) bits ∙ ap (next_bit (rule_in (part_of s i)).kind) to.bits_are
          ∙ ap (λ (q : Rule). next_bit q.kind (bit_of (all_rules s) i)) (sym (rules_at s (rules_of s) i more))
          ∙ sym (bit_of_next (all_rules s) 0 i (omega (arith, rules_length s 0 (rules_of s))))
          ∙ ap (bit_of (all_rules s)) (sym (add-one i))

      still_few : (next : ℕ) → next ≡ choose rule.defeasible (bits + 1) bits → next ≤ 16
      still_few next e = go rule.defeasible refl e
        where
          go : (b : Bool) → rule.defeasible ≡ b → next ≡ choose b (bits + 1) bits → next ≤ 16
          go true k q = omega (arith, f.room k)
          go false k q = let l = to.few in omega arith

      module _ (u : List ℕ) (next : ℕ) (b : Bool) (again : Repeats b t i rule.defeasible rule.head (set_of rule.body)) (none : b ≡ false) (same : length u ≡ length t) (is : next ≡ choose rule.defeasible (bits + 1) bits) (k : Stored (rule_in (part_of s i)) i bits t u) where
        put : Stored (rule_at (all_rules s) i) i (bit_of (all_rules s) i) t u
        put = subst (λ (b : ℕ). Stored (rule_at (all_rules s) i) i b t u) to.bits_are (subst (λ (q : Rule). Stored q i bits t u) (sym (rules_at s (rules_of s) i more)) k)

        accepted_so : (j : ℕ) → (j ≡ i) ⊎ (j < i) → part_verdict (part_of s j) (atoms_of s) (bit_of (all_rules s) j) j ≡ accepted
        accepted_so j (inl e) =
            subst (λ (n : ℕ). part_verdict (part_of s n) (atoms_of s) (bit_of (all_rules s) n) n ≡ accepted) (sym e)
            (ap (λ (b : ℕ). part_verdict (part_of s i) (atoms_of s) b i) (sym to.bits_are) ∙ f.read.accepts)
        accepted_so j (inr h) = to.accepts j h

        pub next_read : (after : List ℕ) → after ≡ linked_with links rule.head i → NextRead s i bits next u after
        next_read after e = subst (NextRead s i bits next u) (sym e) (record {
          accepts = rule_by s bits i accepted false f.read.accepts (f.repeat b again ∙ none);
          counted = counted next is;
          read = record {
            long = same ∙ to.long;
            links_long = simp length-set to.links_long;
            bits_are = next_bit_lem next (counted next is);
            few = still_few next is;
            accepts = λ j h. accepted_so j (eq-or-lt_of_le {n = j} {m = i} (omega arith));
            rows = subst (λ (n : ℕ). RowsTo (all_rules s) n u) (sym (add-one i)) (rows_more (all_rules s) i t u (omega arith) (omega (arith, to.bits_are, to.few)) to.rows put);
            linked = linked_more t u links i rule.head bits (rule_in (part_of s i)) to.linked to.links_long f.small f.few k (sym f.read.head_is);
          };
        })

-- ---- the walk over directory and rules
pub record Walk (s : List ℕ) (cursor : Cursor) (ends bits i : ℕ) (t links : List ℕ) : Type 0 where
  pub along : Along s cursor ends i
  pub inside : i ≤ rules_of s
  pub verdict : rules_verdict s 0 0 (rules_of s) ≡ rules_verdict s bits i (rules_of s - i)
  pub read : ReadTo s i bits t links

pub walk_start : (s : List ℕ) (cursor : Cursor) (ends : ℕ) (t links : List ℕ) → cursor.at ≡ 8 → ends ≡ 12 + 4 * rules_of s → length t ≡ 419 → length links ≡ 224 → ((k : ℕ) → k < 224 → get_or links k 0 ≡ 0) → Walk s cursor ends 0 0 t links
unfolding defeasibles_from
walk_start s cursor ends t links at e long links_long none = record {
  along = along_start s cursor ends at e;
  inside = omega arith;
  verdict = rw sub-zero refl;
  read = record {
    long = long;
    links_long = links_long;
    bits_are = refl;
    few = omega arith;
    accepts = λ j h. absurd (omega arith);
    rows = record { row = λ j h. absurd (omega arith); rule_of = λ j h d. absurd (omega arith) };
    linked = linked_none t links none;
  };
}

-- cause 3 before those of the rules
module _ (s : List ℕ) where
  abbrev with_three : Verdict
  with_three = and_then (refuse (bad_directory s) Directory 0) (rules_verdict s 0 0 (rules_of s))

  pub rules_broken : bad_directory s ≡ true → with_three ≡ refused Directory 0
  rules_broken e = rw e refl

  pub rules_refused : (r : Refusal) → bad_directory s ≡ false → rules_verdict s 0 0 (rules_of s) ≡ Err r → with_three ≡ Err r
  rules_refused r e f = rw (e, f) refl

-- what the rest of the directory says
pub directory_fine : (s : List ℕ) (r : Bool) → r ≡ not (bad_directory s) → r ≡ true → bad_directory s ≡ false
directory_fine s r e q = not-true (bad_directory s) (sym e ∙ q)

pub directory_bad : (s : List ℕ) (r : Bool) → r ≡ not (bad_directory s) → r ≡ false → bad_directory s ≡ true
directory_bad s r e q = not-false (bad_directory s) (sym e ∙ q)

module _ (s : List ℕ) (cursor : Cursor) (ends bits i : ℕ) (t links : List ℕ) (w : Walk s cursor ends bits i t links) where
  module _ (more : i < rules_of s) where
    pub walk_broken : follow_from s cursor.at ends ≡ None → bad_directory s ≡ true
    walk_broken = along_broken s cursor ends i w.along (omega arith)

    pub walk_refused : (r : Refusal) → rule_verdict s bits i ≡ Err r → rules_verdict s 0 0 (rules_of s) ≡ Err r
    walk_refused r v = w.verdict ∙ rules_next s bits i (rules_of s) more (Err r) v

    module _ (to : ℕ) (next : Cursor) (e : follow_from s cursor.at ends ≡ Some (to, next)) where
      pub walk_part : Located s i ends to
      walk_part = along_located s cursor ends i w.along (omega arith) to next e

      pub walk_inside : to ≤ length s
      walk_inside = along_inside s cursor ends i w.along (omega arith) to next e

      pub walk_along : Along s next to (i + 1)
      walk_along = along_next s cursor ends i w.along (omega arith) to next e

      pub walk_next : (many : ℕ) (u after : List ℕ) → NextRead s i bits many u after → Walk s next to many (i + 1) u after
      walk_next many u after r = record {
        along = walk_along;
        inside = omega arith;
        verdict = w.verdict ∙ rules_next s bits i (rules_of s) more accepted r.accepts
            ∙ ap (λ (n : ℕ). rules_verdict s n (i + 1) (rules_of s - (i + 1))) (sym r.counted);
        read = r.read;
      }

  pub walk_done : i ≡ rules_of s → bad_directory s ≡ false → AllRead s t bits ends
  walk_done e fine =
      let r = w.read in
      let l = along_last s cursor ends i w.along e fine in
      record {
        directory = fine;
        accepts = w.verdict ∙ rules_end s bits i (rules_of s) (omega arith);
        from_is = l.0;
        ends = l.1;
        long = r.long;
        bits_are = r.bits_are ∙ ap (bit_of (all_rules s)) e ∙ ap defeasibles (ap (λ (k : ℕ). take k (all_rules s)) (sym (rules_length s 0 (rules_of s))) ∙ take-length (all_rules s));
        few = r.few;
        rows = subst (λ (n : ℕ). RowsTo (all_rules s) n t) e r.rows;
      }
