-- Causes 4 to 9 of a part: once the tests are known, the first that applies is computed. One law for each answer of its reader.
use mathlib.Core.Path.{◌≡◌, refl, sym, ap, ◌∙◌}
use mathlib.Core.Bool.{Bool, true, false, not, ◌||◌}
use mathlib.Core.List.{List}
use mathlib.Core.Logic.{◌⊎◌, inl, inr}
use Prim.Native.Nat.{ℕ, ◌*◌, ◌<◌, ◌≤◌}
use native.Mathlib.Omega.{arith}
use lib.ListN.{length, drop}
use lib.Dec.{ltb, eqb}
use borrow.Author.Tests.{lt-ltb, le-ltb, le-leb, lt-leb, eq-eqb, ne_eqb}
use Rattle.literals.specs.declared.LiteralSet.{LiteralSet}
use Rattle.literals.proofs.Tests.{or_left, or_right}
use Rattle.std.specs.Prelude.{Ok, Err}
use Rattle.layout.specs.declared.Refusal.{Refusal}
use Rattle.layout.specs.declared.Cause.TheVariants.{RuleLength, RuleKind, LiteralRange, BodyOrder, DefeasibleWithoutBody, TooManyDefeasible}
use Rattle.layout.specs.Layout.{kind_byte, head_byte, body_bytes}
use Rattle.layout.specs.Causes.{Verdict, refused, refuse, and_then, all_below, bad_size, bad_kind, bad_literal, bad_body, bad_empty, bad_seventeenth, part_verdict}
use Rattle.part.specs.Inside.Steps.{BodyRead, RuleRead}
use Rattle.part.proofs.Bytes.{below_step, below_stop}

-- the causes of one place, by their tests
abbrev part_causes : ℕ → (four five six seven eight nine : Bool) → Verdict
part_causes place four five six seven eight nine =
    and_then (refuse four RuleLength place)
    (and_then (refuse five RuleKind place)
    (and_then (refuse six LiteralRange place)
    (and_then (refuse seven BodyOrder place)
    (and_then (refuse eight DefeasibleWithoutBody place) (refuse nine TooManyDefeasible place)))))

module _ (part : List ℕ) (atoms before place : ℕ) where
  abbrev result : Verdict
  result = part_verdict part atoms before place

  pub by_tests : (four five six seven eight nine : Bool) → bad_size part ≡ four → bad_kind part ≡ five → bad_literal atoms part ≡ six → bad_body part ≡ seven → bad_empty part ≡ eight → bad_seventeenth before part ≡ nine → result ≡ part_causes place four five six seven eight nine
  unfolding part_verdict
  by_tests b4 b5 b6 b7 b8 b9 e4 e5 e6 e7 e8 e9 = rw (e4, e5, e6, e7, e8, e9) refl

  -- each law has what the answers before it have ruled out
  pub part_short : length part < 2 → result ≡ refused RuleLength place
  part_short h = by_tests true _ _ _ _ _ (or_left _ _ (lt-ltb (length part) 2 h)) refl refl refl refl refl

  pub part_long : 10 < length part → result ≡ refused RuleLength place
  part_long h = by_tests true _ _ _ _ _ (or_right (ltb (length part) 2) _ (lt-ltb 10 (length part) h)) refl refl refl refl refl

  module _ (long : 2 ≤ length part) (short : length part ≤ 10) where
    sized : bad_size part ≡ false
    sized = ap (λ (b : Bool). b || ltb 10 (length part)) (le-ltb (length part) 2 long) ∙ le-ltb 10 (length part) short

    pub part_kind : 1 < kind_byte part → result ≡ refused RuleKind place
    part_kind h = by_tests false true _ _ _ _ sized (lt-ltb 1 (kind_byte part) h) refl refl refl refl

    module _ (kind : kind_byte part ≤ 1) where
      part_literal : all_below (2 * atoms) (drop 1 part) ≡ false → result ≡ refused LiteralRange place
      part_literal h = by_tests false false true _ _ _ sized (le-ltb 1 (kind_byte part) kind) (ap not h) refl refl refl

      pub part_head : 2 * atoms ≤ head_byte part → result ≡ refused LiteralRange place
      part_head h = part_literal (below_stop (2 * atoms) part 1 (omega arith) h)

      module _ (head : head_byte part < 2 * atoms) where
        cut : all_below (2 * atoms) (drop 1 part) ≡ all_below (2 * atoms) (body_bytes part)
        cut = below_step (2 * atoms) part 1 (omega arith) head

        from_seven : (seven eight nine : Bool) → all_below (2 * atoms) (body_bytes part) ≡ true → bad_body part ≡ seven → bad_empty part ≡ eight → bad_seventeenth before part ≡ nine → result ≡ part_causes place false false false seven eight nine
        from_seven b7 b8 b9 literals = by_tests false false false b7 b8 b9 sized (le-ltb 1 (kind_byte part) kind) (ap not (cut ∙ literals))

        pub part_body : (r : Refusal) → BodyRead (Err r) (body_bytes part) (2 * atoms) place → result ≡ Err r
        part_body r (inl (literals, is)) = rw is (part_literal (cut ∙ literals))
        part_body r (inr (literals, order, is)) = rw is (from_seven true _ _ literals (ap not order) refl refl)

        module _ (set : LiteralSet) (read : BodyRead (Ok set) (body_bytes part) (2 * atoms) place) (h : ℕ) (same : h ≡ head_byte part) (k : ℕ) (is : k ≡ kind_byte part) where
          from_eight : (eight nine : Bool) → bad_empty part ≡ eight → bad_seventeenth before part ≡ nine → result ≡ part_causes place false false false false eight nine
          from_eight b8 b9 = from_seven false b8 b9 read.0 (ap not read.1)

          pub part_empty : k ≡ 1 → length part ≡ 2 → result ≡ refused DefeasibleWithoutBody place
          part_empty one e = from_eight true _ (rw (← is, eq-eqb k 1 one) (eq-eqb (length part) 2 e)) refl

          module _ (more : (k ≡ 1 × (length part ≡ 2 → ⊥)) ⊎ (k ≡ 1 → ⊥)) where
            from_nine : (nine : Bool) → bad_seventeenth before part ≡ nine → result ≡ part_causes place false false false false false nine
            from_nine b9 = from_eight false b9 (go more)
              where
                go : (k ≡ 1 × (length part ≡ 2 → ⊥)) ⊎ (k ≡ 1 → ⊥) → bad_empty part ≡ false
                go (inl m) = rw (← is, eq-eqb k 1 m.0) (ne_eqb (length part) 2 m.1)
                go (inr n) = rw (← is, ne_eqb k 1 n) refl

            pub part_seventeenth : k ≡ 1 → 16 ≤ before → result ≡ refused TooManyDefeasible place
            part_seventeenth one e = from_nine true (rw (← is, eq-eqb k 1 one) (le-leb 16 before e))

            pub rule_read : (k ≡ 1 × before < 16) ⊎ (k ≡ 1 → ⊥) → RuleRead part atoms before place (record { defeasible = eqb k 1; head = h; body = set })
            rule_read few = record { accepts = from_nine false (go few); kind_is = ap (λ (n : ℕ). eqb n 1) (sym is); head_is = same; body_is = read.2 }
              where
                go : (k ≡ 1 × before < 16) ⊎ (k ≡ 1 → ⊥) → bad_seventeenth before part ≡ false
                go (inl m) = rw (← is, eq-eqb k 1 m.0) (lt-leb 16 before m.1)
                go (inr n) = rw (← is, ne_eqb k 1 n) refl

        -- of a strict rule nothing more is asked
        pub strict_read : kind_byte part ≡ 0 → (set : LiteralSet) → BodyRead (Ok set) (body_bytes part) (2 * atoms) place → (h : ℕ) → h ≡ head_byte part → RuleRead part atoms before place (record { defeasible = false; head = h; body = set })
        strict_read z set read h same = rule_read set read h same 0 (sym z) (inr not_one) (inr not_one)
          where
            not_one : ◌≡◌ {A = ℕ} 0 1 → ⊥
            not_one e = omega (arith, e)
