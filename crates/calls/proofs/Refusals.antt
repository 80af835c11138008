-- A call is accepted where no cause applies, else refused by the first that does, in document 01's order; and what an
-- accepted call fits.
use mathlib.Core.Path.{◌≡◌, refl, sym, ap, ◌∙◌, subst₂}
use mathlib.Core.Bool.{Bool, true, false, false≢true}
use mathlib.Core.List.{List}
use mathlib.Core.Logic.{◌↔◌, inl, inr, ⊎_elim}
use Prim.Native.Nat.{ℕ, zero, suc, ◌≤◌, ◌<◌}
use native.Mathlib.Omega.{arith}
use lib.ListN.{length}
use lib.Dec.{T, ltb, leb, leb→le, le→leb, ltb→lt, lt→ltb, nltb→le, nleb→lt}
use Rattle.lists.proofs.Lists.{T_true}
use Rattle.literals.proofs.Tests.{true_T, not_true_false}
use Rattle.program.specs.Program.{Π}
use Rattle.calls.specs.Verdicts.{Verdict, Accepted, Refused}
use Rattle.layout.specs.Layout.{atoms_of, rules_of, pair_count_of, part_of}
use Rattle.layout.specs.Causes.{bad_length, bad_counts, bad_directory, bad_size, bad_kind, bad_literal}
use Rattle.layout.specs.declared.Cause.TheVariants as causes_of
use Rattle.layout.specs.Causes as images
use Rattle.calls.specs.Verdicts.{told, refuse, and_then}
use Rattle.layout.specs.Causes.{bad_body, bad_empty}
use Rattle.layout.specs.Causes.{bad_seventeenth, bad_repeat, bad_pairs, bad_pair, bad_order}
use Rattle.layout.specs.Causes.{part_verdict, rule_verdict, rules_verdict, pair_verdict, pairs_verdict, verdict}
use Rattle.layout.specs.Reading.{program_in}
use Rattle.layout.proofs.Directory.{neither_left, neither_right}
use Rattle.image.proofs.Accepted.{accepted_limits}
use Rattle.derivation.specs.Derivation.{Contradictory, HeadsBelow}
use Rattle.derivation.proofs.Tables.{limits_heads}
use Rattle.derivation.specs.Closure.{contradictory}
use Rattle.derivation.proofs.Contradictions.{contradictory_sound, contradictory_complete}
use Rattle.derivation.proofs.Choices.{Π_with_rules}
use Rattle.argument.specs.Argument.{ArgumentList}
use Rattle.argument.proofs.Lists.{list_is, list_published}
use Rattle.calls.specs.Calls.{check_image, list_in, list_verdict, query_verdict, Asked, Call, asked, verdict_of}
use Rattle.calls.specs.Causes.{OfRule, OfPair, InTurn, Earlier, by_number, Judged, RuleCause, PairCause, ImageCause}
use Rattle.calls.specs.Causes.{ListCause, QueryCause, defeasible_before}
use Rattle.calls.specs.Causes as causes
use Rattle.calls.proofs.Verdicts.{Causes, Either, Only, only_to, judged_one, judged_then, judged_same, Spans, only_spans}
use Rattle.calls.proofs.Verdicts.{either_spans, Cut, late_cut, Turn, turn_one, turn_then, Of, From, from_none, from_judged}
use Rattle.calls.proofs.Verdicts.{Sited, judged_once, told_accepted, told_one, told_judged}

-- ---- what is accepted

pub then_accepted : (a v : Verdict) → and_then a v ≡ Accepted → (a ≡ Accepted) × (v ≡ Accepted)
then_accepted Accepted v e = (refl, e)
then_accepted (Refused n place) v e = absurd (let z : ◌≡◌ {A = ℕ} 0 1 = cc in omega arith)

refuse_accepted : (b : Bool) (n place : ℕ) → refuse b n place ≡ Accepted → b ≡ false
refuse_accepted true n place e = absurd (let z : ◌≡◌ {A = ℕ} 0 1 = cc in omega arith)
refuse_accepted false n place e = refl

pub not_refused : {v : Verdict} {n place : ℕ} → v ≡ Accepted → v ≡ Refused n place → ⊥
not_refused e f = let z : ◌≡◌ {A = ℕ} 0 1 = cc in omega arith

within_of : (m n : ℕ) → ltb m n ≡ false → n ≤ m
within_of m n e = nltb→le m n (rw e tt)

pub check_accepted : (s : List ℕ) → check_image s ≡ Accepted
    → (verdict s ≡ images.accepted) × (contradictory (Π (program_in s).rules) ≡ false)
unfolding check_image
check_accepted s e =
    let k = then_accepted _ _ e in
    (told_accepted (verdict s) k.0, refuse_accepted (contradictory (Π (program_in s).rules)) 14 0 k.1)

pub check_passes : (s : List ℕ) → verdict s ≡ images.accepted → contradictory (Π (program_in s).rules) ≡ false
    → check_image s ≡ Accepted
unfolding check_image
check_passes s e c = rw (e, c)

pub list_accepted : (s : List ℕ) (room : ℕ) → list_verdict s room ≡ Accepted
    → (check_image s ≡ Accepted) × (length (list_in s) ≤ room)
unfolding list_verdict
list_accepted s room e =
    let k = then_accepted _ _ e in
    (k.0, within_of room (length (list_in s)) (refuse_accepted (ltb room (length (list_in s))) 23 0 k.1))

pub record Fits (s : List ℕ) (h b al nl : ℕ) : Type 0 where
  pub checked : check_image s ≡ Accepted
  pub literal_below : h < 128
  pub budget_limit : b ≤ 4096
  pub node_room_lem : b ≤ nl
  pub argument_room_lem : length (list_in s) ≤ al

pub query_accepted : (s : List ℕ) (h b al nl : ℕ) → query_verdict s h b al nl ≡ Accepted → Fits s h b al nl
unfolding query_verdict
query_accepted s h b al nl e =
    let k = then_accepted _ _ e in
    let k20 = then_accepted _ _ k.1 in
    let k21 = then_accepted _ _ k20.1 in
    let k22 = then_accepted _ _ k21.1 in
    record {
      checked = k.0;
      literal_below = nleb→lt 128 h (rw (refuse_accepted (leb 128 h) 20 0 k20.0) tt);
      budget_limit = within_of 4096 b (refuse_accepted (ltb 4096 b) 21 0 k21.0);
      node_room_lem = within_of nl b (refuse_accepted (ltb nl b) 22 0 k22.0);
      argument_room_lem = within_of al (length (list_in s)) (refuse_accepted (ltb al (length (list_in s))) 23 0 k22.1);
    }

-- the program of an accepted image has heads below 128
module _ (s : List ℕ) where
  pub read_heads : verdict s ≡ images.accepted → HeadsBelow 128 (program_in s).rules
  read_heads e = limits_heads (accepted_limits s e)

  pub checked_heads : check_image s ≡ Accepted → HeadsBelow 128 (program_in s).rules
  checked_heads e = read_heads (check_accepted s e).0

  strict_heads : verdict s ≡ images.accepted → HeadsBelow 128 (Π (program_in s).rules)
  strict_heads e r i = read_heads e r (Π_with_rules (program_in s).rules (λ _. false) r i)

  -- 14: "Π contradictory", as published
  pub check_coherent : (check_image s ≡ Accepted) ↔ ((verdict s ≡ images.accepted) × (¬ Contradictory (Π (program_in s).rules)))
  check_coherent = (
    λ e.
        let k = check_accepted s e in
        (k.0, λ c. false≢true (sym k.1 ∙ contradictory_complete (Π (program_in s).rules) (strict_heads k.0) c)),
    λ r.
        check_passes s r.0
        (not_true_false (contradictory (Π (program_in s).rules)) (λ e. r.1 (contradictory_sound (Π (program_in s).rules) e))),
  )

-- ---- 4 to 10 of a rule, 12 and 13 of a pair

module _ (s : List ℕ) where
  rule_number : {i n : ℕ} → RuleCause s i n → OfRule n
  rule_number (causes.part_size t) = (omega arith, omega arith)
  rule_number (causes.kind t) = (omega arith, omega arith)
  rule_number (causes.literal_range t) = (omega arith, omega arith)
  rule_number (causes.body_order t) = (omega arith, omega arith)
  rule_number (causes.no_body t) = (omega arith, omega arith)
  rule_number (causes.seventeenth t) = (omega arith, omega arith)
  rule_number (causes.repeated t) = (omega arith, omega arith)

  pair_number : {j n : ℕ} → PairCause s j n → OfPair n
  pair_number (causes.names t) = (omega arith, omega arith)
  pair_number (causes.order t) = (omega arith, omega arith)

  rule_turn : (i j m n : ℕ) → RuleCause s i m → RuleCause s j n → InTurn m n
  rule_turn i j m n x y = inl (rule_number x, rule_number y)

  pair_turn : (i j m n : ℕ) → PairCause s i m → PairCause s j n → InTurn m n
  pair_turn i j m n x y = inr (pair_number x, pair_number y)

  abbrev OfOneRule : ℕ → Causes
  OfOneRule = Of (RuleCause s) rule_turn

  abbrev OfRules : ℕ → ℕ → Causes
  OfRules = From (RuleCause s) rule_turn

  abbrev OfOnePair : ℕ → Causes
  OfOnePair = Of (PairCause s) pair_turn

  abbrev OfPairs : ℕ → ℕ → Causes
  OfPairs = From (PairCause s) pair_turn

  module _ (i : ℕ) where
    abbrev part : List ℕ
    part = part_of s i

    -- as the code looks for them: 4 to 9 in the part, then 10
    abbrev Looked : Causes
    Looked =
        Either (Either (Only (bad_size part) 4 i) (Either (Only (bad_kind part) 5 i)
        (Either (Only (bad_literal (atoms_of s) part) 6 i) (Either (Only (bad_body part) 7 i)
        (Either (Only (bad_empty part) 8 i) (Only (bad_seventeenth (defeasible_before s i) part) 9 i))))))
        (Only (bad_repeat s i) 10 i)

    looked : Turn i 3 10 Looked (rule_verdict s (defeasible_before s i) i)
    unfolding rule_verdict part_verdict
    looked =
        turn_then 3 9 10 (omega arith) (omega arith)
        (turn_then 3 4 9 (omega arith) (omega arith) (turn_one (bad_size part) causes_of.RuleLength i 3 4 (omega arith) (omega arith))
        (turn_then 4 5 9 (omega arith) (omega arith) (turn_one (bad_kind part) causes_of.RuleKind i 4 5 (omega arith) (omega arith))
        (turn_then 5 6 9 (omega arith) (omega arith) (turn_one (bad_literal (atoms_of s) part) causes_of.LiteralRange i 5 6 (omega arith) (omega arith))
        (turn_then 6 7 9 (omega arith) (omega arith) (turn_one (bad_body part) causes_of.BodyOrder i 6 7 (omega arith) (omega arith))
        (turn_then 7 8 9 (omega arith) (omega arith) (turn_one (bad_empty part) causes_of.DefeasibleWithoutBody i 7 8 (omega arith) (omega arith))
        (turn_one (bad_seventeenth (defeasible_before s i) part) causes_of.TooManyDefeasible i 8 9 (omega arith) (omega arith)))))))
        (turn_one (bad_repeat s i) causes_of.RepeatedRule i 9 10 (omega arith) (omega arith))

    looked_of : (n p : ℕ) → Looked n p → OfOneRule i n p
    looked_of n p =
        ⊎_elim
        (⊎_elim (only_to (OfOneRule i) (bad_size part) 4 i (λ t. (refl, causes.part_size t)) n p)
        (⊎_elim (only_to (OfOneRule i) (bad_kind part) 5 i (λ t. (refl, causes.kind t)) n p)
        (⊎_elim (only_to (OfOneRule i) (bad_literal (atoms_of s) part) 6 i (λ t. (refl, causes.literal_range t)) n p)
        (⊎_elim (only_to (OfOneRule i) (bad_body part) 7 i (λ t. (refl, causes.body_order t)) n p)
        (⊎_elim (only_to (OfOneRule i) (bad_empty part) 8 i (λ t. (refl, causes.no_body t)) n p)
        (only_to (OfOneRule i) (bad_seventeenth (defeasible_before s i) part) 9 i (λ t. (refl, causes.seventeenth t)) n p))))))
        (only_to (OfOneRule i) (bad_repeat s i) 10 i (λ t. (refl, causes.repeated t)) n p)

    of_looked : (n p : ℕ) → OfOneRule i n p → Looked n p
    of_looked n p (e, c) = go c
      where
        go : {m : ℕ} → RuleCause s i m → Looked m p
        go (causes.part_size t) = inl (inl (refl, e, t))
        go (causes.kind t) = inl (inr (inl (refl, e, t)))
        go (causes.literal_range t) = inl (inr (inr (inl (refl, e, t))))
        go (causes.body_order t) = inl (inr (inr (inr (inl (refl, e, t)))))
        go (causes.no_body t) = inl (inr (inr (inr (inr (inl (refl, e, t))))))
        go (causes.seventeenth t) = inl (inr (inr (inr (inr (inr (refl, e, t))))))
        go (causes.repeated t) = inr (refl, e, t)

    rule_judged : Judged (OfOneRule i) (told (rule_verdict s (defeasible_before s i) i))
    rule_judged = judged_same looked_of of_looked looked.judged

    abbrev Paired : Causes
    Paired = Either (Only (bad_pair s i) 12 i) (Only (bad_order s i) 13 i)

    paired_of : (n p : ℕ) → Paired n p → OfOnePair i n p
    paired_of n p =
        ⊎_elim (only_to (OfOnePair i) (bad_pair s i) 12 i (λ t. (refl, causes.names t)) n p)
        (only_to (OfOnePair i) (bad_order s i) 13 i (λ t. (refl, causes.order t)) n p)

    of_paired : (n p : ℕ) → OfOnePair i n p → Paired n p
    of_paired n p (e, c) = go c
      where
        go : {m : ℕ} → PairCause s i m → Paired m p
        go (causes.names t) = inl (refl, e, t)
        go (causes.order t) = inr (refl, e, t)

    pair_judged : Judged (OfOnePair i) (told (pair_verdict s i))
    unfolding pair_verdict
    pair_judged =
        judged_same paired_of of_paired
        (turn_then 11 12 13 (omega arith) (omega arith) (turn_one (bad_pair s i) causes_of.PairNames i 11 12 (omega arith) (omega arith))
        (turn_one (bad_order s i) causes_of.PairOrder i 12 13 (omega arith) (omega arith))).judged

  rules_judged : (i n : ℕ) → Judged (OfRules i n) (told (rules_verdict s (defeasible_before s i) i n))
  unfolding rules_verdict defeasible_before
  rules_judged i zero = from_none (RuleCause s) rule_turn i
  rules_judged i (suc n) = from_judged (RuleCause s) rule_turn i n _ _ (rule_judged i) (rules_judged (suc i) n)

  pairs_judged : (j n : ℕ) → Judged (OfPairs j n) (told (pairs_verdict s j n))
  unfolding pairs_verdict
  pairs_judged j zero = from_none (PairCause s) pair_turn j
  pairs_judged j (suc n) = from_judged (PairCause s) pair_turn j n _ _ (pair_judged j) (pairs_judged (suc j) n)

  -- ---- the reading of an image: 1 to 13

  abbrev Last : Causes
  Last = Either (Only (bad_pairs s) 11 0) (OfPairs 0 (pair_count_of s))

  abbrev Rules : Causes
  Rules = Either (OfRules 0 (rules_of s)) Last

  abbrev Parts : Causes
  Parts = Either (Only (bad_directory s) 3 0) Rules

  abbrev Header : Causes
  Header = Either (Only (bad_counts s) 2 0) Parts

  abbrev Read : Causes
  Read = Either (Only (bad_length s) 1 0) Header

  pairs_span : Spans (OfPairs 0 (pair_count_of s)) 11 13
  pairs_span n p (h, l, c) = let k = pair_number c in let a = k.0 in (omega arith, k.1)

  rules_span : Spans (OfRules 0 (rules_of s)) 3 10
  rules_span n p (h, l, c) = let k = rule_number c in let a = k.0 in (omega arith, k.1)

  last_span : Spans Last 10 13
  last_span =
      either_spans 10 11 13 (omega arith) (omega arith)
      (only_spans (bad_pairs s) 11 0 10 11 (omega arith) (omega arith)) pairs_span

  all_span : Spans Rules 3 13
  all_span = either_spans 3 10 13 (omega arith) (omega arith) rules_span last_span

  parts_span : Spans Parts 2 13
  parts_span =
      either_spans 2 3 13 (omega arith) (omega arith)
      (only_spans (bad_directory s) 3 0 2 3 (omega arith) (omega arith)) all_span

  header_span : Spans Header 1 13
  header_span =
      either_spans 1 2 13 (omega arith) (omega arith)
      (only_spans (bad_counts s) 2 0 1 2 (omega arith) (omega arith)) parts_span

  read_span : Spans Read 0 13
  read_span =
      either_spans 0 1 13 (omega arith) (omega arith)
      (only_spans (bad_length s) 1 0 0 1 (omega arith) (omega arith)) header_span

  -- a cut below 4, and one that is at or over 10
  low_cut : (a : ℕ) → a ≤ 3 → Cut a
  low_cut a h = (inl h, inl (omega arith))

  read_judged : Judged Read (told (verdict s))
  unfolding verdict defeasible_before
  read_judged =
      told_judged _ _ (late_cut 0 1 13 (low_cut 1 (omega arith)) (only_spans (bad_length s) 1 0 0 1 (omega arith) (omega arith)) header_span)
      (told_one (bad_length s) causes_of.ImageLength 0) (λ _.
      told_judged _ _ (late_cut 1 2 13 (low_cut 2 (omega arith)) (only_spans (bad_counts s) 2 0 1 2 (omega arith) (omega arith)) parts_span)
      (told_one (bad_counts s) causes_of.Header 0) (λ _.
      told_judged _ _ (late_cut 2 3 13 (low_cut 3 (omega arith)) (only_spans (bad_directory s) 3 0 2 3 (omega arith) (omega arith)) all_span)
      (told_one (bad_directory s) causes_of.Directory 0) (λ _.
      told_judged _ _ (late_cut 3 10 13 (inr (omega arith), inl (omega arith)) rules_span last_span) (rules_judged 0 (rules_of s)) (λ _.
      told_judged _ _ (late_cut 10 11 13 (inr (omega arith), inl (omega arith)) (only_spans (bad_pairs s) 11 0 10 11 (omega arith) (omega arith)) pairs_span)
      (told_one (bad_pairs s) causes_of.LastPartLength 0) (λ _. pairs_judged 0 (pair_count_of s))))))

  -- ---- 14

  abbrev Clashing : Causes
  Clashing n p = (n ≡ 14) × (p ≡ 0) × Contradictory (Π (program_in s).rules)

  clashing_judged : verdict s ≡ images.accepted → Judged Clashing (refuse (contradictory (Π (program_in s).rules)) 14 0)
  clashing_judged e =
      judged_same
      (λ n p (a, b, t). (a, b, contradictory_sound (Π (program_in s).rules) (T_true (contradictory (Π (program_in s).rules)) t)))
      (λ n p (a, b, c).
      (a, b, true_T (contradictory (Π (program_in s).rules)) (contradictory_complete (Π (program_in s).rules) (strict_heads s e) c)))
      (judged_one (contradictory (Π (program_in s).rules)) 14 0)

  image_of : (n p : ℕ) → Either Read Clashing n p → ImageCause s n p
  image_of n p =
      ⊎_elim
      (⊎_elim (only_to (ImageCause s) (bad_length s) 1 0 causes.image_size n p)
      (⊎_elim (only_to (ImageCause s) (bad_counts s) 2 0 causes.counts n p)
      (⊎_elim (only_to (ImageCause s) (bad_directory s) 3 0 causes.directory n p)
      (⊎_elim (λ (h, l, c). causes.of_rule (omega arith) c)
      (⊎_elim (only_to (ImageCause s) (bad_pairs s) 11 0 causes.last_part n p)
      (λ (h, l, c). causes.of_pair (omega arith) c))))))
      (λ (a, b, c). subst₂ (ImageCause s) (sym a) (sym b) (causes.contradictory c))

  of_image : (n p : ℕ) → ImageCause s n p → Either Read Clashing n p
  of_image n p (causes.image_size t) = inl (inl (refl, refl, t))
  of_image n p (causes.counts t) = inl (inr (inl (refl, refl, t)))
  of_image n p (causes.directory t) = inl (inr (inr (inl (refl, refl, t))))
  of_image n p (causes.of_rule h c) = inl (inr (inr (inr (inl (omega arith, omega arith, c)))))
  of_image n p (causes.last_part t) = inl (inr (inr (inr (inr (inl (refl, refl, t))))))
  of_image n p (causes.of_pair h c) = inl (inr (inr (inr (inr (inr (omega arith, omega arith, c))))))
  of_image n p (causes.contradictory c) = inr (refl, refl, c)

  -- reading looks for 1 to 13 alone
  pub reading_judged : Judged (λ n p. (n < 14) × ImageCause s n p) (told (verdict s))
  reading_judged = judged_same (λ n p c. (let k = (read_span n p c).1 in omega arith, image_of n p (inl c))) back read_judged
    where
      back : (n p : ℕ) → (n < 14) × ImageCause s n p → Read n p
      back n p (h, c) = ⊎_elim (λ r. r) (λ (a, b, x). absurd (omega arith)) (of_image n p c)

  pub check_judged : Judged (ImageCause s) (check_image s)
  unfolding check_image
  check_judged =
      judged_same image_of of_image
      (judged_then (late_cut 0 13 14 (inr (omega arith), inr (omega arith)) read_span (λ n p (a, b, c). (omega arith, omega arith)))
      read_judged (λ e. clashing_judged (told_accepted (verdict s) e)))

  -- ---- the list call and those that answer

  pub image_span : Spans (ImageCause s) 0 14
  image_span n p c = go (of_image n p c)
    where
      go : Either Read Clashing n p → (0 < n) × (n ≤ 14)
      go (inl x) = let k = read_span n p x in let u = k.1 in (k.0, omega arith)
      go (inr (a, b, c)) = (omega arith, omega arith)

  abbrev Crowded : ℕ → Causes
  Crowded room n p = (n ≡ 23) × (p ≡ 0) × ((list : List ℕ) × ArgumentList (program_in s).rules list × (room < length list))

  crowded_judged : (room : ℕ) → check_image s ≡ Accepted → Judged (Crowded room) (refuse (ltb room (length (list_in s))) 23 0)
  crowded_judged room e =
      judged_same
      (λ n p (a, b, t). (a, b, (list_in s, list_is (program_in s).rules (checked_heads s e), ltb→lt room (length (list_in s)) t)))
      (λ n p (a, b, (list, l, more)).
      let same = ap length ((list_published (program_in s).rules (checked_heads s e) list).0 l) in
      (a, b, lt→ltb room (length (list_in s)) (omega arith)))
      (judged_one (ltb room (length (list_in s))) 23 0)

  crowded_span : (room : ℕ) → Spans (Crowded room) 22 23
  crowded_span room n p (a, b, c) = (omega arith, omega arith)

  list_of : (room n p : ℕ) → Either (ImageCause s) (Crowded room) n p → ListCause s room n p
  list_of room n p (inl c) = causes.of_image c
  list_of room n p (inr (a, b, (list, l, more))) = subst₂ (ListCause s room) (sym a) (sym b) (causes.arguments l more)

  of_list : (room n p : ℕ) → ListCause s room n p → Either (ImageCause s) (Crowded room) n p
  of_list room n p (causes.of_image c) = inl c
  of_list room n p (causes.arguments {list} l more) = inr (refl, refl, (list, l, more))

  pub list_judged : (room : ℕ) → Judged (ListCause s room) (list_verdict s room)
  unfolding list_verdict
  list_judged room =
      judged_same (list_of room) (of_list room)
      (judged_then (late_cut 0 14 23 (inr (omega arith), inr (omega arith)) image_span
      (λ n p c. let k = crowded_span room n p c in let a = k.0 in (omega arith, k.1)))
      check_judged (crowded_judged room))

  module _ (a : Asked) where
    abbrev the_verdict : Verdict
    the_verdict = query_verdict s a.literal a.budget a.argument_room a.node_room

    abbrev Short : Causes
    Short = Either (Only (ltb a.node_room a.budget) 22 0) (Crowded a.argument_room)

    abbrev Over : Causes
    Over = Either (Only (ltb 4096 a.budget) 21 0) Short

    abbrev Question : Causes
    Question = Either (Only (leb 128 a.literal) 20 0) Over

    short_span : Spans Short 21 23
    short_span =
        either_spans 21 22 23 (omega arith) (omega arith)
        (only_spans (ltb a.node_room a.budget) 22 0 21 22 (omega arith) (omega arith)) (crowded_span a.argument_room)

    over_span : Spans Over 20 23
    over_span =
        either_spans 20 21 23 (omega arith) (omega arith)
        (only_spans (ltb 4096 a.budget) 21 0 20 21 (omega arith) (omega arith)) short_span

    question_span : Spans Question 14 23
    question_span =
        either_spans 14 20 23 (omega arith) (omega arith)
        (only_spans (leb 128 a.literal) 20 0 14 20 (omega arith) (omega arith)) over_span

    high_cut : (b : ℕ) → 13 ≤ b → Cut b
    high_cut b h = (inr (omega arith), inr h)

    query_of : (n p : ℕ) → Either (ImageCause s) Question n p → QueryCause s a n p
    query_of n p =
        ⊎_elim (λ c. causes.of_list (causes.of_image c))
        (⊎_elim (only_to (QueryCause s a) (leb 128 a.literal) 20 0 (λ t. causes.literal (leb→le 128 a.literal t)) n p)
        (⊎_elim (only_to (QueryCause s a) (ltb 4096 a.budget) 21 0 (λ t. causes.budget (ltb→lt 4096 a.budget t)) n p)
        (⊎_elim (only_to (QueryCause s a) (ltb a.node_room a.budget) 22 0 (λ t.
        causes.nodes (ltb→lt a.node_room a.budget t)) n p)
        (λ c. causes.of_list (list_of a.argument_room n p (inr c))))))

    of_query : (n p : ℕ) → QueryCause s a n p → Either (ImageCause s) Question n p
    of_query n p (causes.of_list c) = ⊎_elim inl (λ x. inr (inr (inr (inr x)))) (of_list a.argument_room n p c)
    of_query n p (causes.literal h) = inr (inl (refl, refl, le→leb 128 a.literal h))
    of_query n p (causes.budget h) = inr (inr (inl (refl, refl, lt→ltb 4096 a.budget h)))
    of_query n p (causes.nodes h) = inr (inr (inr (inl (refl, refl, lt→ltb a.node_room a.budget h))))

    query_judged : Judged (QueryCause s a) the_verdict
    unfolding query_verdict
    query_judged =
        judged_same query_of of_query
        (judged_then (late_cut 0 14 23 (high_cut 14 (omega arith)) image_span question_span) check_judged (λ e.
        judged_then (late_cut 14 20 23 (high_cut 20 (omega arith)) (only_spans (leb 128 a.literal) 20 0 14 20 (omega arith) (omega arith)) over_span)
        (judged_one (leb 128 a.literal) 20 0) (λ _.
        judged_then (late_cut 20 21 23 (high_cut 21 (omega arith)) (only_spans (ltb 4096 a.budget) 21 0 20 21 (omega arith) (omega arith)) short_span)
        (judged_one (ltb 4096 a.budget) 21 0) (λ _.
        judged_then (late_cut 21 22 23 (high_cut 22 (omega arith))
        (only_spans (ltb a.node_room a.budget) 22 0 21 22 (omega arith) (omega arith)) (crowded_span a.argument_room))
        (judged_one (ltb a.node_room a.budget) 22 0) (λ _. crowded_judged a.argument_room e)))))

  pub call_judged : (c : Call) → Judged (QueryCause s (asked c)) (verdict_of s c)
  call_judged c = query_judged (asked c)

  -- ---- and no other verdict is judged so

  pub image_sited : Sited (ImageCause s)
  image_sited n p (causes.image_size t) = inr refl
  image_sited n p (causes.counts t) = inr refl
  image_sited n p (causes.directory t) = inr refl
  image_sited n p (causes.of_rule h c) = inl (inl (rule_number c))
  image_sited n p (causes.last_part t) = inr refl
  image_sited n p (causes.of_pair h c) = inl (inr (pair_number c))
  image_sited n p (causes.contradictory c) = inr refl

  list_sited : (room : ℕ) → Sited (ListCause s room)
  list_sited room n p (causes.of_image c) = image_sited n p c
  list_sited room n p (causes.arguments l more) = inr refl

  query_sited : (a : Asked) → Sited (QueryCause s a)
  query_sited a n p (causes.of_list c) = list_sited a.argument_room n p c
  query_sited a n p (causes.literal h) = inr refl
  query_sited a n p (causes.budget h) = inr refl
  query_sited a n p (causes.nodes h) = inr refl

  pub check_only : (v : Verdict) → Judged (ImageCause s) v → v ≡ check_image s
  check_only v j = judged_once image_sited j check_judged

  pub list_only : (room : ℕ) (v : Verdict) → Judged (ListCause s room) v → v ≡ list_verdict s room
  list_only room v j = judged_once (list_sited room) j (list_judged room)

  pub call_only : (c : Call) (v : Verdict) → Judged (QueryCause s (asked c)) v → v ≡ verdict_of s c
  call_only c v j = judged_once (query_sited (asked c)) j (call_judged c)

-- ---- the number and the place of a refusal are small

abbrev pub Bounded : ℕ → ℕ → Type 0
Bounded n place = (1 ≤ n) × (n ≤ 23) × (place < 240)

module _ (s : List ℕ) where
  counts_few : ¬ T (bad_counts s) → (rules_of s ≤ 96) × (pair_count_of s ≤ 240)
  counts_few f =
      let none = not_true_false (bad_counts s) (λ e. f (true_T (bad_counts s) e)) in
      let more = neither_right (ltb 64 (atoms_of s)) _ none in
      let pairs = neither_left (ltb 240 (pair_count_of s)) _ (neither_right (ltb 96 (rules_of s)) _ more) in
      (within_of 96 (rules_of s) (neither_left (ltb 96 (rules_of s)) _ more), within_of 240 (pair_count_of s) pairs)

  -- 2 is looked for before 4 to 13
  counts_first : (n p : ℕ) → 3 ≤ n → Earlier 2 0 n p
  counts_first n p h = by_number (⊎_elim (λ (x, y). let k = x.0 in omega arith) (λ (x, y). let k = x.0 in omega arith)) (omega arith)

  image_small : (n p : ℕ) → ImageCause s n p → ((m q : ℕ) → Earlier m q n p → ¬ ImageCause s m q) → Bounded n p
  image_small n p (causes.image_size t) f = (omega arith, omega arith, omega arith)
  image_small n p (causes.counts t) f = (omega arith, omega arith, omega arith)
  image_small n p (causes.directory t) f = (omega arith, omega arith, omega arith)
  image_small n p (causes.of_rule h c) f =
      let k = rule_number s c in
      let low = k.0 in
      let high = k.1 in
      let few = (counts_few (λ t. f 2 0 (counts_first n p (omega arith)) (causes.counts t))).0 in
      (omega arith, omega arith, omega arith)
  image_small n p (causes.last_part t) f = (omega arith, omega arith, omega arith)
  image_small n p (causes.of_pair h c) f =
      let k = pair_number s c in
      let low = k.0 in
      let high = k.1 in
      let few = (counts_few (λ t. f 2 0 (counts_first n p (omega arith)) (causes.counts t))).1 in
      (omega arith, omega arith, omega arith)
  image_small n p (causes.contradictory c) f = (omega arith, omega arith, omega arith)

  list_small : (room n p : ℕ) → ListCause s room n p → ((m q : ℕ) → Earlier m q n p → ¬ ListCause s room m q) → Bounded n p
  list_small room n p (causes.of_image c) f = image_small n p c (λ m q e x. f m q e (causes.of_image x))
  list_small room n p (causes.arguments a h) f = (omega arith, omega arith, omega arith)

  query_small : (a : Asked) (n p : ℕ) → QueryCause s a n p → ((m q : ℕ) → Earlier m q n p → ¬ QueryCause s a m q) → Bounded n p
  query_small a n p (causes.of_list c) f = list_small a.argument_room n p c (λ m q e x. f m q e (causes.of_list x))
  query_small a n p (causes.literal h) f = (omega arith, omega arith, omega arith)
  query_small a n p (causes.budget h) f = (omega arith, omega arith, omega arith)
  query_small a n p (causes.nodes h) f = (omega arith, omega arith, omega arith)

-- what holds of the first cause holds of a refusal's
named : {Cause : Causes} {v : Verdict} → Judged Cause v
    → ((n p : ℕ) → Cause n p → ((m q : ℕ) → Earlier m q n p → ¬ Cause m q) → Bounded n p)
    → (n p : ℕ) → v ≡ Refused n p → Bounded n p
named (causes.accepted f) small n p e = absurd (let z : ◌≡◌ {A = ℕ} 0 1 = cc in omega arith)
named (causes.refused {number} {place} c f) small n p e =
    let a : number ≡ n = cc in
    let b : place ≡ p = cc in
    subst₂ Bounded a b (small number place c f)

module _ (s : List ℕ) where
  pub check_refused : (n place : ℕ) → check_image s ≡ Refused n place → Bounded n place
  check_refused n place e = named (check_judged s) (image_small s) n place e

  pub list_refused : (room n place : ℕ) → list_verdict s room ≡ Refused n place → Bounded n place
  list_refused room n place e = named (list_judged s room) (list_small s room) n place e

  pub query_refused : (h b al nl n place : ℕ) → query_verdict s h b al nl ≡ Refused n place → Bounded n place
  query_refused h b al nl n place e =
      let a : Asked = record { literal = h; budget = b; argument_room = al; node_room = nl } in
      named (query_judged s a) (query_small s a) n place e
