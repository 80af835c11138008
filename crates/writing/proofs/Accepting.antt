-- The reader accepts the image of each program that an image can hold.
use mathlib.Core.Path.{◌≡◌, refl, sym, ap, ap₂, ◌∙◌}
use mathlib.Core.Bool.{Bool, true, false, not, ◌&&◌, ◌||◌}
use mathlib.Core.List.{List, [], ◌∷◌, ◌++◌, map, Memᴰ}
use Prim.Native.Nat.{ℕ, zero, suc, ◌+◌, ◌*◌, ◌<◌, ◌≤◌}
use native.Mathlib.Omega.{arith}
use lib.Dec.{eqb, ltb, leb}
use lib.ListN.{length, get_or, length-append}
use borrow.Author.Tests.{eq-eqb, ne_eqb, ltb-false, le-ltb, lt-leb}
use Rattle.lists.proofs.Places.{there, apart}
use Rattle.literals.proofs.Tests.{and_intro}
use Rattle.program.specs.Program.{Kind, strict, defeasible, Rule, Program, fact, next_bit, defeasibles_from, bit_of, rule_at}
use Rattle.program.specs.Limits.{DefeasibleAt, PairOf}
use Rattle.program.proofs.Numbers.{bit_of_below}
use Rattle.program.proofs.Fillings.{bit_of_next}
use Rattle.layout.specs.Layout.{byte_at, number_at, atoms_of, rules_of, pair_count_of, offset_of, size_of, part_of, kind_byte, first_of, second_of}
use Rattle.layout.specs.declared.Cause.{Cause}
use Rattle.layout.specs.declared.Cause.TheVariants.{ImageLength, Header, Directory, RepeatedRule, LastPartLength, PairNames, PairOrder}
use Rattle.layout.specs.Causes.{Verdict, accepted, refuse, and_then, bad_length, bad_counts, bad_directory, bad_pairs, bad_pair, bad_order, pair_code, not_defeasible, bad_seventeenth, bad_repeat}
use Rattle.layout.specs.Causes.{parts_follow, part_verdict, rule_verdict, count_kind, rules_verdict, pair_verdict, pairs_verdict, verdict}
use Rattle.layout.proofs.Directory.{neither, neither_right}
use Rattle.writing.specs.Image.{kind_number, rule_bytes, pair_bytes, parts_of, together, image_of}
use Rattle.writing.specs.Inside.Writable.{Writable}
use Rattle.writing.proofs.Reading.{start_of, parts_length, image_atoms, image_rules, image_pairs, image_zero, image_offset, image_size, image_part, image_rule, image_last, image_length, pair_at, pair_first, pair_second}
use Rattle.writing.proofs.Fits.{part_passes, passes_part, stands_none, sorted_next, before_code}

-- ---- verdicts of tests that fail

then_both : {v w : Verdict} → v ≡ accepted → w ≡ accepted → and_then v w ≡ accepted
then_both p q = rw (p, q) refl

not_refused : {b : Bool} (c : Cause) (k : ℕ) → b ≡ false → refuse b c k ≡ accepted
not_refused c k e = ap (λ (x : Bool). refuse x c k) e

pub kind_apart : (k l : Kind) → kind_number k ≡ kind_number l → k ≡ l
kind_apart strict strict e = refl
kind_apart strict defeasible e = absurd (omega arith)
kind_apart defeasible strict e = absurd (omega arith)
kind_apart defeasible defeasible e = refl

pub rule_apart : (r s : Rule) → kind_number r.kind ≡ kind_number s.kind → r.head ≡ s.head → r.body ≡ s.body → r ≡ s
rule_apart r s k h b =
    ap (λ (x : Kind). record { kind = x; head = r.head; body = r.body }) (kind_apart r.kind s.kind k)
    ∙ ap₂ (λ (x : ℕ) (y : List ℕ). record { kind = s.kind; head = x; body = y }) h b

bytes_apart : (r s : Rule) → rule_bytes r ≡ rule_bytes s → r ≡ s
bytes_apart r s e = rule_apart r s (cc) (cc) (cc)

-- ---- lengths

together_length : (l : List Rule) (last : List ℕ) → ((r : Rule) → Memᴰ r l → length (rule_bytes r) ≤ 10)
    → length (together (map rule_bytes l ++ (last ∷ []))) ≤ 10 * length l + length last
together_length [] last h = omega (arith, length-append last [])
together_length (r ∷ l) last h =
    omega (arith, length-append (rule_bytes r) (together (map rule_bytes l ++ (last ∷ []))), h r (Memᴰ.head refl), together_length l last (λ q i. h q (Memᴰ.tail i)))

pub pair_bytes_length : (l : List (ℕ × ℕ)) → length (pair_bytes l) ≡ 2 * length l
pair_bytes_length [] = refl
pair_bytes_length (q ∷ l) = omega (arith, pair_bytes_length l)

-- ---- each part begins where the one before ends

start_next : (at : ℕ) (parts : List (List ℕ)) (i : ℕ) → i < length parts
    → start_of at parts i + length (get_or parts i []) ≡ start_of at parts (suc i)
start_next at [] i h = absurd (omega arith)
start_next at (part ∷ []) zero h = refl
start_next at (part ∷ q ∷ parts) zero h = refl
start_next at (part ∷ parts) (suc i) h = start_next (at + length part) parts i (omega arith)

start_end : (at : ℕ) (parts : List (List ℕ)) → start_of at parts (length parts) ≡ at + length (together parts)
start_end at [] = omega arith
start_end at (part ∷ parts) = start_end (at + length part) parts ∙ omega (arith, length-append part (together parts))

module _ (p : Program) (w : Writable p) where
  long : length (image_of p) ≤ 12 + 4 * length p.rules + (10 * length p.rules + 2 * length p.pairs)
  long =
      omega (arith, image_length p, pair_bytes_length p.pairs, together_length p.rules (pair_bytes p.pairs) short)
    where
      short : (r : Rule) → Memᴰ r p.rules → length (rule_bytes r) ≤ 10
      short r i =
          ltb-false 10 (length (rule_bytes r)) (neither_right (ltb (length (rule_bytes r)) 2) _ (part_passes (rule_bytes r) p.atoms 0 0 (w.rule_fits r i)).four)

  pub image_short : length (image_of p) ≤ 1836
  image_short =
      let a = w.few_rules in
      let b = w.few_pairs in
      omega (arith, long)

  one : bad_length (image_of p) ≡ false
  one =
      neither (le-ltb (length (image_of p)) 12 (omega (arith, image_length p))) (le-ltb 1836 (length (image_of p)) image_short)

  two : bad_counts (image_of p) ≡ false
  two =
      let a = w.few_atoms in
      let b = w.few_rules in
      let c = w.few_pairs in
      neither (le-ltb 64 (atoms_of (image_of p)) (omega (arith, image_atoms p)))
      (neither (le-ltb 96 (rules_of (image_of p)) (omega (arith, image_rules p)))
      (neither (le-ltb 240 (pair_count_of (image_of p)) (omega (arith, image_pairs p)))
      (ap not (eq-eqb (number_at (image_of p) 6) 0 (image_zero p)))))

  follow : (n i : ℕ) → i + n ≡ length p.rules + 1
      → parts_follow (image_of p) (start_of (12 + 4 * length p.rules) (parts_of p) i) i n ≡ true
  unfolding parts_follow
  follow zero i h =
      let all : i ≡ length (parts_of p) = omega (arith, parts_length p) in
      eq-eqb (start_of (12 + 4 * length p.rules) (parts_of p) i) (length (image_of p))
      (ap (start_of (12 + 4 * length p.rules) (parts_of p)) all
      ∙ start_end (12 + 4 * length p.rules) (parts_of p)
      ∙ sym (image_length p))
  follow (suc n) i h =
      let k : i ≤ length p.rules = omega arith in
      let next : offset_of (image_of p) i + size_of (image_of p) i ≡ start_of (12 + 4 * length p.rules) (parts_of p) (suc i)
      = ap₂ ◌+◌ (image_offset p i k) (image_size p i k)
      ∙ start_next (12 + 4 * length p.rules) (parts_of p) i (omega (arith, parts_length p)) in
      and_intro (eqb (offset_of (image_of p) i) (start_of (12 + 4 * length p.rules) (parts_of p) i)) _
      (eq-eqb (offset_of (image_of p) i) (start_of (12 + 4 * length p.rules) (parts_of p) i) (image_offset p i k))
      (ap (λ (e : ℕ). parts_follow (image_of p) e (suc i) n) next ∙ follow n (suc i) (omega arith))

  three : bad_directory (image_of p) ≡ false
  three =
      neither (le-ltb (length (image_of p)) (12 + 4 * rules_of (image_of p)) (omega (arith, image_length p, image_rules p)))
      (ap not
      (ap (λ (n : ℕ). parts_follow (image_of p) (12 + 4 * n) 0 (n + 1)) (image_rules p)
      ∙ ap (λ (e : ℕ). parts_follow (image_of p) e 0 (length p.rules + 1)) (first (parts_of p))
      ∙ follow (length p.rules + 1) 0 (omega arith)))
    where
      first : (l : List (List ℕ)) → 12 + 4 * length p.rules ≡ start_of (12 + 4 * length p.rules) l 0
      first [] = refl
      first (x ∷ l) = refl

  -- ---- the rules in turn
  nine : (i : ℕ) → i < length p.rules → bad_seventeenth (bit_of p.rules i) (rule_bytes (rule_at p.rules i)) ≡ false
  nine i h = go (rule_at p.rules i).kind refl
    where
      go : (k : Kind) → (rule_at p.rules i).kind ≡ k
          → (eqb (kind_number (rule_at p.rules i).kind) 1 && leb 16 (bit_of p.rules i)) ≡ false
      go strict e = ap (λ (k : Kind). eqb (kind_number k) 1 && leb 16 (bit_of p.rules i)) e
      go defeasible e =
          let few = w.few_defeasible in
          let d : DefeasibleAt p.rules i = record { there = h; kind_is = e } in
          ap (λ (k : Kind). eqb (kind_number k) 1 && leb 16 (bit_of p.rules i)) e
          ∙ lt-leb 16 (bit_of p.rules i) (omega (arith, bit_of_below p.rules d))

  ten : (i : ℕ) → i < length p.rules → bad_repeat (image_of p) i ≡ false
  ten i h =
      stands_none (image_of p) (part_of (image_of p) i) i 0 (λ k l e.
      let m : k < i = omega arith in
      let q : rule_at p.rules k ≡ rule_at p.rules i
      = bytes_apart (rule_at p.rules k) (rule_at p.rules i) (sym (image_rule p k (omega arith)) ∙ e ∙ image_rule p i h) in
      let z : k ≡ i = apart (fact 0) p.rules k i w.rules_once (omega arith) h q in
      absurd (omega arith))

  rules_accepted : (n i : ℕ) → i + n ≡ length p.rules → rules_verdict (image_of p) (bit_of p.rules i) i n ≡ accepted
  unfolding rules_verdict rule_verdict
  rules_accepted zero i h = refl
  rules_accepted (suc n) i h =
      let k : i < length p.rules = omega arith in
      let r : Rule = rule_at p.rules i in
      let part : part_verdict (part_of (image_of p) i) (atoms_of (image_of p)) (bit_of p.rules i) i ≡ accepted
      = ap₂ (λ (l : List ℕ) (a : ℕ). part_verdict l a (bit_of p.rules i) i) (image_rule p i k) (image_atoms p)
      ∙ passes_part (rule_bytes r) p.atoms (bit_of p.rules i) i
      (part_passes (rule_bytes r) p.atoms 0 0 (w.rule_fits r (there (fact 0) p.rules i k))) (nine i k) in
      let next : count_kind (kind_byte (part_of (image_of p) i)) (bit_of p.rules i) ≡ bit_of p.rules (suc i)
      = ap (λ (l : List ℕ). count_kind (kind_byte l) (bit_of p.rules i)) (image_rule p i k)
      ∙ counted r.kind (bit_of p.rules i)
      ∙ sym (bit_of_next p.rules 0 i k) in
      then_both (then_both part (not_refused RepeatedRule i (ten i k)))
      (ap (λ (b : ℕ). rules_verdict (image_of p) b (suc i) n) next ∙ rules_accepted n (suc i) (omega arith))
    where
      counted : (k : Kind) (b : ℕ) → count_kind (kind_number k) b ≡ next_bit k b
      counted strict b = refl
      counted defeasible b = refl

  -- ---- the pairs in turn
  eleven : bad_pairs (image_of p) ≡ false
  eleven =
      ap not
      (eq-eqb (size_of (image_of p) (rules_of (image_of p))) (2 * pair_count_of (image_of p))
      (ap (size_of (image_of p)) (image_rules p) ∙ last_size ∙ sym (ap (λ (n : ℕ). 2 * n) (image_pairs p))))
    where
      last_size : size_of (image_of p) (length p.rules) ≡ 2 * length p.pairs
      last_size =
          image_size p (length p.rules) (omega arith)
          ∙ ap (λ (l : List ℕ). length l) (sym (image_part p (length p.rules) (omega arith)) ∙ image_last p)
          ∙ pair_bytes_length p.pairs

  last_is : part_of (image_of p) (rules_of (image_of p)) ≡ pair_bytes p.pairs
  last_is = ap (part_of (image_of p)) (image_rules p) ∙ image_last p

  first_is : (j : ℕ) → first_of (image_of p) j ≡ (pair_at p.pairs j).0
  first_is j = ap (λ (l : List ℕ). byte_at l (2 * j)) last_is ∙ pair_first p.pairs j

  second_is : (j : ℕ) → second_of (image_of p) j ≡ (pair_at p.pairs j).1
  second_is j = ap (λ (l : List ℕ). byte_at l (2 * j + 1)) last_is ∙ pair_second p.pairs j

  named : (j : ℕ) → j < length p.pairs → PairOf p.rules (pair_at p.pairs j).0 (pair_at p.pairs j).1
  named j h = w.pairs_name (pair_at p.pairs j).0 (pair_at p.pairs j).1 (there (0, 0) p.pairs j h)

  is_defeasible_lem : (a : ℕ) → DefeasibleAt p.rules a → not_defeasible (image_of p) a ≡ false
  is_defeasible_lem a d =
      neither (lt-leb (rules_of (image_of p)) a (omega (arith, d.there, image_rules p)))
      (ap (λ (l : List ℕ). not (eqb (kind_byte l) 1)) (image_rule p a d.there)
      ∙ ap (λ (k : Kind). not (eqb (kind_number k) 1)) d.kind_is)

  twelve : (j : ℕ) → j < length p.pairs → bad_pair (image_of p) j ≡ false
  twelve j h =
      ap₂ (λ (a b : ℕ). not_defeasible (image_of p) a || (not_defeasible (image_of p) b || eqb a b)) (first_is j) (second_is j)
      ∙ neither (is_defeasible_lem (pair_at p.pairs j).0 (named j h).first)
      (neither (is_defeasible_lem (pair_at p.pairs j).1 (named j h).second)
      (ne_eqb (pair_at p.pairs j).0 (pair_at p.pairs j).1 (named j h).distinct))

  thirteen : (j : ℕ) → j < length p.pairs → bad_order (image_of p) j ≡ false
  thirteen zero h = refl
  thirteen (suc j) h =
      let few = w.few_rules in
      let a = (named j (omega arith)).second.there in
      let b = (named (suc j) h).second.there in
      lt-leb (pair_code (image_of p) (suc j)) (pair_code (image_of p) j)
      (omega (
        arith,
        first_is j,
        second_is j,
        first_is (suc j),
        second_is (suc j),
        before_code (pair_at p.pairs j).0 (pair_at p.pairs j).1 (pair_at p.pairs (suc j)).0 (pair_at p.pairs (suc j)).1 (omega arith) (omega arith)
            (sorted_next p.pairs j w.pairs_sorted h),
      ))

  pairs_accepted : (n j : ℕ) → j + n ≡ length p.pairs → pairs_verdict (image_of p) j n ≡ accepted
  unfolding pairs_verdict pair_verdict
  pairs_accepted zero j h = refl
  pairs_accepted (suc n) j h =
      then_both (then_both (not_refused PairNames j (twelve j (omega arith))) (not_refused PairOrder j (thirteen j (omega arith))))
      (pairs_accepted n (suc j) (omega arith))

  -- "The reader accepts the result."
  pub image_accepted : verdict (image_of p) ≡ accepted
  unfolding verdict defeasibles_from
  image_accepted =
      then_both (not_refused ImageLength 0 one)
      (then_both (not_refused Header 0 two)
      (then_both (not_refused Directory 0 three)
      (then_both (ap (rules_verdict (image_of p) 0 0) (image_rules p) ∙ rules_accepted (length p.rules) 0 (omega arith))
      (then_both (not_refused LastPartLength 0 eleven)
      (ap (pairs_verdict (image_of p) 0) (image_pairs p) ∙ pairs_accepted (length p.pairs) 0 (omega arith))))))
