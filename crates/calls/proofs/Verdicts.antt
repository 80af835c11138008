-- The first cause that applies, of a whole from its parts: what is looked for one after the other, and what each finds.
use mathlib.Core.Path.{◌≡◌, refl, sym, ap₂, subst, subst₂, ◌∙◌}
use mathlib.Core.Bool.{Bool, true, false}
use mathlib.Core.List.{List}
use mathlib.Core.Logic.{◌⊎◌, inl, inr, ⊎_elim}
use Prim.Native.Nat.{ℕ, suc, ◌+◌, ◌≤◌, ◌<◌}
use native.Mathlib.Nat.{eq-or-lt_of_le}
use native.Mathlib.Omega.{arith}
use lib.Dec.{T, ltb, leb}
use lib.ListN.{length}
use borrow.Author.Tests.{ltb-true, ltb-false, leb-true, leb-false}
use Rattle.calls.specs.Verdicts.{Verdict, Accepted, Refused}
use Rattle.calls.specs.Verdicts.{told, refuse, and_then}
use Rattle.std.specs.Prelude.{Result, Ok, Err}
use Rattle.layout.specs.declared.Cause.{Cause}
use Rattle.layout.specs.declared.Refusal.{Refusal}
use Rattle.layout.specs.Causes.{number_of}
use Rattle.layout.specs.Causes as parts
use Rattle.nodes.proofs.Rows.{front_length}
use Rattle.calls.specs.Calls.{front, unless_refused}
use Rattle.calls.specs.Causes.{OfRule, OfPair, InTurn, Earlier, by_number, by_place, at_place, Judged, accepted, refused}

-- causes, by number and place
abbrev pub Causes : Type 1
Causes = ℕ → ℕ → Type 0

abbrev pub Either : Causes → Causes → Causes
Either A B n p = A n p ⊎ B n p

-- one cause, where a test says so
abbrev pub Only : Bool → ℕ → ℕ → Causes
Only t n p m q = (m ≡ n) × (q ≡ p) × T t

pub only_to : (A : Causes) (t : Bool) (n p : ℕ) → (T t → A n p) → (m q : ℕ) → Only t n p m q → A m q
only_to A t n p f m q (e, h, x) = subst₂ A (sym e) (sym h) (f x)

-- none of B is looked for before one of A
abbrev pub Late : Causes → Causes → Type 0
Late A B = (m q n p : ℕ) → B m q → A n p → ¬ Earlier m q n p

not_itself : {n p : ℕ} → ¬ Earlier n p n p
not_itself (by_number f h) = omega arith
not_itself (by_place t h) = omega arith
not_itself (at_place t e h) = omega arith

-- ---- verdicts

pub judged_one : (t : Bool) (n p : ℕ) → Judged (Only t n p) (refuse t n p)
judged_one true n p =
    refused (refl, refl, tt) (λ m q e c. not_itself (subst₂ (λ (k l : ℕ). Earlier k l n p) c.0 c.1 e))
judged_one false n p = accepted (λ m q c. c.2)

after_none : {A B : Causes} {v : Verdict} → ((n p : ℕ) → ¬ A n p) → Judged B v → Judged (Either A B) v
after_none f (accepted g) = accepted (λ n p. ⊎_elim (f n p) (g n p))
after_none f (refused c g) = refused (inr c) (λ m q e. ⊎_elim (f m q) (g m q e))

pub judged_then : {A B : Causes} {a v : Verdict} → Late A B → Judged A a → (a ≡ Accepted → Judged B v)
    → Judged (Either A B) (and_then a v)
judged_then l (accepted f) d = after_none f (d refl)
judged_then l (refused {number} {place} c f) d =
    refused (inl c) (λ m q e. ⊎_elim (f m q e) (λ b. l m q number place b c e))

pub judged_same : {A B : Causes} {v : Verdict} → ((n p : ℕ) → A n p → B n p) → ((n p : ℕ) → B n p → A n p)
    → Judged A v → Judged B v
judged_same f g (accepted h) = accepted (λ n p b. h n p (g n p b))
judged_same f g (refused {number} {place} c h) = refused (f number place c) (λ m q e b. h m q e (g m q b))

-- ---- what an acceptance says of its parts

pub then_left : (a v : Verdict) → and_then a v ≡ Accepted → a ≡ Accepted
then_left Accepted v e = refl
then_left (Refused n p) v e = e

pub then_right : (a v : Verdict) → and_then a v ≡ Accepted → v ≡ Accepted
then_right Accepted v e = e
then_right (Refused n p) v e = absurd (let z : ◌≡◌ {A = ℕ} 0 1 = cc in omega arith)

pub refuse_not : (b : Bool) (n p : ℕ) → refuse b n p ≡ Accepted → b ≡ false
refuse_not true n p e = absurd (let z : ◌≡◌ {A = ℕ} 0 1 = cc in omega arith)
refuse_not false n p e = refl

-- ---- verdicts that a result tells

pub told_then : (a v : Result Unit Refusal) → told (parts.and_then a v) ≡ and_then (told a) (told v)
told_then (Ok u) v = refl
told_then (Err r) v = refl

pub told_refuse : (b : Bool) (cause : Cause) (place : ℕ) → told (parts.refuse b cause place) ≡ refuse b (number_of cause) place
told_refuse true cause place = refl
told_refuse false cause place = refl

pub told_accepted : (a : Result Unit Refusal) → told a ≡ Accepted → a ≡ parts.accepted
told_accepted (Ok u) e = refl
told_accepted (Err r) e = absurd (let z : ◌≡◌ {A = ℕ} 0 1 = cc in omega arith)

pub told_one : (t : Bool) (cause : Cause) (p : ℕ) → Judged (Only t (number_of cause) p) (told (parts.refuse t cause p))
told_one t cause p = subst (Judged (Only t (number_of cause) p)) (sym (told_refuse t cause p)) (judged_one t (number_of cause) p)

pub told_judged : {A B : Causes} (a v : Result Unit Refusal) → Late A B → Judged A (told a) → (a ≡ parts.accepted → Judged B (told v))
    → Judged (Either A B) (told (parts.and_then a v))
told_judged {A} {B} a v l x d =
    subst (Judged (Either A B)) (sym (told_then a v)) (judged_then l x (λ e. d (told_accepted a e)))

-- a lent table keeps its length
pub unless_length : {A : Type 0} (v : Verdict) (l table : List A) → (v ≡ Accepted → length l ≤ length table)
    → length (unless_refused v (front l table) table) ≡ length table
unless_length Accepted l table f = front_length l table (f refl)
unless_length (Refused n place) l table f = refl

-- ---- causes of different turns: the numbers decide

abbrev pub Spans : Causes → ℕ → ℕ → Type 0
Spans A low high = (n p : ℕ) → A n p → (low < n) × (n ≤ high)

pub only_spans : (t : Bool) (n p low high : ℕ) → low < n → n ≤ high → Spans (Only t n p) low high
only_spans t n p low high h k m q (e, f, x) = (omega arith, omega arith)

pub either_spans : {A B : Causes} (low middle high : ℕ) → low ≤ middle → middle ≤ high → Spans A low middle
    → Spans B middle high → Spans (Either A B) low high
either_spans low middle high h k a b n p (inl x) = let r = a n p x in let u = r.1 in (r.0, omega arith)
either_spans low middle high h k a b n p (inr x) = let r = b n p x in let l = r.0 in (omega arith, r.1)

-- no turn has causes up to a and causes over a
abbrev pub Cut : ℕ → Type 0
Cut a = ((a ≤ 3) ⊎ (10 ≤ a)) × ((a ≤ 11) ⊎ (13 ≤ a))

no_turn : (a m n : ℕ) → Cut a → n ≤ a → a < m → ¬ InTurn m n
no_turn a m n (inl c, d) h k (inl ((x, y), (z, w))) = omega arith
no_turn a m n (inr c, d) h k (inl ((x, y), (z, w))) = omega arith
no_turn a m n (c, inl d) h k (inr ((x, y), (z, w))) = omega arith
no_turn a m n (c, inr d) h k (inr ((x, y), (z, w))) = omega arith

pub late_cut : {A B : Causes} (low a high : ℕ) → Cut a → Spans A low a → Spans B a high → Late A B
late_cut {A} {B} low a high c u o m q n p b x = go (u n p x).1 (o m q b).0
  where
    go : n ≤ a → a < m → ¬ Earlier m q n p
    go h k (by_number f l) = omega arith
    go h k (by_place t l) = no_turn a m n c h k t
    go h k (at_place t e l) = omega arith

-- ---- the causes of one rule or pair: the numbers decide

pub record Turn (i low high : ℕ) (A : Causes) (v : Result Unit Refusal) : Type 0 where
  pub judged : Judged A (told v)
  pub here : (n p : ℕ) → A n p → p ≡ i
  pub spans : Spans A low high

pub turn_one : (t : Bool) (cause : Cause) (i low high : ℕ) → low < number_of cause → number_of cause ≤ high
    → Turn i low high (Only t (number_of cause) i) (parts.refuse t cause i)
turn_one t cause i low high h k = record {
  judged = told_one t cause i;
  here = λ m q c. c.1;
  spans = only_spans t (number_of cause) i low high h k;
}

late_here : {A B : Causes} (i low a high : ℕ) → ((n p : ℕ) → A n p → p ≡ i) → ((n p : ℕ) → B n p → p ≡ i)
    → Spans A low a → Spans B a high → Late A B
late_here i low a high f g u o m q n p b x = go (u n p x).1 (o m q b).0 (f n p x) (g m q b)
  where
    go : n ≤ a → a < m → p ≡ i → q ≡ i → ¬ Earlier m q n p
    go h k s r (by_number z l) = omega arith
    go h k s r (by_place t l) = omega arith
    go h k s r (at_place t e l) = omega arith

pub turn_then : {A B : Causes} {a v : Result Unit Refusal} {i : ℕ} (low middle high : ℕ) → low ≤ middle → middle ≤ high
    → Turn i low middle A a → Turn i middle high B v → Turn i low high (Either A B) (parts.and_then a v)
turn_then {i = i} low middle high h k x y = record {
  judged = told_judged _ _ (late_here i low middle high x.here y.here x.spans y.spans) x.judged (λ _. y.judged);
  here = λ n p. ⊎_elim (x.here n p) (y.here n p);
  spans = either_spans low middle high h k x.spans y.spans;
}

-- ---- "for each rule in turn", "for each pair in turn": the places decide

module _ (C : ℕ → ℕ → Type 0) (turn : (i j m n : ℕ) → C i m → C j n → InTurn m n) where
  -- of number i alone, and of the n from number i on
  abbrev pub Of : ℕ → Causes
  Of i m q = (q ≡ i) × C i m

  abbrev pub From : ℕ → ℕ → Causes
  From i n m q = (i ≤ q) × (q < i + n) × C q m

  late_next : (i n : ℕ) → Late (Of i) (From (suc i) n)
  late_next i n m q k p (h, l, b) (e, c) (by_number f r) = f (turn q i m k b c)
  late_next i n m q k p (h, l, b) (e, c) (by_place t r) = omega arith
  late_next i n m q k p (h, l, b) (e, c) (at_place t s r) = omega arith

  pub from_none : (i : ℕ) → Judged (From i 0) (told parts.accepted)
  from_none i = accepted (λ m q (h, l, c). omega arith)

  from_next : (i n m q : ℕ) → Either (Of i) (From (suc i) n) m q → From i (suc n) m q
  from_next i n m q (inl (e, c)) = (omega arith, omega arith, subst (λ (k : ℕ). C k m) (sym e) c)
  from_next i n m q (inr (h, l, c)) = (omega arith, omega arith, c)

  next_from : (i n m q : ℕ) → From i (suc n) m q → Either (Of i) (From (suc i) n) m q
  next_from i n m q (h, l, c) =
      ⊎_elim (λ e. inl (sym e, subst (λ (k : ℕ). C k m) (sym e) c)) (λ k. inr (k, omega arith, c))
      (eq-or-lt_of_le {n = i} {m = q} h)

  pub from_judged : (i n : ℕ) (a v : Result Unit Refusal) → Judged (Of i) (told a) → Judged (From (suc i) n) (told v)
      → Judged (From i (suc n)) (told (parts.and_then a v))
  from_judged i n a v x y = judged_same (from_next i n) (next_from i n) (told_judged a v (late_next i n) x (λ _. y))

-- ---- the first is one: of two causes that apply and differ, one is looked for before the other

-- a cause that is neither of a rule nor of a pair has place 0
abbrev pub Sited : Causes → Type 0
Sited C = (n p : ℕ) → C n p → (OfRule n ⊎ OfPair n) ⊎ (p ≡ 0)

data Order (m q n p : ℕ) : Type 0 where
  same : m ≡ n → q ≡ p → Order m q n p
  before : Earlier m q n p → Order m q n p
  after : Earlier n p m q → Order m q n p

turned : {m n : ℕ} → InTurn m n → InTurn n m
turned (inl (x, y)) = inl (y, x)
turned (inr (x, y)) = inr (y, x)

three_ways : (a b : ℕ) → (a < b) ⊎ ((b < a) ⊎ (a ≡ b))
three_ways a b = go (ltb a b) refl (ltb b a) refl
  where
    go : (x : Bool) → ltb a b ≡ x → (y : Bool) → ltb b a ≡ y → (a < b) ⊎ ((b < a) ⊎ (a ≡ b))
    go true e y f = inl (ltb-true a b e)
    go false e true f = inr (inl (ltb-true b a f))
    go false e false f = let h = ltb-false a b e in let k = ltb-false b a f in inr (inr (omega arith))

between : (low high n : ℕ) → ((low ≤ n) × (n ≤ high)) ⊎ ¬ ((low ≤ n) × (n ≤ high))
between low high n = go (leb low n) refl (leb n high) refl
  where
    go : (x : Bool) → leb low n ≡ x → (y : Bool) → leb n high ≡ y → ((low ≤ n) × (n ≤ high)) ⊎ ¬ ((low ≤ n) × (n ≤ high))
    go true e true f = inl (leb-true low n e, leb-true n high f)
    go true e false f = inr (λ (x, y). let h = leb-false n high f in omega arith)
    go false e y f = inr (λ (x, z). let h = leb-false low n e in omega arith)

module _ {A B : Type 0} where
  both_or_not : A ⊎ ¬ A → B ⊎ ¬ B → (A × B) ⊎ ¬ (A × B)
  both_or_not (inl a) (inl b) = inl (a, b)
  both_or_not (inl a) (inr g) = inr (λ (x, y). g y)
  both_or_not (inr f) b = inr (λ (x, y). f x)

  either_or_not : A ⊎ ¬ A → B ⊎ ¬ B → (A ⊎ B) ⊎ ¬ (A ⊎ B)
  either_or_not (inl a) b = inl (inl a)
  either_or_not (inr f) (inl b) = inl (inr b)
  either_or_not (inr f) (inr g) = inr (⊎_elim f g)

turn_or_not : (m n : ℕ) → InTurn m n ⊎ ¬ InTurn m n
turn_or_not m n =
    either_or_not (both_or_not (between 4 10 m) (between 4 10 n)) (both_or_not (between 12 13 m) (between 12 13 n))

module _ (m q n p : ℕ) where
  turn_order : InTurn m n → Order m q n p
  turn_order t = places (three_ways q p)
    where
      numbers : q ≡ p → (m < n) ⊎ ((n < m) ⊎ (m ≡ n)) → Order m q n p
      numbers e (inl h) = before (at_place t e h)
      numbers e (inr (inl h)) = after (at_place (turned t) (sym e) h)
      numbers e (inr (inr h)) = same h e

      places : (q < p) ⊎ ((p < q) ⊎ (q ≡ p)) → Order m q n p
      places (inl h) = before (by_place t h)
      places (inr (inl h)) = after (by_place (turned t) h)
      places (inr (inr e)) = numbers e (three_ways m n)

  other_order : ¬ InTurn m n → (m ≡ n → q ≡ p) → Order m q n p
  other_order f k = numbers (three_ways m n)
    where
      numbers : (m < n) ⊎ ((n < m) ⊎ (m ≡ n)) → Order m q n p
      numbers (inl h) = before (by_number f h)
      numbers (inr (inl h)) = after (by_number (λ t. f (turned t)) h)
      numbers (inr (inr e)) = same e (k e)

  module _ {C : Causes} (sited : Sited C) (x : C m q) (y : C n p) where
    same_place : ¬ InTurn m n → m ≡ n → q ≡ p
    same_place f e = go (sited m q x) (sited n p y)
      where
        go : (OfRule m ⊎ OfPair m) ⊎ (q ≡ 0) → (OfRule n ⊎ OfPair n) ⊎ (p ≡ 0) → q ≡ p
        go (inl (inl r)) b = absurd (f (inl (r, subst OfRule e r)))
        go (inl (inr r)) b = absurd (f (inr (r, subst OfPair e r)))
        go (inr z) (inl (inl r)) = absurd (f (inl (subst OfRule (sym e) r, r)))
        go (inr z) (inl (inr r)) = absurd (f (inr (subst OfPair (sym e) r, r)))
        go (inr z) (inr w) = z ∙ sym w

    order_of : Order m q n p
    order_of = ⊎_elim turn_order (λ f. other_order f (same_place f)) (turn_or_not m n)

-- so that causes and their order leave one verdict
pub judged_once : {C : Causes} → Sited C → {v w : Verdict} → Judged C v → Judged C w → v ≡ w
judged_once s (accepted f) (accepted g) = refl
judged_once s (accepted f) (refused {number} {place} c g) = absurd (f number place c)
judged_once s (refused {number} {place} c f) (accepted g) = absurd (g number place c)
judged_once s (refused {number = m} {place = q} c f) (refused {number = n} {place = p} d g) = go (order_of m q n p s c d)
  where
    go : Order m q n p → Refused m q ≡ Refused n p
    go (same e h) = ap₂ Refused e h
    go (before e) = absurd (g m q e c)
    go (after e) = absurd (f n p e d)
