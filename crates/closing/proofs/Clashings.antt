-- The masks under which an atom clashes, one atom at a time, and word by word.
use mathlib.Core.Path.{◌≡◌, sym, ap, ap₂, ◌∙◌, subst}
use mathlib.Core.Bool.{true, false, not, ◌||◌, false≢true}
use mathlib.Core.List.{List}
use mathlib.Core.Logic.{◌⊎◌, inl, inr}
use Prim.Native.Nat.{ℕ, ◌+◌, ◌^◌, ◌<◌, ◌≤◌}
use native.Mathlib.Decide.{ℕ_discrete, dec_lt}
use native.Mathlib.Omega.{arith}
use lib.Bits.{bit_and, and_le_r}
use lib.Dec.{eqb}
use lib.ListN.{length, get_or, set, length-set}
use lib.Seq.{get_or-set_same, get_or-set_other}
use borrow.Author.Tests.{ne_eqb}
use Rattle.literals.specs.Sets.{has, minus, union, within, LowestBelow}
use Rattle.literals.proofs.Tests.{and_intro, and_left, and_right, or_left, or_right}
use Rattle.literals.proofs.Members.{has_empty, has_cases, has_and, has_union, has_minus_power}
use Rattle.literals.proofs.Within.{within_le, within_refl, within_trans, minus_within}
use Rattle.rows.specs.Span.{Greatest}
use Rattle.closures.specs.Inside.Table.{begins_at, keeps_at, word_at, Laid}
use Rattle.closing.specs.Inside.Steps.{ClashAt, ClashWord, ClashRow}

-- x has the places of s, and those where the literals of q clash
pub record Clashed (t : List ℕ) (q w s x : ℕ) : Type 0 where
  pub started : (k : ℕ) → has s k ≡ true → has x k ≡ true
  pub passes : (k : ℕ) → ClashAt t q w k → has x k ≡ true
  pub says : (k : ℕ) → has x k ≡ true → (has s k ≡ false) → ClashAt t q w k

clashed_none : (t : List ℕ) (q w s : ℕ) → q ≡ 0 → Clashed t q w s s
clashed_none t q w s e = rw e (record {
  started = λ k h. h;
  passes = λ k (l, h, p, r). absurd (false≢true (sym (has_empty l) ∙ h));
  says = λ k h n. absurd (false≢true (sym n ∙ h));
})

-- one atom, then the others
module _ (t : List ℕ) (q w s b : ℕ) (member : has q b ≡ true) where
  abbrev here : ℕ
  here = bit_and (word_at t b w) (word_at t (b + 1) w)

  left : (j : ℕ) → has q j ≡ true → (j ≡ b → ⊥) → has (minus q (2 ^ b)) j ≡ true
  left j e o = has_minus_power q b j ∙ and_intro (has q j) (not (eqb j b)) e (ap not (ne_eqb j b o))

  clashed_more : (x : ℕ) → Clashed t (minus q (2 ^ b)) w (union s (bit_and (word_at t b w) (word_at t (b + 1) w))) x
      → Clashed t q w s x
  clashed_more x more = record {
    started = λ k h. more.started k (has_union s here k ∙ or_left (has s k) (has here k) h);
    passes = λ k (j, h, p, r). passes_at k j h p r (ℕ_discrete j b);
    says = λ k h n. says_at k h n (has_cases here k);
  }
    where
      passes_at : (k j : ℕ) → has q j ≡ true → has (word_at t j w) k ≡ true → has (word_at t (j + 1) w) k ≡ true → Dec (j ≡ b) → has x k ≡ true
      passes_at k j h p r (no o) = more.passes k (j, left j h o, p, r)
      passes_at k j h p r (yes o) =
          more.started k
          (has_union s here k
          ∙ or_right (has s k) (has here k)
          (has_and (word_at t b w) (word_at t (b + 1) w) k
          ∙ and_intro (has (word_at t b w) k) (has (word_at t (b + 1) w) k)
          (subst (λ (i : ℕ). has (word_at t i w) k ≡ true) o p) (subst (λ (i : ℕ). has (word_at t (i + 1) w) k ≡ true) o r)))

      says_at : (k : ℕ) → has x k ≡ true → has s k ≡ false → (has here k ≡ true) ⊎ (has here k ≡ false) → ClashAt t q w k
      says_at k h n (inl y) =
          let both = sym (has_and (word_at t b w) (word_at t (b + 1) w) k) ∙ y in
          (b, member, and_left (has (word_at t b w) k) (has (word_at t (b + 1) w) k) both, and_right (has (word_at t b w) k) (has (word_at t (b + 1) w) k) both)
      says_at k h n (inr y) =
          let found = more.says k h (has_union s here k ∙ ap₂ ◌||◌ n y) in
          (found.0, and_left (has q found.0) (not (eqb found.0 b)) (sym (has_minus_power q b found.0) ∙ found.1), found.2, found.3)

-- what is left of the atoms is left to be looked at
pub record Clashing (t : List ℕ) (q w left x : ℕ) : Type 0 where
  pub part : within left q ≡ true
  pub rest : (r : ℕ) → Clashed t left w x r → Clashed t q w 0 r

pub clashing_all : (t : List ℕ) (q w left : ℕ) → left ≡ q → Clashing t q w left 0
clashing_all t q w left e = rw e (record { part = within_refl q; rest = λ r m. m })

pub clashing_more : (t : List ℕ) (q w left x b next y : ℕ) → LowestBelow 128 left b → minus left (2 ^ b) ≡ next
    → y ≡ bit_and (word_at t b w) (word_at t (b + 1) w) → Clashing t q w left x → Clashing t q w next (union x y)
clashing_more t q w left x b next y lowest e is so = rw (← e, is) (record {
  part = within_trans (minus left (2 ^ b)) left q (minus_within left (2 ^ b)) so.part;
  rest = λ r m. so.rest r (clashed_more t left w x b lowest.member r m);
})

pub clashing_none : (t : List ℕ) (q w left x : ℕ) → left ≡ 0 → Clashing t q w left x → ClashWord t q w x
clashing_none t q w left x e so =
    let all = so.rest x (clashed_none t left w x e) in
    record { passes = all.passes; says = λ k h. all.says k h (has_empty k) }

-- a table of the same length with the same words before n
module _ (c t : List ℕ) (n : ℕ) (sized : length t ≡ length c) (before : (i : ℕ) → i < n → get_or t i 0 ≡ get_or c i 0) (behind : 260 ≤ n) where
  pub begins_same : (l : ℕ) → l < 129 → begins_at t l ≡ begins_at c l
  begins_same l h = before (2 + l) (omega arith)

  pub keeps_same : (l : ℕ) → l < 129 → keeps_at t l ≡ keeps_at c l
  keeps_same l h = before (131 + l) (omega arith)

  pub laid_same : Laid c → Laid t
  laid_same laid = record {
    long = omega (arith, laid.long);
    short = omega (arith, laid.short);
    inside = λ l h. omega (arith, begins_same l h, keeps_same l h, laid.inside l h);
    few = λ l h. omega (arith, keeps_same l h, laid.few l h);
  }

  pub word_same : (l w : ℕ) → l < 128 → begins_at c l + keeps_at c l < n → word_at t l w ≡ word_at c l w
  word_same l w h ends =
      let small : l < 129 = omega arith in
      ap₂ (λ (x y : ℕ). get_or t (x + bit_and w y) 0) (begins_same l small) (keeps_same l small)
      ∙ before (begins_at c l + bit_and w (keeps_at c l)) (omega (arith, and_le_r w (keeps_at c l)))

-- the words of the row from e on are done
pub record ClashedTo (q n v e : ℕ) (c t : List ℕ) : Type 0 where
  pub sized : length t ≡ length c
  pub before : (i : ℕ) → i < n → get_or t i 0 ≡ get_or c i 0
  pub row : (u : ℕ) → within u v ≡ true → e ≤ u → ClashWord c q u (get_or t (n + u) 0)

module _ (q n v e w : ℕ) (c t : List ℕ) (room : n + v < length c) (behind : 260 ≤ n) (next : Greatest v e w)
    (few : (l : ℕ) → has q l ≡ true → l < 127) (ends : (l : ℕ) → l < 128 → begins_at c l + keeps_at c l < n) (so : ClashedTo q n v e c t) (x : ℕ) (word : ClashWord t q w x) where
  same : (l : ℕ) → l < 128 → word_at t l w ≡ word_at c l w
  same l h = word_same c t n so.sized so.before behind l w h (ends l h)

  at_entry : ClashWord c q w x
  at_entry = record {
    passes = λ k (l, h, p, r).
        word.passes k (
          l,
          h,
          ap (λ (y : ℕ). has y k) (same l (omega (arith, few l h))) ∙ p,
          ap (λ (y : ℕ). has y k) (same (l + 1) (omega (arith, few l h))) ∙ r,
        );
    says = λ k h.
        let found = word.says k h in (
          found.0,
          found.1,
          ap (λ (y : ℕ). has y k) (sym (same found.0 (omega (arith, few found.0 found.1)))) ∙ found.2,
          ap (λ (y : ℕ). has y k) (sym (same (found.0 + 1) (omega (arith, few found.0 found.1)))) ∙ found.3,
        );
  }

  inside : n + w < length t
  inside = omega (arith, so.sized, within_le w v next.inside)

  put_row : (u : ℕ) → within u v ≡ true → w ≤ u → ClashWord c q u (get_or (set t (n + w) x) (n + u) 0)
  put_row u i h = go (ℕ_discrete w u) (dec_lt u e)
    where
      go : Dec (w ≡ u) → Dec (u < e) → ClashWord c q u (get_or (set t (n + w) x) (n + u) 0)
      go (yes z) d =
          subst (λ (j : ℕ). ClashWord c q j (get_or (set t (n + w) x) (n + j) 0)) z
          (subst (ClashWord c q w) (sym (get_or-set_same t (n + w) x 0 inside)) at_entry)
      go (no o) (yes l) = absurd (omega (arith, next.greatest u i l))
      go (no o) (no l) =
          subst (ClashWord c q u) (sym (get_or-set_other t (n + w) (n + u) x 0 (λ z. omega arith))) (so.row u i (omega arith))

  pub clashed_next : ClashedTo q n v w c (set t (n + w) x)
  clashed_next = record {
    sized = length-set t (n + w) x ∙ so.sized;
    before = λ i h. get_or-set_other t (n + w) i x 0 (λ z. omega arith) ∙ so.before i h;
    row = put_row;
  }

pub clashed_row : {q n v e : ℕ} {c t : List ℕ} → e ≡ 0 → ClashedTo q n v e c t → ClashRow q n v c t
clashed_row z so = record { sized = so.sized; before = so.before; row = λ u i. so.row u i (omega arith) }
