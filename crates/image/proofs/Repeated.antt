-- Repeated rules, found in the table: links to the earlier rules with the same head, and what an equal row says of the bytes.
use mathlib.Core.Path.{◌≡◌, refl, sym, ap, subst, ◌∙◌}
use mathlib.Core.Bool.{Bool, true, false, false≢true, not, ◌||◌}
use mathlib.Core.List.{List, ◌∷◌}
use mathlib.Core.Logic.{◌⊎◌, inl, inr}
use Prim.Native.Nat.{ℕ, zero, suc, ◌+◌, ◌^◌, ◌<◌, ◌≤◌}
use native.Mathlib.Nat.{eq-or-lt_of_le}
use native.Mathlib.Decide.{dec_lt, ℕ_discrete}
use native.Mathlib.Omega.{arith}
use lib.ListN.{length, get_or, set, length-set}
use lib.Seq.{get_or-set_same, get_or-set_other}
use lib.Dec.{eqb}
use borrow.Author.Tests.{eqb-false, eq-eqb, ne_eqb}
use Rattle.lists.specs.Lists.{choose}
use Rattle.literals.specs.Sets.{insert_all}
use Rattle.literals.proofs.Tests.{or_left, or_right}
use Rattle.program.specs.Program.{Kind, strict, defeasible, Rule, is_defeasible}
use Rattle.program.specs.Inside.Table.{head_at, body_at, need_at, need_of, Row}
use Rattle.program.specs.Inside.Filling.{Stored}
use Rattle.layout.specs.Layout.{part_of, kind_byte, head_byte, body_bytes}
use Rattle.layout.specs.Causes.{same_bytes, stands_in}
use Rattle.layout.specs.Reading.{rule_in}
use Rattle.part.proofs.Bytes.{set_known, same_bytes_lem, bytes_same, part_split}
use Rattle.image.proofs.Accepted.{PartSound}
use Rattle.image.specs.Inside.Passes.{LastWith, Linked, linked_with, RowIs, SameIs, Repeats}

-- ---- one row
module _ (t : List ℕ) (j : ℕ) (d : Bool) (head set : ℕ) where
  pub other_body : eqb (body_at t j) set ≡ false → SameIs false t j d head set
  other_body h r = eqb-false _ _ h r.body_same

-- ---- from link to link: no row from `after` on is the same
pub record Missed (t : List ℕ) (after n : ℕ) (d : Bool) (head set : ℕ) : Type 0 where
  pub early : after ≤ n
  pub named : (j : ℕ) → after ≡ suc j → head_at t j ≡ head
  pub others : (j : ℕ) → after ≤ j → j < n → RowIs t j d head set → ⊥

module _ (t links : List ℕ) (n : ℕ) (l : Linked t links n) (d : Bool) (head set : ℕ) where
  pub missed_start : (after : ℕ) → after ≡ get_or links head 0 → head < 128 → Missed t after n d head set
  missed_start after e h =
      let x = l.last head h in
      subst (λ (k : ℕ). Missed t k n d head set) (sym e)
      (record { early = x.early; named = x.named; others = λ j a b r. x.others j a b r.head_same })

  pub missed_end : (after : ℕ) → after ≤ 0 → Missed t after n d head set → Repeats false t n d head set
  missed_end after z m j h r = m.others j (omega arith) h r

  -- the link leads to row j
  module _ (j after : ℕ) (e : after ≡ suc j) (m : Missed t after n d head set) where
    link : LastWith t (head_at t j) (get_or links (128 + j) 0) j
    link = let a = m.early in l.earlier j (omega arith)

    pub missed_fewer : get_or links (128 + j) 0 < after
    missed_fewer = let a = link.early in omega arith

    -- the comparison decides, or the one before it with this head comes next
    module _ (b : Bool) (c : SameIs b t j d (head_at t j) set) where
      compared : (x : Bool) → b ≡ x → SameIs x t j d head set
      compared x q = subst (λ (h : ℕ). SameIs x t j d h set) (m.named j e) (subst (λ (y : Bool). SameIs y t j d (head_at t j) set) q c)

      pub missed_found : b ≡ true → Repeats true t n d head set
      missed_found q = let h = m.early in (j, omega arith, compared true q)

      pub missed_next : (next : ℕ) → next ≡ get_or links (128 + j) 0 → b ≡ false → Missed t next n d head set
      missed_next next is q =
          subst (λ (k : ℕ). Missed t k n d head set) (sym is)
          (record {
            early = let a = link.early in let b = m.early in omega arith;
            named = λ k x. link.named k x ∙ m.named j e;
            others = λ k p x r. go k p x r (dec_lt k j) (ℕ_discrete k j);
          })
        where
          go : (k : ℕ) → get_or links (128 + j) 0 ≤ k → k < n → RowIs t k d head set → Dec (k < j) → Dec (k ≡ j) → ⊥
          go k p x r (yes h) y = link.others k p h (r.head_same ∙ sym (m.named j e))
          go k p x r (no h) (yes y) = compared false q (subst (λ (i : ℕ). RowIs t i d head set) y r)
          go k p x r (no h) (no y) = m.others k (omega arith) x r

-- ---- one rule more
module _ (t u links : List ℕ) (i head b : ℕ) (q : Rule) (l : Linked t links i) (long : length links ≡ 224) (small : head < 128) (few : i < 96) (k : Stored q i b t u) (is : q.head ≡ head) where
  abbrev after : List ℕ
  after = linked_with links head i

  here : head_at u i ≡ head
  here = k.row.head_is ∙ is

  before : (j : ℕ) → j < i → head_at u j ≡ head_at t j
  before j h = (k.rows_kept j (omega arith) (λ e. omega arith)).head_same

  kept : (h p m : ℕ) → m ≤ i → LastWith t h p m → LastWith u h p m
  kept h p m o c = record {
    early = c.early;
    named = λ j e. let x = c.early in before j (omega arith) ∙ c.named j e;
    others = λ j a x e. c.others j a x (sym (before j (omega arith)) ∙ e);
  }

  -- another head: the new rule has not got it
  further : (h p : ℕ) → (h ≡ head → ⊥) → LastWith t h p i → LastWith u h p (i + 1)
  further h p n c = let o = kept h p i (omega arith) c in record {
    early = let x = c.early in omega arith;
    named = o.named;
    others = λ j a x e. go j a e (ℕ_discrete j i) x;
  }
    where
      go : (j : ℕ) → p ≤ j → head_at u j ≡ h → Dec (j ≡ i) → j < i + 1 → ⊥
      go j a e (yes z) x = n (sym e ∙ ap (head_at u) z ∙ here)
      go j a e (no z) x = (kept h p i (omega arith) c).others j a (omega arith) e

  newest : LastWith u head (i + 1) (i + 1)
  newest = record {
    early = omega arith;
    named = λ j e. let z : j ≡ i = omega arith in ap (head_at u) z ∙ here;
    others = λ j a x e. absurd (omega arith);
  }

  at_head : get_or after head 0 ≡ i + 1
  at_head = get_or-set_same (set links (128 + i) (get_or links head 0)) head (i + 1) 0 (simp length-set (omega arith))

  at_other : (h : ℕ) → h < 128 → (h ≡ head → ⊥) → get_or after h 0 ≡ get_or links h 0
  at_other h o n =
      get_or-set_other (set links (128 + i) (get_or links head 0)) head h (i + 1) 0 (λ e. n e)
      ∙ get_or-set_other links (128 + i) h (get_or links head 0) 0 (λ e. omega arith)

  at_new : get_or after (128 + i) 0 ≡ get_or links head 0
  at_new =
      get_or-set_other (set links (128 + i) (get_or links head 0)) head (128 + i) (i + 1) 0 (λ e. omega arith)
      ∙ get_or-set_same links (128 + i) (get_or links head 0) 0 (omega arith)

  at_old : (j : ℕ) → j < i → get_or after (128 + j) 0 ≡ get_or links (128 + j) 0
  at_old j h =
      get_or-set_other (set links (128 + i) (get_or links head 0)) head (128 + j) (i + 1) 0 (λ e. omega arith)
      ∙ get_or-set_other links (128 + i) (128 + j) (get_or links head 0) 0 (λ e. omega arith)

  pub linked_more : Linked u after (i + 1)
  linked_more = record {
    last = λ h o. pick h o (ℕ_discrete h head);
    earlier = λ j o. prior j (ℕ_discrete j i) o;
  }
    where
      pick : (h : ℕ) → h < 128 → Dec (h ≡ head) → LastWith u h (get_or after h 0) (i + 1)
      pick h o (yes e) = subst (λ (x : ℕ). LastWith u x (get_or after x 0) (i + 1)) (sym e) (subst (λ (p : ℕ). LastWith u head p (i + 1)) (sym at_head) newest)
      pick h o (no n) = subst (λ (p : ℕ). LastWith u h p (i + 1)) (sym (at_other h o n)) (further h (get_or links h 0) n (l.last h o))

      prior : (j : ℕ) → Dec (j ≡ i) → j < i + 1 → LastWith u (head_at u j) (get_or after (128 + j) 0) j
      prior j (yes e) o =
          subst (λ (x : ℕ). LastWith u (head_at u x) (get_or after (128 + x) 0) x) (sym e)
          (subst (λ (p : ℕ). LastWith u (head_at u i) p i) (sym at_new)
          (subst (λ (h : ℕ). LastWith u h (get_or links head 0) i) (sym here) (kept head (get_or links head 0) i (omega arith) (l.last head small))))
      prior j (no n) o =
          let m : j < i = omega arith in
          subst (λ (p : ℕ). LastWith u (head_at u j) p j) (sym (at_old j m))
          (subst (λ (h : ℕ). LastWith u h (get_or links (128 + j) 0) j) (sym (before j m)) (kept (head_at t j) (get_or links (128 + j) 0) j (omega arith) (l.earlier j m)))

pub linked_none : (t links : List ℕ) → ((k : ℕ) → k < 224 → get_or links k 0 ≡ 0) → Linked t links 0
linked_none t links f = record {
  last = λ h o. let z = f h (omega arith) in record { early = omega arith; named = λ j e. absurd (omega arith); others = λ j a b e. absurd (omega arith) };
  earlier = λ k o. absurd (omega arith);
}

-- ---- an equal row is equal bytes
pub need_kind : (k : Kind) (b : ℕ) → not (eqb (need_of k b) 0) ≡ is_defeasible k
need_kind strict b = refl
need_kind defeasible b = ap not (ne_eqb (2 ^ b) 0 (λ e. omega (arith, pow_one b)))
  where
    pow_one : (n : ℕ) → 1 ≤ 2 ^ n
    pow_one zero = omega arith
    pow_one (suc n) = let x = pow_one n in omega arith

pub kind_test : (p : List ℕ) → is_defeasible (rule_in p).kind ≡ eqb (kind_byte p) 1
kind_test p = go (eqb (kind_byte p) 1)
  where
    go : (b : Bool) → is_defeasible (choose b defeasible strict) ≡ b
    go true = refl
    go false = refl

kinds_same : (a b : ℕ) → a ≤ 1 → b ≤ 1 → eqb a 1 ≡ eqb b 1 → a ≡ b
kinds_same a b h k e = go (ℕ_discrete a 1) (ℕ_discrete b 1)
  where
    go : Dec (a ≡ 1) → Dec (b ≡ 1) → a ≡ b
    go (yes x) (yes y) = x ∙ sym y
    go (yes x) (no y) = absurd (false≢true (sym (ne_eqb b 1 y) ∙ sym e ∙ eq-eqb a 1 x))
    go (no x) (yes y) = absurd (false≢true (sym (ne_eqb a 1 x) ∙ e ∙ eq-eqb b 1 y))
    go (no x) (no y) = omega arith

module _ (a b : List ℕ) (atoms m n : ℕ) (x : PartSound a atoms m) (y : PartSound b atoms n) where
  parts_same : eqb (kind_byte a) 1 ≡ eqb (kind_byte b) 1 → head_byte a ≡ head_byte b → insert_all 0 (body_bytes a) ≡ insert_all 0 (body_bytes b) → a ≡ b
  parts_same e f g =
      let k : kind_byte a ≡ kind_byte b = kinds_same (kind_byte a) (kind_byte b) x.kind_few y.kind_few e in
      let s : body_bytes a ≡ body_bytes b = set_known (body_bytes a) (body_bytes b) x.body y.body g in
      part_split a x.long
      ∙ ap (λ (n : ℕ). n ∷ head_byte a ∷ body_bytes a) k
      ∙ ap (λ (n : ℕ). kind_byte b ∷ n ∷ body_bytes a) f
      ∙ ap (λ (l : List ℕ). kind_byte b ∷ head_byte b ∷ l) s
      ∙ sym (part_split b y.long)

  module _ (t : List ℕ) (j bit head set : ℕ) (d : Bool) (r : Row (rule_in a) bit t j) (k : eqb (kind_byte b) 1 ≡ d) (h : head ≡ head_byte b) (s : set ≡ insert_all 0 (body_bytes b)) where
    kind_of_row : not (eqb (need_at t j) 0) ≡ eqb (kind_byte a) 1
    kind_of_row = ap (λ (n : ℕ). not (eqb n 0)) r.need_is ∙ need_kind (rule_in a).kind bit ∙ kind_test a

    pub row_bytes : RowIs t j d head set → same_bytes a b ≡ true
    row_bytes q =
        let e : a ≡ b = parts_same (sym kind_of_row ∙ q.kind_same ∙ sym k) (sym r.head_is ∙ q.head_same ∙ h) (sym r.body_is ∙ q.body_same ∙ s) in
        ap (λ (l : List ℕ). same_bytes l b) e ∙ bytes_same b

    pub bytes_row : same_bytes a b ≡ true → RowIs t j d head set
    bytes_row q =
        let e : a ≡ b = same_bytes_lem a b q in
        record {
          head_same = r.head_is ∙ ap head_byte e ∙ sym h;
          body_same = r.body_is ∙ ap (λ (l : List ℕ). insert_all 0 (body_bytes l)) e ∙ sym s;
          kind_same = kind_of_row ∙ ap (λ (l : List ℕ). eqb (kind_byte l) 1) e ∙ k;
        }

-- ---- among the parts from j on
module _ (s b : List ℕ) where
  pub stands_none : (n j : ℕ) → ((k : ℕ) → j ≤ k → k < j + n → same_bytes (part_of s k) b ≡ false) → stands_in s b j n ≡ false
  unfolding stands_in
  stands_none zero j f = refl
  stands_none (suc n) j f =
      ap (λ (x : Bool). x || stands_in s b (suc j) n) (f j (omega arith) (omega arith))
      ∙ stands_none n (suc j) (λ k a c. f k (omega arith) (omega arith))

  pub stands_some : (n j k : ℕ) → j ≤ k → k < j + n → same_bytes (part_of s k) b ≡ true → stands_in s b j n ≡ true
  unfolding stands_in
  stands_some zero j k a c e = absurd (omega arith)
  stands_some (suc n) j k a c e = go (eq-or-lt_of_le {n = j} {m = k} a) (stands_some n (suc j) k)
    where
      go : (j ≡ k) ⊎ (j < k) → (suc j ≤ k → k < suc j + n → same_bytes (part_of s k) b ≡ true → stands_in s b (suc j) n ≡ true) → (same_bytes (part_of s j) b || stands_in s b (suc j) n) ≡ true
      go (inl q) rest = or_left _ _ (ap (λ (i : ℕ). same_bytes (part_of s i) b) q ∙ e)
      go (inr l) rest = or_right (same_bytes (part_of s j) b) _ (rest l (omega arith) e)
