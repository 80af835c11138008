-- Bit by bit, the masks of the rules that each rule beats by a listed pair become those of all that it beats: once bit k has
-- handed on what its rule beats, chains through k are closed, and the later bits keep them so.
use mathlib.Core.Path.{◌≡◌, refl, sym, ap, subst, ◌∙◌}
use mathlib.Core.Bool.{Bool, true, false}
use mathlib.Core.List.{List, Memᴰ}
use mathlib.Core.Logic.{◌⊎◌, inl, inr}
use Prim.Native.Nat.{ℕ, suc, ◌+◌, ◌<◌}
use native.Mathlib.Numerals.{add-one}
use native.Mathlib.Nat.{eq-or-lt_of_le}
use native.Mathlib.Omega.{arith}
use lib.ListN.{length}
use lib.Bits.{or_add_and, and_le_r}
use lib.Seq.{get_or-set_same, get_or-set_other}
use Rattle.lists.proofs.Lists.{length_none}
use Rattle.lists.specs.Lists.{choose}
use Rattle.literals.specs.Sets.{has, union}
use Rattle.literals.proofs.Tests.{or_left, or_right, or_cases}
use Rattle.literals.proofs.Members.{has_union}
use Rattle.program.specs.Program.{Program, defeasibles, bit_of}
use Rattle.program.specs.Limits.{DefeasibleAt, Limits}
use Rattle.program.specs.Beats.{Beats, listed, through}
use Rattle.program.specs.Inside.Table.{beaten_at}
use Rattle.program.specs.Inside.Store.{with_beaten}
use Rattle.program.specs.Inside.Filling.{RowsTo, ListedIn, taken_over, HandedOn, Chained}
use Rattle.program.proofs.Numbers.{defeasible_test, defeasible_found, bit_of_below}
use Rattle.program.proofs.Pairs.{listed_found, listed_has}
use Rattle.program.proofs.Fillings.{rows_same}

-- ---- chains

pub beats_trans : {p : Program} {a b c : ℕ} → Beats p a b → Beats p b c → Beats p a c
beats_trans (listed i) u = through i u
beats_trans (through i s) u = through i (beats_trans s u)

-- "Rules on a closed chain beat each other and themselves."
pub beats_closed : {p : Program} {a b : ℕ} → Beats p a b → Beats p b a → Beats p a a × Beats p b b
beats_closed there back = (beats_trans there back, beats_trans back there)

-- what is beaten is a defeasible rule
pub beats_second : {p : Program} → Limits p → {a b : ℕ} → Beats p a b → DefeasibleAt p.rules b
beats_second limits (listed {a} {b} i) = (limits.pairs_name a b i).second
beats_second limits (through i s) = beats_second limits s

-- ---- row by row

pub handed_none : (k : ℕ) (s : List ℕ) → HandedOn k 0 s s
handed_none k s = record { taken = λ i h. absurd (omega arith); left = λ i h l. refl; others = λ w h. refl }

module _ {k i : ℕ} {s t : List ℕ} (small : i < 16) (r : HandedOn k i s t) where
  still : beaten_at t i ≡ beaten_at s i
  still = r.left i (omega arith) small

  pub handed_skip : (own : ℕ) → own ≡ beaten_at t i → has own k ≡ false → HandedOn k (i + 1) s t
  handed_skip own eo e = record {
    taken = λ j h. at j (eq-or-lt_of_le {n = j} {m = i} (omega arith));
    left = λ j h l. r.left j (omega arith) l;
    others = r.others;
  }
    where
      not_it : has (beaten_at s i) k ≡ false
      not_it = ap (λ (m : ℕ). has m k) (sym (eo ∙ still)) ∙ e

      at : (j : ℕ) → (j ≡ i) ⊎ (j < i) → beaten_at t j ≡ taken_over k s j
      at j (inl q) = rw q (still ∙ sym (ap (λ (b : Bool). choose b (union (beaten_at s i) (beaten_at s k)) (beaten_at s i)) not_it))
      at j (inr h) = r.taken j h

  pub handed_more : {u : List ℕ} (own handed : ℕ) → length t ≡ 419 → own ≡ beaten_at t i → has own k ≡ true
      → handed ≡ beaten_at s k → u ≡ with_beaten t i (union own handed) → HandedOn k (i + 1) s u
  handed_more {u} own handed long eo e eh eu = subst (HandedOn k (i + 1) s) (sym eu) (record {
    taken = λ j h. at j h (eq-or-lt_of_le {n = j} {m = i} (omega arith));
    left = λ j h l. get_or-set_other t (400 + i) (400 + j) (union own handed) 0 (λ q. omega arith) ∙ r.left j (omega arith) l;
    others = λ w h. get_or-set_other t (400 + i) w (union own handed) 0 (λ q. omega arith) ∙ r.others w h;
  })
    where
      own_is : own ≡ beaten_at s i
      own_is = eo ∙ still

      it : has (beaten_at s i) k ≡ true
      it = ap (λ (m : ℕ). has m k) (sym own_is) ∙ e

      made : union own handed ≡ taken_over k s i
      made =
          ap (λ (m : ℕ). union m handed) own_is
          ∙ ap (union (beaten_at s i)) eh
          ∙ sym (ap (λ (b : Bool). choose b (union (beaten_at s i) (beaten_at s k)) (beaten_at s i)) it)

      at : (j : ℕ) → j < i + 1 → (j ≡ i) ⊎ (j < i) → beaten_at (with_beaten t i (union own handed)) j ≡ taken_over k s j
      at j h (inl q) = rw q (get_or-set_same t (400 + i) (union own handed) 0 (omega arith) ∙ made)
      at j h (inr l) = get_or-set_other t (400 + i) (400 + j) (union own handed) 0 (λ q. omega arith) ∙ r.taken j l

pub handed_all : {k i n : ℕ} {s t : List ℕ} → i ≡ n → HandedOn k i s t → HandedOn k n s t
handed_all {k} {s = s} {t} e r = subst (λ (m : ℕ). HandedOn k m s t) e r

-- a rule that beats nothing has nothing to hand on
pub handed_nothing : {k n : ℕ} {s : List ℕ} → beaten_at s k ≡ 0 → HandedOn k n s s
handed_nothing {k} {n} {s} e = record {
  taken = λ i h. sym (same (beaten_at s i) (has (beaten_at s i) k));
  left = λ i h l. refl;
  others = λ w h. refl;
}
  where
    same : (m : ℕ) (b : Bool) → choose b (union m (beaten_at s k)) m ≡ m
    same m true = omega (arith, e, or_add_and m (beaten_at s k), and_le_r m (beaten_at s k))
    same m false = refl

-- ---- what bit k hands on

module _ {k n : ℕ} {s t : List ℕ} (r : HandedOn k n s t) (i : ℕ) (h : i < n) (j : ℕ) where
  after_keeps : has (beaten_at s i) j ≡ true → has (beaten_at t i) j ≡ true
  after_keeps e = rw (r.taken i h) (go (has (beaten_at s i) k))
    where
      go : (b : Bool) → has (choose b (union (beaten_at s i) (beaten_at s k)) (beaten_at s i)) j ≡ true
      go true = has_union (beaten_at s i) (beaten_at s k) j ∙ or_left (has (beaten_at s i) j) (has (beaten_at s k) j) e
      go false = e

  after_joins : has (beaten_at s i) k ≡ true → has (beaten_at s k) j ≡ true → has (beaten_at t i) j ≡ true
  after_joins e f =
      rw (r.taken i h, e)
      (has_union (beaten_at s i) (beaten_at s k) j ∙ or_right (has (beaten_at s i) j) (has (beaten_at s k) j) f)

  after_found : has (beaten_at t i) j ≡ true
      → (has (beaten_at s i) j ≡ true) ⊎ ((has (beaten_at s i) k ≡ true) × (has (beaten_at s k) j ≡ true))
  after_found e = go (has (beaten_at s i) k) refl (rw (r.taken i h) at e)
    where
      either : has (beaten_at s i) k ≡ true → (has (beaten_at s i) j ≡ true) ⊎ (has (beaten_at s k) j ≡ true)
          → (has (beaten_at s i) j ≡ true) ⊎ ((has (beaten_at s i) k ≡ true) × (has (beaten_at s k) j ≡ true))
      either b (inl u) = inl u
      either b (inr u) = inr (b, u)

      go : (b : Bool) → has (beaten_at s i) k ≡ b
          → has (choose b (union (beaten_at s i) (beaten_at s k)) (beaten_at s i)) j ≡ true
          → (has (beaten_at s i) j ≡ true) ⊎ ((has (beaten_at s i) k ≡ true) × (has (beaten_at s k) j ≡ true))
      go true b u =
          either b (or_cases (has (beaten_at s i) j) (has (beaten_at s k) j) (sym (has_union (beaten_at s i) (beaten_at s k) j) ∙ u))
      go false b u = inl u

-- ---- bit by bit

-- chains through the first k bits are closed
pub record ChainedTo (p : Program) (k : ℕ) (t : List ℕ) : Type 0 where
  pub rows : RowsTo p.rules (length p.rules) t
  pub sound : (a : ℕ) → DefeasibleAt p.rules a → (j : ℕ) → has (beaten_at t (bit_of p.rules a)) j ≡ true
      → (b : ℕ) × Beats p a b × (bit_of p.rules b ≡ j)
  pub direct : (a b : ℕ) → Memᴰ (a, b) p.pairs → has (beaten_at t (bit_of p.rules a)) (bit_of p.rules b) ≡ true
  pub closed : (c : ℕ) → c < k → (i j : ℕ) → i < defeasibles p.rules
      → has (beaten_at t i) c ≡ true → has (beaten_at t c) j ≡ true → has (beaten_at t i) j ≡ true

module _ {p : Program} (limits : Limits p) where
  pub chained_start : {t : List ℕ} → ListedIn p t → ChainedTo p 0 t
  chained_start {t} b = record {
    rows = b.rows;
    sound = λ a d j h.
        let f = listed_found p a j (subst (λ (m : ℕ). has m j ≡ true) (b.listed_is a d.there (defeasible_test d)) h) in
        (f.0, listed f.1, f.2);
    direct = λ a c i.
        let q = limits.pairs_name a c i in
        subst (λ (m : ℕ). has m (bit_of p.rules c) ≡ true)
        (sym (b.listed_is a q.first.there (defeasible_test q.first)))
        (listed_has p a c i);
    closed = λ c h i j l e f. absurd (omega arith);
  }

  module _ {k : ℕ} {s t : List ℕ} (inside : k < defeasibles p.rules) (c : ChainedTo p k s)
      (r : HandedOn k (defeasibles p.rules) s t) where
    sound_after : (a : ℕ) → DefeasibleAt p.rules a → (j : ℕ) → has (beaten_at t (bit_of p.rules a)) j ≡ true
        → (b : ℕ) × Beats p a b × (bit_of p.rules b ≡ j)
    sound_after a d j h = go (after_found r (bit_of p.rules a) (bit_of_below p.rules d) j h)
      where
        go : (has (beaten_at s (bit_of p.rules a)) j ≡ true)
            ⊎ ((has (beaten_at s (bit_of p.rules a)) k ≡ true) × (has (beaten_at s k) j ≡ true))
            → (b : ℕ) × Beats p a b × (bit_of p.rules b ≡ j)
        go (inl u) = c.sound a d j u
        go (inr (u, v)) =
            let (m, first, e) = c.sound a d k u in
            let (b, second, f) = c.sound m (beats_second limits first) j
            (subst (λ (i : ℕ). has (beaten_at s i) j ≡ true) (sym e) v) in
            (b, beats_trans first second, f)

    closed_after : (m : ℕ) → (m ≡ k) ⊎ (m < k) → (i j : ℕ) → i < defeasibles p.rules
        → has (beaten_at t i) m ≡ true → has (beaten_at t m) j ≡ true → has (beaten_at t i) j ≡ true
    closed_after m (inl e) i j l u v =
        after_joins r i l j (to (after_found r i l k (rw e at u))) (from (after_found r k inside j (rw e at v)))
      where
        to : (has (beaten_at s i) k ≡ true) ⊎ ((has (beaten_at s i) k ≡ true) × (has (beaten_at s k) k ≡ true))
            → has (beaten_at s i) k ≡ true
        to (inl x) = x
        to (inr x) = x.0

        from : (has (beaten_at s k) j ≡ true) ⊎ ((has (beaten_at s k) k ≡ true) × (has (beaten_at s k) j ≡ true))
            → has (beaten_at s k) j ≡ true
        from (inl x) = x
        from (inr x) = x.1
    closed_after m (inr h) i j l u v = go (after_found r i l m u) (after_found r m (omega arith) j v)
      where
        at : (x y : ℕ) → x < defeasibles p.rules → has (beaten_at s x) m ≡ true → has (beaten_at s m) y ≡ true
            → has (beaten_at s x) y ≡ true
        at x y b = c.closed m h x y b

        go : (has (beaten_at s i) m ≡ true) ⊎ ((has (beaten_at s i) k ≡ true) × (has (beaten_at s k) m ≡ true))
            → (has (beaten_at s m) j ≡ true) ⊎ ((has (beaten_at s m) k ≡ true) × (has (beaten_at s k) j ≡ true))
            → has (beaten_at t i) j ≡ true
        go (inl x) (inl y) = after_keeps r i l j (at i j l x y)
        go (inl x) (inr y) = after_joins r i l j (at i k l x y.0) y.1
        go (inr x) (inl y) = after_joins r i l j x.0 (at k j inside x.1 y)
        go (inr x) (inr y) = after_joins r i l j x.0 y.1

    chained_more : ChainedTo p (suc k) t
    chained_more =
        let few = limits.rules_limit in
        let bits = limits.defeasibles_limit in
        record {
          rows = rows_same p.rules (length p.rules) s t few bits r.others c.rows;
          sound = sound_after;
          direct = λ a b i.
              after_keeps r (bit_of p.rules a) (bit_of_below p.rules (limits.pairs_name a b i).first) (bit_of p.rules b)
              (c.direct a b i);
          closed = λ m h. closed_after m (eq-or-lt_of_le {n = m} {m = k} (omega arith));
        }

  -- closed for every bit, the masks have the end of each chain
  chained_all : {t : List ℕ} → ChainedTo p (defeasibles p.rules) t → Chained p t
  chained_all {t} c = record {
    rows = c.rows;
    beaten_is = λ i h d. record { found = c.sound i (defeasible_found p.rules i d); each = ends };
  }
    where
      ends : {a b : ℕ} → Beats p a b → has (beaten_at t (bit_of p.rules a)) (bit_of p.rules b) ≡ true
      ends (listed {a} {b} i) = c.direct a b i
      ends (through {a} {c = m} {b} i u) =
          let q = limits.pairs_name a m i in
          c.closed (bit_of p.rules m) (bit_of_below p.rules q.second) (bit_of p.rules a) (bit_of p.rules b)
          (bit_of_below p.rules q.first) (c.direct a m i) (ends u)

  -- where no pair is listed nothing is beaten
  pub chained_none : {t : List ℕ} → length p.pairs ≡ 0 → ListedIn p t → Chained p t
  chained_none {t} e b =
      let c = chained_start b in
      record {
        rows = c.rows;
        beaten_is = λ i h d. record { found = c.sound i (defeasible_found p.rules i d); each = λ u. absurd (none u) };
      }
    where
      none : {a b : ℕ} → Beats p a b → ⊥
      none (listed i) = length_none p.pairs (omega arith) i
      none (through i u) = length_none p.pairs (omega arith) i

  -- the same over the number of bits that the code has
  pub chained_turn : {k n : ℕ} {s t : List ℕ} → n ≡ defeasibles p.rules → k < n → ChainedTo p k s → HandedOn k n s t
      → ChainedTo p (k + 1) t
  chained_turn {k} {n} {s} {t} e h c r =
      rw (add-one k) (chained_more (omega arith) c (subst (λ (m : ℕ). HandedOn k m s t) e r))

  pub chained_end : {k : ℕ} {t : List ℕ} → k ≡ defeasibles p.rules → ChainedTo p k t → Chained p t
  chained_end {k} {t} e c = chained_all (subst (λ (m : ℕ). ChainedTo p m t) e c)
