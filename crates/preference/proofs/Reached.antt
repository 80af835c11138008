-- Rounds over the pairs reach what a chain of pairs leads to, and nothing else: a round that is not the last adds the second
-- rule of some pair, and there are no more of those than pairs.
use mathlib.Core.Path.{◌≡◌, refl, sym, ap, subst, ◌∙◌}
use mathlib.Core.Bool.{Bool, true, false, not}
use mathlib.Core.List.{List, [], ◌∷◌, Memᴰ}
use mathlib.Core.Logic.{◌⊎◌, inl, inr, ⊎_elim}
use Prim.Native.Nat.{ℕ, zero, suc, ◌≤◌, ◌<◌}
use native.Mathlib.Omega.{arith}
use lib.ListN.{length}
use lib.Dec.{T, eqb, eqb→eq, eqb_refl, not_T, T_not}
use Rattle.lists.specs.Lists.{keep, any, filter, member}
use Rattle.lists.specs.Decides.{Decides}
use Rattle.lists.proofs.Lists.{and_intro, and_both, T_known, length_none, keep_head, keep_tail, keep_cases, any_intro, any_found}
use Rattle.lists.proofs.Lists.{filter_intro, filter_found, filter_length, filter_lt, map_intro, map_found}
use Rattle.lists.proofs.Lists.{member_intro, member_found, member_known}
use Rattle.program.specs.Program.{Program}
use Rattle.program.specs.Beats.{Beats, listed, through}
use Rattle.program.proofs.Chaining.{beats_trans}
use Rattle.preference.specs.Reached.{adds, follow, spread, rounds, listed_after, reached}
use Rattle.preference.specs.Preference.{beats_test}

-- ---- one pair

module _ (q : ℕ × ℕ) (s : List ℕ) where
  follow_keeps : {x : ℕ} → Memᴰ x s → Memᴰ x (follow q s)
  follow_keeps i = keep_tail (adds q s) q.1 i

  -- where the first rule is reached, the second is, or the pair adds it
  second_known : Memᴰ q.0 s → Memᴰ q.1 s ⊎ T (adds q s)
  second_known i = ⊎_elim inl (λ n. inr (and_intro (member q.0 s) (not (member q.1 s)) (member_intro s i) n)) (member_known q.1 s)

  follow_has : Memᴰ q.0 s → Memᴰ q.1 (follow q s)
  follow_has i = ⊎_elim follow_keeps (keep_head (adds q s) q.1 s) (second_known i)

  follow_found : {x : ℕ} → Memᴰ x (follow q s) → ((x ≡ q.1) × Memᴰ q.0 s) ⊎ Memᴰ x s
  follow_found {x} i = go (keep_cases (adds q s) q.1 x s i)
    where
      go : ((x ≡ q.1) × T (adds q s)) ⊎ Memᴰ x s
          → ((x ≡ q.1) × Memᴰ q.0 s) ⊎ Memᴰ x s
      go (inl (e, h)) = inl (e, member_found s (and_both (member q.0 s) (not (member q.1 s)) h).0)
      go (inr j) = inr j

  -- the second rule is there, if the first is
  follow_same : (Memᴰ q.0 s → Memᴰ q.1 s) → follow q s ≡ s
  follow_same f = go (adds q s) none
    where
      none : T (adds q s) → ⊥
      none h =
          let b = and_both (member q.0 s) (not (member q.1 s)) h in
          T_not (member q.1 s) b.1 (member_intro s (f (member_found s b.0)))

      go : (b : Bool) → (T b → ⊥) → keep b q.1 s ≡ s
      go true n = absurd (n tt)
      go false n = refl

-- ---- a round

spread_keeps : (ps : List (ℕ × ℕ)) (s : List ℕ) {x : ℕ} → Memᴰ x s → Memᴰ x (spread ps s)
unfolding spread
spread_keeps [] s i = i
spread_keeps (q ∷ ps) s i = spread_keeps ps (follow q s) (follow_keeps q s i)

spread_follows : (ps : List (ℕ × ℕ)) (s : List ℕ) (q : ℕ × ℕ) → Memᴰ q ps → Memᴰ q.0 s
    → Memᴰ q.1 (spread ps s)
unfolding spread
spread_follows [] s q none i = elim none [ ]
spread_follows (r ∷ ps) s q (Memᴰ.head e) i =
    spread_keeps ps (follow r s)
    (subst (λ (z : ℕ × ℕ). Memᴰ q.1 (follow z s)) e (follow_has q s i))
spread_follows (r ∷ ps) s q (Memᴰ.tail j) i = spread_follows ps (follow r s) q j (follow_keeps r s i)

-- what the pairs lead on is kept
module _ (P : ℕ → Type 0) where
  spread_sound : (ps : List (ℕ × ℕ)) → ((q : ℕ × ℕ) → Memᴰ q ps → P q.0 → P q.1) → (s : List ℕ)
      → ((x : ℕ) → Memᴰ x s → P x) → (x : ℕ) → Memᴰ x (spread ps s) → P x
  unfolding spread
  spread_sound [] lead s each x i = each x i
  spread_sound (q ∷ ps) lead s each x i =
      spread_sound ps (λ r j. lead r (Memᴰ.tail j)) (follow q s) (λ y j. go y (follow_found q s j)) x i
    where
      go : (y : ℕ) → ((y ≡ q.1) × Memᴰ q.0 s) ⊎ Memᴰ y s → P y
      go y (inl (e, j)) = subst P (sym e) (lead q (Memᴰ.head refl) (each q.0 j))
      go y (inr j) = each y j

  rounds_sound : (n : ℕ) (ps : List (ℕ × ℕ)) → ((q : ℕ × ℕ) → Memᴰ q ps → P q.0 → P q.1) → (s : List ℕ)
      → ((x : ℕ) → Memᴰ x s → P x) → (x : ℕ) → Memᴰ x (rounds n ps s) → P x
  unfolding rounds
  rounds_sound zero ps lead s each x i = each x i
  rounds_sound (suc n) ps lead s each x i = rounds_sound n ps lead (spread ps s) (spread_sound ps lead s each) x i

-- ---- until nothing is added

module _ (ps : List (ℕ × ℕ)) where
  abbrev Closed : List ℕ → Type 0
  Closed s = (q : ℕ × ℕ) → Memᴰ q ps → Memᴰ q.0 s → Memᴰ q.1 s

  rounds_keeps : (n : ℕ) (s : List ℕ) {x : ℕ} → Memᴰ x s → Memᴰ x (rounds n ps s)
  unfolding rounds
  rounds_keeps zero s i = i
  rounds_keeps (suc n) s i = rounds_keeps n (spread ps s) (spread_keeps ps s i)

spread_same : (ps : List (ℕ × ℕ)) (s : List ℕ) → Closed ps s → spread ps s ≡ s
unfolding spread
spread_same [] s c = refl
spread_same (q ∷ ps) s c =
    ap (spread ps) (follow_same q s (c q (Memᴰ.head refl))) ∙ spread_same ps s (λ r j. c r (Memᴰ.tail j))

module _ (ps : List (ℕ × ℕ)) where
  rounds_same : (n : ℕ) (s : List ℕ) → Closed ps s → rounds n ps s ≡ s
  unfolding rounds
  rounds_same zero s c = refl
  rounds_same (suc n) s c = ap (rounds n ps) (spread_same ps s c) ∙ rounds_same n s c

  -- the pairs whose second rule is not reached
  abbrev missing : List ℕ → List (ℕ × ℕ)
  missing s = filter (λ q. not (member q.1 s)) ps

  none_adds : (s : List ℕ) → (T (any (λ q. adds q s) ps) → ⊥) → Closed ps s
  none_adds s n q j i = ⊎_elim (λ k. k) (λ h. absurd (n (any_intro (λ r. adds r s) ps j h))) (second_known q s i)

  fewer_missing : (s : List ℕ) (q : ℕ × ℕ) → Memᴰ q ps → T (adds q s) → length (missing (spread ps s)) < length (missing s)
  fewer_missing s q j h =
      let b = and_both (member q.0 s) (not (member q.1 s)) h in
      filter_lt (λ r. not (member r.1 (spread ps s))) (λ r. not (member r.1 s))
      (λ r k. not_T (member r.1 s) (λ t.
      T_not (member r.1 (spread ps s)) k (member_intro (spread ps s) (spread_keeps ps s (member_found s t)))))
      ps j b.1
      (λ k. T_not (member q.1 (spread ps s)) k
      (member_intro (spread ps s) (spread_follows ps s q j (member_found s b.0))))

  none_missing : (s : List ℕ) → length (missing s) ≤ 0 → Closed ps s
  none_missing s h q j i =
      ⊎_elim (λ k. k) (λ f. absurd (length_none (missing s) h (filter_intro (λ r. not (member r.1 s)) ps j f))) (member_known q.1 s)

  rounds_closed : (n : ℕ) (s : List ℕ) → length (missing s) ≤ n → Closed ps (rounds n ps s)
  unfolding rounds
  rounds_closed zero s h = none_missing s h
  rounds_closed (suc n) s h = go (T_known (any (λ q. adds q s) ps)) (rounds_closed n (spread ps s))
    where
      go : T (any (λ q. adds q s) ps) ⊎ (T (any (λ q. adds q s) ps) → ⊥)
          → (length (missing (spread ps s)) ≤ n → Closed ps (rounds n ps (spread ps s)))
          → Closed ps (rounds n ps (spread ps s))
      go (inl t) rest =
          let (q, j, o) = any_found (λ r. adds r s) ps t in
          let less = fewer_missing s q j o in
          rest (omega arith)
      go (inr f) rest =
          let c = none_adds s f in
          subst (Closed ps) (sym (ap (rounds n ps) (spread_same ps s c) ∙ rounds_same n s c)) c

-- ---- of a program: the rules reached are those that a rule of the set beats

module _ (p : Program) (of : ℕ → Bool) where
  -- some rule of the set beats x
  abbrev pub BeatenBy : ℕ → Type 0
  BeatenBy x = (a : ℕ) × T (of a) × Beats p a x

  after_found : (x : ℕ) → Memᴰ x (listed_after p of) → BeatenBy x
  after_found x i =
      let (q, j, e) = map_found (λ (r : ℕ × ℕ). r.1) (filter (λ r. of r.0) p.pairs) i in
      let f = filter_found (λ (r : ℕ × ℕ). of r.0) p.pairs j in
      (q.0, f.1, subst (Beats p q.0) (sym e) (listed f.0))

  after_intro : (a x : ℕ) → T (of a) → Memᴰ (a, x) p.pairs → Memᴰ x (listed_after p of)
  after_intro a x h i =
      map_intro (λ (q : ℕ × ℕ). q.1) (filter (λ q. of q.0) p.pairs)
      (filter_intro (λ (q : ℕ × ℕ). of q.0) p.pairs i h)

  pub reached_found : (x : ℕ) → Memᴰ x (reached p of) → BeatenBy x
  reached_found x i =
      rounds_sound BeatenBy _ p.pairs
      (λ q j b. (b.0, b.1, beats_trans b.2 (listed j)))
      (listed_after p of) after_found x i

  pub reached_intro : {a x : ℕ} → T (of a) → Beats p a x → Memᴰ x (reached p of)
  reached_intro {a} {x} h b = go b
    where
      closed : Closed p.pairs (reached p of)
      closed =
          rounds_closed p.pairs _ (listed_after p of)
          (filter_length (λ (q : ℕ × ℕ). not (member q.1 (listed_after p of))) p.pairs)

      start : (y : ℕ) → Memᴰ (a, y) p.pairs → Memᴰ y (reached p of)
      start y i = rounds_keeps p.pairs _ (listed_after p of) (after_intro a y h i)

      on : {y z : ℕ} → Memᴰ y (reached p of) → Beats p y z → Memᴰ z (reached p of)
      on i (listed {a = y} {b = z} j) = closed (y, z) j i
      on i (through {a = y} {c} j u) = on (closed (y, c) j i) u

      go : Beats p a x → Memᴰ x (reached p of)
      go (listed j) = start x j
      go (through {c = c} j u) = on (start c j) u

-- both forms of "beats" are one, of every program
pub beats_renders : (p : Program) (a b : ℕ) → Decides (beats_test p a b) (Beats p a b)
beats_renders p a b = record {
  says = λ h.
      let f = reached_found p (eqb a) b (member_found (reached p (eqb a)) h) in
      subst (λ (c : ℕ). Beats p c b) (sym (eqb→eq a f.0 f.1)) f.2;
  passes = λ u. member_intro (reached p (eqb a)) (reached_intro p (eqb a) (eqb_refl a) u);
}
