-- Sets made of a list, and the test that a set has all of a list.
use mathlib.Core.Path.{◌≡◌, refl, sym, ap, ◌∙◌}
use mathlib.Core.Bool.{true, false≢true}
use mathlib.Core.List.Memᴰ
use mathlib.Core.List.{List, [], ◌∷◌, Memᴰ}
use mathlib.Core.Logic.{◌⊎◌, inl, inr, ⊎_elim}
use Prim.Native.Nat.{ℕ, ◌^◌, ◌<◌}
use Rattle.literals.specs.Sets.{has, insert, insert_all, has_all, within}
use Rattle.literals.proofs.Tests.{same_test, and_intro, and_left, and_right}
use Rattle.literals.proofs.Members.{has_empty, has_insert_same, insert_cases, insert_keeps, insert_below}
use Rattle.literals.proofs.Within.{within_each, each_within}

-- k is in s with a list exactly if it is in s or in the list
pub insert_all_cases : (s : ℕ) (l : List ℕ) (k : ℕ) → has (insert_all s l) k ≡ true → (has s k ≡ true) ⊎ Memᴰ k l
unfolding insert_all
insert_all_cases s [] k e = inl e
insert_all_cases s (j ∷ l) k e =
    ⊎_elim (λ p. ⊎_elim (λ q. inl q) (λ q. inr (Memᴰ.head q)) (insert_cases s j k p)) (λ d. inr (Memᴰ.tail d))
    (insert_all_cases (insert s j) l k e)

pub insert_all_keeps : (s : ℕ) (l : List ℕ) (k : ℕ) → has s k ≡ true → has (insert_all s l) k ≡ true
unfolding insert_all
insert_all_keeps s [] k e = e
insert_all_keeps s (j ∷ l) k e = insert_all_keeps (insert s j) l k (insert_keeps s j k e)

pub has_insert_all : (s : ℕ) (l : List ℕ) (k : ℕ) → Memᴰ k l → has (insert_all s l) k ≡ true
unfolding insert_all
has_insert_all s [] k d = absurd (Memᴰ.not-nil d)
has_insert_all s (j ∷ l) k d =
    ⊎_elim (λ e. insert_all_keeps (insert s j) l k (ap (has (insert s j)) e ∙ has_insert_same s j)) (has_insert_all (insert s j) l k)
    (Memᴰ.cases_cons d)

pub insert_all_below : (n s : ℕ) (l : List ℕ) → s < 2 ^ n → ((k : ℕ) → Memᴰ k l → k < n) → insert_all s l < 2 ^ n
unfolding insert_all
insert_all_below n s [] h f = h
insert_all_below n s (j ∷ l) h f =
    insert_all_below n (insert s j) l (insert_below n s j h (f j (Memᴰ.head refl))) (λ k d. f k (Memᴰ.tail d))

-- s has all of a list exactly if it has each member of the list
pub has_all_each : (s : ℕ) (l : List ℕ) → has_all s l ≡ true → (k : ℕ) → Memᴰ k l → has s k ≡ true
unfolding has_all
has_all_each s [] e k d = absurd (Memᴰ.not-nil d)
has_all_each s (j ∷ l) e k d =
    ⊎_elim (λ q. ap (has s) q ∙ and_left (has s j) (has_all s l) e) (has_all_each s l (and_right (has s j) (has_all s l) e) k)
    (Memᴰ.cases_cons d)

pub each_has_all : (s : ℕ) (l : List ℕ) → ((k : ℕ) → Memᴰ k l → has s k ≡ true) → has_all s l ≡ true
unfolding has_all
each_has_all s [] f = refl
each_has_all s (j ∷ l) f =
    and_intro (has s j) (has_all s l) (f j (Memᴰ.head refl)) (each_has_all s l (λ k d. f k (Memᴰ.tail d)))

-- which is one comparison of sets
pub has_all_within : (s : ℕ) (l : List ℕ) → has_all s l ≡ within (insert_all 0 l) s
has_all_within s l =
    same_test (has_all s l) (within (insert_all 0 l) s)
    (λ e.
    each_within (insert_all 0 l) s (λ k h.
    ⊎_elim (λ q. absurd (false≢true (sym (has_empty k) ∙ q))) (has_all_each s l e k) (insert_all_cases 0 l k h)))
    (λ w. each_has_all s l (λ k d. within_each (insert_all 0 l) s w k (has_insert_all 0 l k d)))
