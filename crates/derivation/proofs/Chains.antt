-- The closure has exactly the literals that a chain derives.
use mathlib.Core.Path.{◌≡◌, refl, sym, ap, ◌∙◌, subst}
use mathlib.Core.Bool.{true, false≢true}
use mathlib.Core.List.Memᴰ
use mathlib.Core.List.{List, [], ◌∷◌, ◌++◌, map, Memᴰ}
use mathlib.Core.Logic.{⊎_elim}
use Prim.Native.Nat.{ℕ}
use Rattle.literals.specs.Sets.{has, insert_all}
use Rattle.literals.proofs.Members.{has_empty}
use Rattle.literals.proofs.Lists.{insert_all_cases, has_insert_all}
use Rattle.literals.proofs.Within.{within_each}
use Rattle.program.specs.Program.{Rule, fact}
use Rattle.derivation.specs.Derivation.{Chain, start, link, Derives}
use Rattle.derivation.specs.Closure.{closure, derives}
use Rattle.derivation.proofs.Rounds.{ClosedUnder}
use Rattle.derivation.proofs.Closures.{closure_ind, closure_contains, closure_closed}

module _ (rules : List Rule) where
  -- a predicate that the rules keep holds of each literal of a chain
  chain_ind : (P : ℕ → Type 0) → ClosedUnder rules P → {l : List ℕ} → Chain rules l → (h : ℕ) → Memᴰ h l → P h
  chain_ind P c start h i = absurd (Memᴰ.not-nil i)
  chain_ind P c (link r j f d) h i =
      ⊎_elim (λ e. subst P (sym e) (c r j (λ b n. chain_ind P c d b (f b n)))) (λ t. chain_ind P c d h t) (Memᴰ.cases_cons i)

  pub derives_ind : (P : ℕ → Type 0) → ClosedUnder rules P → (h : ℕ) → Derives rules h → P h
  derives_ind P c h d = chain_ind P c d.1 h (Memᴰ.head refl)

  -- one chain after another is a chain
  chain_append : {a b : List ℕ} → Chain rules a → Chain rules b → Chain rules (a ++ b)
  chain_append start e = e
  chain_append {b} (link r j f d) e = link r j (λ k i. Memᴰ.append_left b (f k i)) (chain_append d e)

  -- one chain for the whole of a list
  chain_all : (l : List ℕ) → ((k : ℕ) → Memᴰ k l → Derives rules k)
      → (c : List ℕ) × Chain rules c × ((k : ℕ) → Memᴰ k l → Memᴰ k c)
  chain_all [] f = ([], start, λ k i. absurd (Memᴰ.not-nil i))
  chain_all (k ∷ l) f = both (f k (Memᴰ.head refl)) (chain_all l (λ j i. f j (Memᴰ.tail i)))
    where
      both : Derives rules k → (c : List ℕ) × Chain rules c × ((j : ℕ) → Memᴰ j l → Memᴰ j c)
          → (c : List ℕ) × Chain rules c × ((j : ℕ) → Memᴰ j (k ∷ l) → Memᴰ j c)
      both (a, d) (c, e, g) = (
        (k ∷ a) ++ c,
        chain_append d e,
        λ j i.
            ⊎_elim (λ q. Memᴰ.head {xs = a ++ c} q) (λ t. Memᴰ.append_right (k ∷ a) (g j t)) (Memᴰ.cases_cons i),
      )

  -- what a rule derives from derived literals is derived
  pub derives_rule : ClosedUnder rules (Derives rules)
  derives_rule r i f = let w = chain_all r.body f in (w.0, link r i w.2 w.1)

pub derives_mono : (rules more : List Rule) → ((r : Rule) → Memᴰ r rules → Memᴰ r more) → (h : ℕ) → Derives rules h
    → Derives more h
derives_mono rules more sub = derives_ind rules (Derives more) (λ r i f. derives_rule more r (sub r i) f)

-- the facts of a list
fact_in : (l : List ℕ) (k : ℕ) → Memᴰ k l → Memᴰ (fact k) (map fact l)
fact_in [] k i = absurd (Memᴰ.not-nil i)
fact_in (j ∷ l) k i = ⊎_elim (λ e. Memᴰ.head (ap fact e)) (λ t. Memᴰ.tail (fact_in l k t)) (Memᴰ.cases_cons i)

in_facts : (l : List ℕ) (r : Rule) → Memᴰ r (map fact l) → Memᴰ r.head l
in_facts [] r i = absurd (Memᴰ.not-nil i)
in_facts (j ∷ l) r i =
    ⊎_elim (λ e. Memᴰ.head (ap (λ (q : Rule). q.head) e)) (λ t. Memᴰ.tail (in_facts l r t)) (Memᴰ.cases_cons i)

-- with given literals: the closure has what the rules and the given literals as facts derive
module _ (rules : List Rule) (given : List ℕ) where
  pub closure_derives : (h : ℕ) → has (closure rules (insert_all 0 given)) h ≡ true → Derives (map fact given ++ rules) h
  closure_derives =
      closure_ind rules (Derives (map fact given ++ rules)) (insert_all 0 given)
      (λ r i f. derives_rule (map fact given ++ rules) r (Memᴰ.append_right (map fact given) i) f)
      (λ k e.
      ⊎_elim (λ q. absurd (false≢true (sym (has_empty k) ∙ q)))
      (λ i.
      derives_rule (map fact given ++ rules) (fact k) (Memᴰ.append_left rules (fact_in given k i))
      (λ b n. absurd (Memᴰ.not-nil n)))
      (insert_all_cases 0 given k e))

  pub derives_closure : (h : ℕ) → Derives (map fact given ++ rules) h → has (closure rules (insert_all 0 given)) h ≡ true
  derives_closure =
      derives_ind (map fact given ++ rules) (λ (k : ℕ). has (closure rules (insert_all 0 given)) k ≡ true) (λ r i f.
      ⊎_elim
      (λ j.
      within_each (insert_all 0 given) (closure rules (insert_all 0 given)) (closure_contains rules (insert_all 0 given)) r.head
      (has_insert_all 0 given r.head (in_facts given r j)))
      (λ j. closure_closed rules (insert_all 0 given) r j f) (Memᴰ.append_cases (map fact given) i))

-- and with none
pub derives_sound : (rules : List Rule) (h : ℕ) → derives rules h ≡ true → Derives rules h
unfolding insert_all
derives_sound rules h e = closure_derives rules [] h e

pub derives_complete : (rules : List Rule) (h : ℕ) → Derives rules h → derives rules h ≡ true
unfolding insert_all
derives_complete rules h d = derives_closure rules [] h d
