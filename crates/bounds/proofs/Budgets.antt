-- An answer other than UNFINISHED does not depend on the budget, and neither do the entries that it names.
use mathlib.Core.Path.{◌≡◌, refl}
use mathlib.Core.Bool.{Bool, true, false}
use mathlib.Core.List.{List}
use mathlib.Core.Logic.{◌⊎◌, inl, inr}
use Prim.Native.Nat.{ℕ, ◌≤◌, ◌<◌}
use native.Mathlib.Omega.{arith}
use lib.ListN.{length, take, drop}
use lib.Seq.{take-append-le}
use lib.Dec.{T, not_T, ltb, ltb→lt, nltb→le}
use Rattle.lists.proofs.Lists.{T_known}
use Rattle.program.specs.Program.{Program}
use Rattle.derivation.specs.Derivation.{complement}
use Rattle.defeat.specs.OfProgram.{tests_of}
use Rattle.answer.specs.Answer.{Occurs, occurs, warranted, node_count, answer_of, answer_by, code_of, nodes_of}
use Rattle.answer.specs.Tables.{nodes_after}
use Rattle.answer.proofs.Warrant.{occurs_renders}
use Rattle.answer.proofs.Answers.{answer_unfinished, answer_nodes_unknown, answer_nodes_finished}

-- ---- by the tests that decide between the answers

-- finished, the budget plays no part
same_by : (w m : Bool) (n b c : ℕ) → answer_of true false w m c n ≡ answer_of true false w m b n
same_by true m n b c = refl
same_by false true n b c = refl
same_by false false n b c = refl

kept_by : (o w m : Bool) (n small large : ℕ) → small ≤ large → ¬ (code_of (answer_of o (ltb small n) w m small n) ≡ 5)
    → answer_of o (ltb large n) w m large n ≡ answer_of o (ltb small n) w m small n
kept_by false w m n small large h f = refl
kept_by true w m n small large h f = go (ltb small n) refl f (ltb large n) refl
  where
    go : (v : Bool) → ltb small n ≡ v → ¬ (code_of (answer_of true v w m small n) ≡ 5) → (u : Bool) → ltb large n ≡ u
        → answer_of true u w m large n ≡ answer_of true v w m small n
    go true e f u k = absurd (f refl)
    go false e f false k = same_by w m n small large
    go false e f true k = absurd (let a = nltb→le small n (rw e tt) in let b = ltb→lt large n (rw k tt) in omega arith)

-- the entries that are named are the first of the forest's, whatever the table was
module _ {A : Type 0} (b n : ℕ) (rows : List A) (empty : A) (table : List A) (count : n ≤ length rows) where
  named_by : (o v w m : Bool) → ¬ (code_of (answer_of o v w m b n) ≡ 5)
      → take (nodes_of (answer_of o v w m b n)) (nodes_after (answer_of o v w m b n) rows empty table)
      ≡ take (nodes_of (answer_of o v w m b n)) rows
  named_by false v w m f = refl
  named_by true true w m f = absurd (f refl)
  named_by true false true m f = take-append-le n rows (drop (length rows) table) count
  named_by true false false true f = take-append-le n rows (drop (length rows) table) count
  named_by true false false false f = take-append-le n rows (drop (length rows) table) count

-- ---- of every program, whatever the test of preference

module _ (p : Program) (preferred : ℕ → ℕ → Bool) (h : ℕ) where
  abbrev N : ℕ
  N = node_count (tests_of p preferred) h

  abbrev w : Bool
  w = warranted (tests_of p preferred) h

  abbrev m : Bool
  m = warranted (tests_of p preferred) (complement h)

  pub answer_kept : (small large : ℕ) → small ≤ large → ¬ (code_of (answer_by p preferred h small) ≡ 5)
      → answer_by p preferred h large ≡ answer_by p preferred h small
  unfolding answer_by
  answer_kept small large = kept_by (occurs p h) w m N small large

  -- where a node is named, the literal's atom occurs
  pub named_occurs : (b i : ℕ) → i < nodes_of (answer_by p preferred h b) → Occurs p h
  named_occurs b i k = go (T_known (occurs p h))
    where
      go : T (occurs p h) ⊎ (T (occurs p h) → ⊥) → Occurs p h
      go (inl t) = (occurs_renders p h).says t
      go (inr t) = absurd (omega (arith, answer_nodes_unknown p preferred h b (λ o. t ((occurs_renders p h).passes o))))

  -- and then all are
  pub answer_all : (b : ℕ) → ¬ (code_of (answer_by p preferred h b) ≡ 5) → Occurs p h
      → nodes_of (answer_by p preferred h b) ≡ node_count (tests_of p preferred) h
  answer_all b f o = answer_nodes_finished p preferred h b o (go (T_known (ltb b N)))
    where
      go : T (ltb b (node_count (tests_of p preferred) h)) ⊎ (T (ltb b (node_count (tests_of p preferred) h)) → ⊥)
          → node_count (tests_of p preferred) h ≤ b
      go (inl t) = absurd (f ((answer_unfinished p preferred h b).1 (o, ltb→lt b N t)))
      go (inr t) = nltb→le b N (not_T (ltb b N) t)

  pub answer_named : {A : Type 0} (b : ℕ) (rows : List A) (empty : A) (table : List A)
      → node_count (tests_of p preferred) h ≤ length rows → ¬ (code_of (answer_by p preferred h b) ≡ 5)
      → take (nodes_of (answer_by p preferred h b)) (nodes_after (answer_by p preferred h b) rows empty table)
      ≡ take (nodes_of (answer_by p preferred h b)) rows
  unfolding answer_by
  answer_named b rows empty table count = named_by b N rows empty table count (occurs p h) (ltb b N) w m
