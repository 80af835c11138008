-- When each answer is given, both ways; and its number of nodes.
use mathlib.Core.Path.{◌≡◌, refl}
use mathlib.Core.Bool.{Bool, true, false, not}
use mathlib.Core.Logic.{◌↔◌}
use Prim.Native.Nat.{ℕ, ◌≤◌, ◌<◌}
use native.Mathlib.Omega.{arith}
use lib.ListN.{length}
use lib.Dec.{T, not_T, ltb, ltb→lt, lt→ltb, nltb→le}
use Rattle.lists.specs.Lists.{index_in}
use Rattle.lists.specs.Decides.{Decides}
use Rattle.lists.proofs.Decides.{decides_not}
use Rattle.program.specs.Program.{Program}
use Rattle.derivation.specs.Derivation.{complement, HeadsBelow}
use Rattle.defeat.specs.Tests.{Tests}
use Rattle.defeat.specs.OfProgram.{tests_of}
use Rattle.tree.proofs.Entries.{entries_length}
use Rattle.answer.specs.Warrant.{WarrantedBy}
use Rattle.answer.specs.Answer.{Occurs, occurs, forest, node_count, forest_entries, warranted, answer_of}
use Rattle.answer.specs.Answer.{answer_by, code_of, nodes_of}
use Rattle.answer.proofs.Warrant.{occurs_renders, occurs_complement, warranted_occurs, warranted_apart}
use Rattle.answer.proofs.Warrant.{complement_excludes, warranted_renders}

-- ---- by the tests that decide between the answers

module _ (b n : ℕ) where
  none_by : (o v w m : Bool) → T (not o) → nodes_of (answer_of o v w m b n) ≡ 0
  none_by false v w m t = refl
  none_by true v w m t = absurd t

  abbrev code : Bool → Bool → Bool → Bool → ℕ
  code o v w m = code_of (answer_of o v w m b n)

  yes_by : (o v w m : Bool) → (code o v w m ≡ 1) ↔ (T o × T (not v) × T w)
  yes_by false v w m = (λ e. absurd (omega (arith, e)), λ h. absurd h.0)
  yes_by true true w m = (λ e. absurd (omega (arith, e)), λ h. absurd h.1)
  yes_by true false true m = (λ e. (tt, tt, tt), λ h. refl)
  yes_by true false false true = (λ e. absurd (omega (arith, e)), λ h. absurd h.2)
  yes_by true false false false = (λ e. absurd (omega (arith, e)), λ h. absurd h.2)

  no_by : (o v w m : Bool) → (code o v w m ≡ 2) ↔ (T o × T (not v) × T (not w) × T m)
  no_by false v w m = (λ e. absurd (omega (arith, e)), λ h. absurd h.0)
  no_by true true w m = (λ e. absurd (omega (arith, e)), λ h. absurd h.1)
  no_by true false true m = (λ e. absurd (omega (arith, e)), λ h. absurd h.2)
  no_by true false false true = (λ e. (tt, tt, tt, tt), λ h. refl)
  no_by true false false false = (λ e. absurd (omega (arith, e)), λ h. absurd h.3)

  undecided_by : (o v w m : Bool) → (code o v w m ≡ 3) ↔ (T o × T (not v) × T (not w) × T (not m))
  undecided_by false v w m = (λ e. absurd (omega (arith, e)), λ h. absurd h.0)
  undecided_by true true w m = (λ e. absurd (omega (arith, e)), λ h. absurd h.1)
  undecided_by true false true m = (λ e. absurd (omega (arith, e)), λ h. absurd h.2)
  undecided_by true false false true = (λ e. absurd (omega (arith, e)), λ h. absurd h.3)
  undecided_by true false false false = (λ e. (tt, tt, tt, tt), λ h. refl)

  unknown_by : (o v w m : Bool) → (code o v w m ≡ 4) ↔ T (not o)
  unknown_by false v w m = (λ e. tt, λ h. refl)
  unknown_by true true w m = (λ e. absurd (omega (arith, e)), λ h. absurd h)
  unknown_by true false true m = (λ e. absurd (omega (arith, e)), λ h. absurd h)
  unknown_by true false false true = (λ e. absurd (omega (arith, e)), λ h. absurd h)
  unknown_by true false false false = (λ e. absurd (omega (arith, e)), λ h. absurd h)

  unfinished_by : (o v w m : Bool) → (code o v w m ≡ 5) ↔ (T o × T v)
  unfinished_by false v w m = (λ e. absurd (omega (arith, e)), λ h. absurd h.0)
  unfinished_by true true w m = (λ e. (tt, tt), λ h. refl)
  unfinished_by true false true m = (λ e. absurd (omega (arith, e)), λ h. absurd h.1)
  unfinished_by true false false true = (λ e. absurd (omega (arith, e)), λ h. absurd h.1)
  unfinished_by true false false false = (λ e. absurd (omega (arith, e)), λ h. absurd h.1)

  -- each answer has a number
  code_by : (o v w m : Bool) → code o v w m ≡ 0 → ⊥
  code_by false v w m e = omega arith
  code_by true true w m e = omega arith
  code_by true false true m e = omega arith
  code_by true false false true e = omega arith
  code_by true false false false e = omega arith

  -- no more nodes than the budget
  nodes_by : (o v w m : Bool) → (T (not v) → n ≤ b) → nodes_of (answer_of o v w m b n) ≤ b
  nodes_by false v w m h = omega arith
  nodes_by true true w m h = omega arith
  nodes_by true false true m h = omega (arith, h tt)
  nodes_by true false false true h = omega (arith, h tt)
  nodes_by true false false false h = omega (arith, h tt)

  -- N of them, where it is within the budget
  finished_by : (o v w m : Bool) → T o → T (not v) → nodes_of (answer_of o v w m b n) ≡ n
  finished_by false v w m h k = absurd h
  finished_by true true w m h k = absurd k
  finished_by true false true m h k = refl
  finished_by true false false true h k = refl
  finished_by true false false false h k = refl

  cut_by : (o v w m : Bool) → T o → T v → nodes_of (answer_of o v w m b n) ≡ b
  cut_by false v w m h k = absurd h
  cut_by true true w m h k = refl
  cut_by true false w m h k = absurd k

-- N within the budget, and over it
over_renders : (b n : ℕ) → Decides (ltb b n) (b < n)
over_renders b n = record { says = ltb→lt b n; passes = lt→ltb b n }

within_renders : (b n : ℕ) → Decides (not (ltb b n)) (n ≤ b)
within_renders b n = record {
  says = nltb→le b n;
  passes = λ h. not_T (ltb b n) (λ o. let k = ltb→lt b n o in omega arith);
}

-- ---- of any tests: N is the number of entries

pub entries_count : (t : Tests ℕ) (h : ℕ) → length (forest_entries t h) ≡ node_count t h
entries_count t h = entries_length (index_in t.arguments) 0 (forest t h)

-- ---- of every program, whatever the test of preference

module _ (p : Program) (preferred : ℕ → ℕ → Bool) (h b : ℕ) where
  abbrev n : ℕ
  n = node_count (tests_of p preferred) h

  abbrev w : Bool
  w = warranted (tests_of p preferred) h

  abbrev m : Bool
  m = warranted (tests_of p preferred) (complement h)

  pub answer_unknown : (code_of (answer_by p preferred h b) ≡ 4) ↔ (¬ Occurs p h)
  unfolding answer_by
  answer_unknown =
      let by = unknown_by b n (occurs p h) (ltb b n) w m in
      let d = decides_not (occurs_renders p h) in
      (λ e. d.says (by.0 e), λ o. by.1 (d.passes o))

  pub answer_unfinished : (code_of (answer_by p preferred h b) ≡ 5) ↔ (Occurs p h × (b < node_count (tests_of p preferred) h))
  unfolding answer_by
  answer_unfinished =
      let by = unfinished_by b n (occurs p h) (ltb b n) w m in
      let o = occurs_renders p h in
      let v = over_renders b n in (
        λ e. let r = by.0 e in (o.says r.0, v.says r.1),
        λ r. by.1 (o.passes r.0, v.passes r.1),
      )

  pub answer_not_refused : code_of (answer_by p preferred h b) ≡ 0 → ⊥
  unfolding answer_by
  answer_not_refused = code_by b n (occurs p h) (ltb b n) w m

  pub answer_nodes_within : nodes_of (answer_by p preferred h b) ≤ b
  unfolding answer_by
  answer_nodes_within = nodes_by b n (occurs p h) (ltb b n) w m (nltb→le b n)

  -- "with N nodes"
  pub answer_nodes_finished : Occurs p h → node_count (tests_of p preferred) h ≤ b
      → nodes_of (answer_by p preferred h b) ≡ node_count (tests_of p preferred) h
  unfolding answer_by
  answer_nodes_finished o l =
      finished_by b n (occurs p h) (ltb b n) w m ((occurs_renders p h).passes o) ((within_renders b n).passes l)

  -- "5 UNFINISHED, nodes = budget"
  pub answer_nodes_unfinished : Occurs p h → b < node_count (tests_of p preferred) h → nodes_of (answer_by p preferred h b) ≡ b
  unfolding answer_by
  answer_nodes_unfinished o l =
      cut_by b n (occurs p h) (ltb b n) w m ((occurs_renders p h).passes o) ((over_renders b n).passes l)

  pub answer_nodes_unknown : (¬ Occurs p h) → nodes_of (answer_by p preferred h b) ≡ 0
  unfolding answer_by
  answer_nodes_unknown o =
      none_by b n (occurs p h) (ltb b n) w m ((decides_not (occurs_renders p h)).passes o)

-- ---- where the heads are below 128, and the test is the preference's

module _ (p : Program) (heads : HeadsBelow 128 p.rules) (Preferred : ℕ → ℕ → Type 0) (preferred : ℕ → ℕ → Bool)
    (decides : (m n : ℕ) → Decides (preferred m n) (Preferred m n)) (h b : ℕ) where
  abbrev N : ℕ
  N = node_count (tests_of p preferred) h

  abbrev W : ℕ → Type 0
  W = WarrantedBy p Preferred

  renders : (k : ℕ) → Decides (warranted (tests_of p preferred) k) (W k)
  renders = warranted_renders p heads Preferred preferred decides

  pub answer_yes : (code_of (answer_by p preferred h b) ≡ 1)
      ↔ ((node_count (tests_of p preferred) h ≤ b) × WarrantedBy p Preferred h)
  unfolding answer_by
  answer_yes =
      let by = yes_by b N (occurs p h) (ltb b N) (w p preferred h b) (m p preferred h b) in
      let o = occurs_renders p h in
      let v = within_renders b N in
      let u = renders h in (
        λ e. let r = by.0 e in (v.says r.1, u.says r.2),
        λ r. by.1 (o.passes (warranted_occurs r.1), v.passes r.0, u.passes r.1),
      )

  -- h itself is not warranted then
  pub answer_no : (code_of (answer_by p preferred h b) ≡ 2)
      ↔ ((node_count (tests_of p preferred) h ≤ b) × WarrantedBy p Preferred (complement h))
  unfolding answer_by
  answer_no =
      let by = no_by b N (occurs p h) (ltb b N) (w p preferred h b) (m p preferred h b) in
      let o = occurs_renders p h in
      let v = within_renders b N in
      let u = decides_not (renders h) in
      let c = renders (complement h) in (
        λ e. let r = by.0 e in (v.says r.1, c.says r.3),
        λ r. by.1 (
          o.passes (occurs_complement (warranted_occurs r.1)),
          v.passes r.0,
          u.passes (λ k. warranted_apart h (complement h) (complement_excludes p.rules h) k r.1),
          c.passes r.1,
        ),
      )

  pub answer_undecided : (code_of (answer_by p preferred h b) ≡ 3)
      ↔ (Occurs p h × (node_count (tests_of p preferred) h ≤ b)
      × (¬ WarrantedBy p Preferred h) × (¬ WarrantedBy p Preferred (complement h)))
  unfolding answer_by
  answer_undecided =
      let by = undecided_by b N (occurs p h) (ltb b N) (w p preferred h b) (m p preferred h b) in
      let o = occurs_renders p h in
      let v = within_renders b N in
      let u = decides_not (renders h) in
      let c = decides_not (renders (complement h)) in (
        λ e. let r = by.0 e in (o.says r.0, v.says r.1, u.says r.2, c.says r.3),
        λ r. by.1 (o.passes r.0, v.passes r.1, u.passes r.2, c.passes r.3),
      )
