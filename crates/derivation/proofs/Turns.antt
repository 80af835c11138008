-- The loops of the code, a lemma for each turn and for each way out, over plain numbers.
use mathlib.Core.Path.{◌≡◌, refl, sym, ap, ap₂, ◌∙◌, subst}
use mathlib.Core.Bool.{Bool, true, false, not, ◌||◌}
use mathlib.Core.List.{List, [], ◌∷◌}
use Prim.Native.Nat.{ℕ, suc, ◌+◌, ◌-◌, ◌^◌, ◌<◌, ◌≤◌}
use native.Mathlib.Numerals.{add-one}
use native.Mathlib.Omega.{arith}
use lib.Count.{ones, ones-le}
use lib.ListN.{length, take, drop, drop_of_length-le}
use lib.Seq.{drop-cons}
use Rattle.lists.specs.Lists.{keep, choose}
use Rattle.literals.specs.Sets.{has, insert, has_all, within, clash}
use Rattle.literals.proofs.Members.{insert_present, insert_below}
use Rattle.literals.proofs.Lists.{has_all_within}
use Rattle.literals.proofs.Within.{within_refl, within_trans, within_insert, ones_more}
use Rattle.program.specs.Program.{Rule, Program, fact, is_defeasible, next_bit, defeasibles_from, bit_of, rule_at, chosen_from, Π_mask}
use Rattle.program.specs.Inside.Table.{head_at, body_at, rule_count, Row, Holds}
use Rattle.derivation.specs.Closure.{fire, round, closure, excludes}
use Rattle.derivation.specs.Gathering.{bodies_read, Rounded, Gathers, last, more}
use Rattle.derivation.specs.Inside.Steps.{on_at, fire_at, Fired}
use Rattle.derivation.proofs.Rounds.{fire_ready, fire_waits}
use Rattle.derivation.proofs.Choices.{Π_mask_empty}
use Rattle.derivation.proofs.Tables.{need_chosen}

-- ---- the turn of one rule

module _ (mask : ℕ) (t : List ℕ) (i s read : ℕ) where
  -- by what was found: it is on, its head is there, its body is there
  turns : (v h b : Bool) → on_at mask t i ≡ v → has s (head_at t i) ≡ h → within (body_at t i) s ≡ b → (u after : ℕ)
      → u ≡ choose v (choose h s (choose b (insert s (head_at t i)) s)) s → after ≡ read + choose v (choose h 0 1) 0
      → Fired mask t i s u read after
  turns v h b ev eh eb u after eu ea = record {
    set_is = eu
        ∙ ap₂ (λ (x y : Bool). choose v (choose x s (choose y (insert s (head_at t i)) s)) s) (sym eh) (sym eb)
        ∙ ap (λ (x : Bool). choose x (fire_at t i s) s) (sym ev);
    read_is = ea ∙ ap (λ (x : Bool). read + choose v (choose x 0 1) 0) (sym eh)
        ∙ ap (λ (x : Bool). read + choose x (choose (has s (head_at t i)) 0 1) 0) (sym ev);
  }

  pub fired_off : on_at mask t i ≡ false → Fired mask t i s s read read
  fired_off off = turns false (has s (head_at t i)) (within (body_at t i) s) off refl refl s read refl (omega arith)

  module _ (on : on_at mask t i ≡ true) (h : ℕ) (eh : h ≡ head_at t i) where
    pub fired_there : has s h ≡ true → Fired mask t i s s read read
    fired_there e = turns true true (within (body_at t i) s) on (ap (has s) (sym eh) ∙ e) refl s read refl (omega arith)

    module _ (e : has s h ≡ false) (b : ℕ) (eb : b ≡ body_at t i) where
      absent : has s (head_at t i) ≡ false
      absent = ap (has s) (sym eh) ∙ e

      pub fired_new : within b s ≡ true → (u : ℕ) → u ≡ insert s h → Fired mask t i s u read (read + 1)
      fired_new q u eu =
          turns true false true on absent (ap (λ (x : ℕ). within x s) (sym eb) ∙ q) u (read + 1) (eu ∙ ap (insert s) eh) refl

      pub fired_waits : within b s ≡ false → Fired mask t i s s read (read + 1)
      fired_waits q = turns true false false on absent (ap (λ (x : ℕ). within x s) (sym eb) ∙ q) s (read + 1) refl refl

  -- what every turn keeps
  module _ (u after : ℕ) (fired : Fired mask t i s u read after) where
    set_by : (P : ℕ → Type 0) → P s → P (insert s (head_at t i)) → P u
    set_by P old new =
        subst P (sym fired.set_is) (go (on_at mask t i) (has s (head_at t i)) (within (body_at t i) s))
      where
        go : (v h b : Bool) → P (choose v (choose h s (choose b (insert s (head_at t i)) s)) s)
        go false h b = old
        go true true b = old
        go true false true = new
        go true false false = old

    fired_grows : within s u ≡ true
    fired_grows = set_by (λ (x : ℕ). within s x ≡ true) (within_refl s) (within_insert s (head_at t i))

    fired_small : head_at t i < 128 → s < 2 ^ 128 → u < 2 ^ 128
    fired_small head small = set_by (λ (x : ℕ). x < 2 ^ 128) small (insert_below 128 s (head_at t i) small head)

    fired_few : after ≤ read + 1
    fired_few = subst (λ (x : ℕ). x ≤ read + 1) (sym fired.read_is) (go (on_at mask t i) (has s (head_at t i)))
      where
        go : (v h : Bool) → read + choose v (choose {A = ℕ} h 0 1) 0 ≤ read + 1
        go true true = omega arith
        go true false = omega arith
        go false h = omega arith

-- the turn by the rule's row
row_fires : (r : Rule) (b : ℕ) (t : List ℕ) (i s : ℕ) → Row r b t i → fire_at t i s ≡ fire r s
row_fires r b t i s row = by (has s (head_at t i)) (within (body_at t i) s) refl refl
  where
    ready : has_all s r.body ≡ within (body_at t i) s
    ready = has_all_within s r.body ∙ ap (λ (x : ℕ). within x s) (sym row.body_is)

    by : (h w : Bool) → has s (head_at t i) ≡ h → within (body_at t i) s ≡ w
        → choose h s (choose w (insert s (head_at t i)) s) ≡ fire r s
    by true true e f =
        sym (fire_ready r s (ready ∙ f) ∙ insert_present s r.head (ap (has s) (sym row.head_is) ∙ e))
    by true false e f = sym (fire_waits r s (ready ∙ f))
    by false true e f = ap (insert s) row.head_is ∙ sym (fire_ready r s (ready ∙ f))
    by false false e f = sym (fire_waits r s (ready ∙ f))

-- ---- which rules are on

-- those that a test turns on; the first of the list has number i
unfoldable pub on_from : (ℕ → Bool) → ℕ → List Rule → List Rule
on_from on i [] = []
on_from on i (r ∷ l) = keep (on i) r (on_from on (suc i) l)

chosen_on : (f on : ℕ → Bool) (b i : ℕ) (l : List Rule)
    → ((j : ℕ) → j < length l → on (i + j) ≡ (not (is_defeasible (rule_at l j).kind) || f (defeasibles_from b (take j l))))
    → on_from on i l ≡ chosen_from f b l
unfolding on_from chosen_from defeasibles_from
chosen_on f on b i [] e = refl
chosen_on f on b i (r ∷ l) e =
    ap₂ (λ (v : Bool) (rest : List Rule). keep v r rest) (ap on here ∙ e 0 (omega arith))
    (chosen_on f on (next_bit r.kind b) (suc i) l (λ j h. ap on (after j) ∙ e (suc j) (omega arith)))
  where
    here : i ≡ i + 0
    here = omega arith

    after : (j : ℕ) → suc i + j ≡ i + suc j
    after j = omega arith

-- the mask's test of rule i, which turns on Π with the mask
module _ (mask : ℕ) (rules : List Rule) where
  abbrev is_on : ℕ → Bool
  is_on i = not (is_defeasible (rule_at rules i).kind) || has mask (bit_of rules i)

  abbrev on_rules : List Rule
  on_rules = on_from is_on 0 rules

  on_mask : on_rules ≡ Π_mask mask rules
  on_mask = chosen_on (has mask) is_on 0 0 rules (λ j h. ap is_on (none j))
    where
      none : (j : ℕ) → 0 + j ≡ j
      none j = omega arith

on_row : (mask : ℕ) (p : Program) (t : List ℕ) (i : ℕ) → Holds p t → i < length p.rules → on_at mask t i ≡ is_on mask p.rules i
on_row mask p t i holds inside =
    ap (λ (x : ℕ). within x mask) (holds.row i inside).need_is ∙ need_chosen (rule_at p.rules i).kind (bit_of p.rules i) mask

-- ---- one round

keep_round : (v : Bool) (r : Rule) (l : List Rule) (s : ℕ) → round (keep v r l) s ≡ round l (choose v (fire r s) s)
unfolding round
keep_round true r l s = refl
keep_round false r l s = refl

keep_read : (v : Bool) (r : Rule) (l : List Rule) (s : ℕ)
    → bodies_read (keep v r l) s ≡ choose v (choose (has s r.head) 0 1) 0 + bodies_read l (choose v (fire r s) s)
unfolding bodies_read
keep_read true r l s = refl
keep_read false r l s = omega arith

module _ (on : ℕ → Bool) (rules : List Rule) where
  -- the rules that are on from i on
  abbrev on_after : ℕ → List Rule
  on_after i = on_from on i (drop i rules)

  after_next : (i : ℕ) → i < length rules → on_after i ≡ keep (on i) (rule_at rules i) (on_after (suc i))
  unfolding on_from
  after_next i h = ap (on_from on i) (drop-cons rules i (fact 0) h)

  after_end : (i : ℕ) → length rules ≤ i → on_after i ≡ []
  unfolding on_from
  after_end i h = ap (on_from on i) (drop_of_length-le rules h)

-- the turn of rule i leaves to the rules after it what it had to do with them
module _ (mask : ℕ) (t : List ℕ) (i s read u after : ℕ) (fired : Fired mask t i s u read after)
    (p : Program) (h : Holds p t) (there : i < length p.rules) where
  abbrev rule : Rule
  rule = rule_at p.rules i

  abbrev kept : Bool
  kept = is_on mask p.rules i

  abbrev rest : ℕ → List Rule
  rest k = on_after (is_on mask p.rules) p.rules k

  next : rest i ≡ keep kept rule (rest (suc i))
  next = after_next (is_on mask p.rules) p.rules i there

  sets : u ≡ choose kept (fire rule s) s
  sets =
      fired.set_is
      ∙ ap₂ (λ (v : Bool) (x : ℕ). choose v x s) (on_row mask p t i h there)
      (row_fires rule (bit_of p.rules i) t i s (h.row i there))

  reads : after ≡ read + choose kept (choose (has s rule.head) 0 1) 0
  reads =
      fired.read_is
      ∙ ap₂ (λ (v : Bool) (x : ℕ). read + choose v (choose (has s x) 0 1) 0) (on_row mask p t i h there)
      (h.row i there).head_is

  set_next : round (rest (i + 1)) u ≡ round (rest i) s
  set_next =
      ap₂ (λ (k x : ℕ). round (rest k) x) (add-one i) sets ∙ sym (keep_round kept rule (rest (suc i)) s)
      ∙ sym (ap (λ (l : List Rule). round l s) next)

  read_next : after + bodies_read (rest (i + 1)) u ≡ read + bodies_read (rest i) s
  read_next =
      ap₂ (λ (k x : ℕ). after + bodies_read (rest k) x) (add-one i) sets
      ∙ moved (choose kept (choose (has s rule.head) 0 1) 0) (bodies_read (rest (suc i)) (choose kept (fire rule s) s)) reads
      ∙ ap (λ (x : ℕ). read + x) (sym (keep_read kept rule (rest (suc i)) s) ∙ sym (ap (λ (l : List Rule). bodies_read l s) next))
    where
      moved : (x y : ℕ) → after ≡ read + x → after + y ≡ read + (x + y)
      moved x y e = omega arith

-- before rule i: what the rules from i on make of s is what all make of the start, and so for the bodies read
pub record Turning (mask : ℕ) (t : List ℕ) (start n i s read : ℕ) : Type 0 where
  pub inside : i ≤ n
  pub few : read ≤ i
  pub grown : within start s ≡ true
  pub small : s < 2 ^ 128
  pub set_left : (p : Program) → Holds p t
      → round (on_after (is_on mask p.rules) p.rules i) s ≡ round (on_rules mask p.rules) start
  pub read_left : (p : Program) → Holds p t
      → read + bodies_read (on_after (is_on mask p.rules) p.rules i) s ≡ bodies_read (on_rules mask p.rules) start

module _ (mask : ℕ) (t : List ℕ) (start n : ℕ) (count : n ≡ rule_count t) where
  pub turning_start : start < 2 ^ 128 → Turning mask t start n 0 start 0
  turning_start small = record {
    inside = omega arith;
    few = omega arith;
    grown = within_refl start;
    small = small;
    set_left = λ p h. refl;
    read_left = λ p h. none (bodies_read (on_rules mask p.rules) start);
  }
    where
      none : (x : ℕ) → 0 + x ≡ x
      none x = omega arith

  pub turning_next : (i s u read after : ℕ) → i < n → head_at t i < 128 → Turning mask t start n i s read
      → Fired mask t i s u read after → Turning mask t start n (i + 1) u after
  turning_next i s u read after less head turning fired = record {
    inside = omega arith;
    few = omega (arith, fired_few mask t i s read u after fired, turning.few);
    grown = within_trans start s u turning.grown (fired_grows mask t i s read u after fired);
    small = fired_small mask t i s read u after fired head turning.small;
    set_left = λ p h. set_next mask t i s read u after fired p h (there p h) ∙ turning.set_left p h;
    read_left = λ p h. read_next mask t i s read u after fired p h (there p h) ∙ turning.read_left p h;
  }
    where
      there : (p : Program) → Holds p t → i < length p.rules
      there p h = omega (arith, h.rules_are)

  pub turning_end : (i s read : ℕ) → n ≤ i → Turning mask t start n i s read → (p : Program) → Holds p t
      → Rounded (Π_mask mask p.rules) start s read
  unfolding round bodies_read
  turning_end i s read over turning p h =
      subst (λ (l : List Rule). Rounded l start s read) (on_mask mask p.rules) (record {
        set_is = sym (ap (λ (l : List Rule). round l s) none) ∙ turning.set_left p h;
        read_is = no_more (ap (λ (l : List Rule). bodies_read l s) none) (turning.read_left p h);
      })
    where
      none : on_after (is_on mask p.rules) p.rules i ≡ []
      none = after_end (is_on mask p.rules) p.rules i (omega (arith, h.rules_are))

      no_more : {x y : ℕ} → x ≡ 0 → read + x ≡ y → read ≡ y
      no_more e q = omega arith

-- ---- the rounds

-- so many were made, and those to come from s are the last ones of those from the given literals
pub record Rounding (rules : List Rule → List Rule) (t : List ℕ) (given s rounds : ℕ) : Type 0 where
  pub few : rounds + ones given ≤ ones s
  pub room : ones s ≤ 128
  pub left : (p : Program) → Holds p t → (r n : ℕ) → Gathers (rules p.rules) s r n → Gathers (rules p.rules) given r (rounds + n)

module _ (rules : List Rule → List Rule) (t : List ℕ) (given : ℕ) where
  pub rounding_start : given < 2 ^ 128 → Rounding rules t given given 0
  rounding_start small = record {
    few = none (ones given);
    room = ones-le 128 given small;
    left = λ p h r n g. subst (λ (x : ℕ). Gathers (rules p.rules) given r x) (zero-add n) g;
  }
    where
      none : (n : ℕ) → 0 + n ≤ n
      none n = omega arith

      zero-add : (n : ℕ) → n ≡ 0 + n
      zero-add n = omega arith

  module _ (s u read rounds : ℕ) (rounding : Rounding rules t given s rounds)
      (rounded : (p : Program) → Holds p t → Rounded (rules p.rules) s u read) where
    pub rounding_last : u ≡ s → (p : Program) → Holds p t → Gathers (rules p.rules) given s (rounds + 1)
    rounding_last e p h = rounding.left p h s 1 (last (sym (rounded p h).set_is ∙ e))

    pub rounding_next : within s u ≡ true → u < 2 ^ 128 → (u ≡ s → ⊥) → Rounding rules t given u (rounds + 1)
    rounding_next grown small differs = record {
      few = next (ones given) (ones s) (ones u) (ones_more s u grown (λ e. differs (sym e))) rounding.few;
      room = ones-le 128 u small;
      left = λ p h r n g.
          subst (λ (x : ℕ). Gathers (rules p.rules) given r x) (shift rounds n)
          (rounding.left p h r (suc n)
          (more (λ e. differs ((rounded p h).set_is ∙ e))
          (subst (λ (x : ℕ). Gathers (rules p.rules) x r n) (rounded p h).set_is g)));
    }
      where
        next : (g a b : ℕ) → a < b → rounds + g ≤ a → rounds + 1 + g ≤ b
        next g a b less few = omega arith

        shift : (a b : ℕ) → a + suc b ≡ a + 1 + b
        shift a b = omega arith

-- what is not yet derived gets less
pub rounding_less : (s u : ℕ) → within s u ≡ true → u < 2 ^ 128 → (u ≡ s → ⊥) → 128 - ones u < 128 - ones s
rounding_less s u grown small differs = less (ones s) (ones u) (ones_more s u grown (λ e. differs (sym e))) (ones-le 128 u small)
  where
    less : (a b : ℕ) → a < b → b ≤ 128 → 128 - b < 128 - a
    less a b l m = omega arith

-- with no defeasible rule chosen and two literals given
pub excludes_by : (rules : List Rule) (a b none one both c : ℕ) (r : Bool) → none ≡ 0 → one ≡ insert none a → both ≡ insert one b
    → c ≡ closure (Π_mask 0 rules) both → r ≡ clash c → r ≡ excludes rules a b
excludes_by rules a b none one both c r p q s t e =
    e ∙ ap clash (t ∙ ap₂ closure (Π_mask_empty rules) (s ∙ ap (λ (x : ℕ). insert x b) (q ∙ ap (λ (x : ℕ). insert x a) p)))
