-- A rule table on its way: which rules it holds so far.
use Rattle.std.specs.Prelude.{◌≡◌, true, List, [], ◌∷◌, ℕ, ◌<◌, ◌≤◌, length, get_or, eqb}
use Rattle.lists.specs.Lists.{choose}
use Rattle.literals.specs.Sets.{has, insert, union}
use Rattle.program.specs.Program.{Rule, Program, is_defeasible, bit_of, rule_at}
use Rattle.program.specs.Inside.Table.{head_at, body_at, need_at, rule_of_bit, beaten_at, Row, BeatenMask}

-- the same words in row i
pub record SameRow (s t : List ℕ) (i : ℕ) : Type 0 where
  pub head_same : head_at t i ≡ head_at s i
  pub body_same : body_at t i ≡ body_at s i
  pub need_same : need_at t i ≡ need_at s i

-- rule r is put into row i, and if it is defeasible gets bit b; nothing else that a row or a bit has is changed
pub record Stored (r : Rule) (i b : ℕ) (s t : List ℕ) : Type 0 where
  pub row : Row r b t i
  pub bit_is : is_defeasible r.kind ≡ true → rule_of_bit t b ≡ i
  pub rows_kept : (j : ℕ) → j < 96 → (j ≡ i → ⊥) → SameRow s t j
  pub bits_kept : (k : ℕ) → k < 16 → (k ≡ b → ⊥) → rule_of_bit t k ≡ rule_of_bit s k

-- the first n rules are there, each with its bit
pub record RowsTo (l : List Rule) (n : ℕ) (t : List ℕ) : Type 0 where
  pub row : (i : ℕ) → i < n → Row (rule_at l i) (bit_of l i) t i
  pub rule_of : (i : ℕ) → i < n → is_defeasible (rule_at l i).kind ≡ true → rule_of_bit t (bit_of l i) ≡ i

-- the bits of the rules that some pairs list after rule a, added to a mask
unfoldable pub listed_from : List Rule → ℕ → ℕ → List (ℕ × ℕ) → ℕ
unfolding insert
listed_from l a m [] = m
listed_from l a m (p ∷ ps) = listed_from l a (choose (eqb p.0 a) (insert m (bit_of l p.1)) m) ps

-- the mask of the rules that rule a beats by a listed pair alone
abbrev pub listed_mask : Program → ℕ → ℕ
listed_mask p a = listed_from p.rules a 0 p.pairs

-- all rules are there, each with the mask of those it beats by a listed pair
pub record ListedIn (p : Program) (t : List ℕ) : Type 0 where
  pub rows : RowsTo p.rules (length p.rules) t
  pub listed_is : (i : ℕ) → i < length p.rules → is_defeasible (rule_at p.rules i).kind ≡ true → beaten_at t (bit_of p.rules i) ≡ listed_mask p i

-- what row i is to be once bit k has handed on what its rule beats: a row that has the bit takes it over
abbrev pub taken_over : ℕ → List ℕ → ℕ → ℕ
taken_over k s i = choose (has (beaten_at s i) k) (union (beaten_at s i) (beaten_at s k)) (beaten_at s i)

-- bit k has handed on to the first n rows; nothing else is changed
pub record HandedOn (k n : ℕ) (s t : List ℕ) : Type 0 where
  pub taken : (i : ℕ) → i < n → beaten_at t i ≡ taken_over k s i
  pub left : (i : ℕ) → n ≤ i → i < 16 → beaten_at t i ≡ beaten_at s i
  pub others : (w : ℕ) → w < 400 → get_or t w 0 ≡ get_or s w 0

-- all rules are there, each with the mask of those it beats
pub record Chained (p : Program) (t : List ℕ) : Type 0 where
  pub rows : RowsTo p.rules (length p.rules) t
  pub beaten_is : (i : ℕ) → i < length p.rules → is_defeasible (rule_at p.rules i).kind ≡ true → BeatenMask p i (beaten_at t (bit_of p.rules i))
