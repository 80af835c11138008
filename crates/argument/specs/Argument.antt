-- Arguments and their list (document 01, "Derivation and arguments").
use Rattle.std.specs.Prelude.{◌≡◌, true, ℕ, ◌+◌, ◌*◌, ◌/◌, ◌%◌}
use mathlib.Core.List.{List, Memᴰ}
use Rattle.lists.specs.Lists.{Ascending}
use Rattle.literals.specs.Sets.{has}
use Rattle.program.specs.Program.{Rule, Π_mask}
use Rattle.derivation.specs.Derivation.{Derives, Contradictory}

-- each rule of the mask n is one of the mask m
abbrev pub Subset : ℕ → ℕ → Type 0
Subset n m = (b : ℕ) → has n b ≡ true → has m b ≡ true

-- "An argument is a mask M and a literal h such that: Π with M derives h; Π with M is not contradictory; no proper subset
-- of M, with Π, derives h. M may be empty."
pub record Argument (rules : List Rule) (m h : ℕ) : Type 0 where
  pub derived : Derives (Π_mask m rules) h
  pub coherent : Contradictory (Π_mask m rules) → ⊥
  pub minimal : (n : ℕ) → Subset n m → (n ≡ m → ⊥) → Derives (Π_mask n rules) h → ⊥

-- "as M × 128 + h"
abbrev pub mask_of : ℕ → ℕ
mask_of x = x / 128

abbrev pub literal_of : ℕ → ℕ
literal_of x = x % 128

-- "A sub-argument of (M, h) is any argument whose mask is a subset of M, M itself included."
pub record SubArgument (rules : List Rule) (z x : ℕ) : Type 0 where
  pub argument : Argument rules (mask_of z) (literal_of z)
  pub part : Subset (mask_of z) (mask_of x)

-- "The argument list holds each argument once, as M × 128 + h, ascending"
pub record ArgumentList (rules : List Rule) (list : List ℕ) : Type 0 where
  pub each_is_one : (x : ℕ) → Memᴰ x list → Argument rules (mask_of x) (literal_of x)
  pub has_each : (m h : ℕ) → Argument rules m h → Memᴰ (m * 128 + h) list
  -- strictly, and so each once
  pub ascends : Ascending list
