-- What reading a rule from its part hands back.
use Rattle.std.specs.Prelude.{true, false, List, Result, Ok, Err, ◌⊎◌, ◌≡◌, ℕ, eqb}
use Rattle.literals.specs.declared.LiteralSet.{LiteralSet}
use Rattle.literals.specs.Sets.{insert_all}
use Rattle.literals.specs.Inside.Words.{set_of}
use Rattle.layout.specs.declared.Cause.TheVariants.{LiteralRange, BodyOrder}
use Rattle.layout.specs.declared.Refusal.{Refusal}
use Rattle.layout.specs.Layout.{kind_byte, head_byte, body_bytes}
use Rattle.layout.specs.Causes.{accepted, all_below, ascending, part_verdict}
use Rattle.part.specs.declared.Rule.{Rule}

-- what reading a body's bytes finds: the set, or the first of causes 6 and 7 that applies
abbrev pub BodyRead : Result LiteralSet Refusal → List ℕ → (limit place : ℕ) → Type 0
BodyRead (Ok set) bytes limit place = (all_below limit bytes ≡ true) × (ascending bytes ≡ true) × (set_of set ≡ insert_all 0 bytes)
BodyRead (Err refusal) bytes limit place = ((all_below limit bytes ≡ false) × (refusal ≡ record { cause = LiteralRange; place = place })) ⊎ ((all_below limit bytes ≡ true) × (ascending bytes ≡ false) × (refusal ≡ record { cause = BodyOrder; place = place }))

-- a rule that was read from its part
pub record RuleRead (bytes : List ℕ) (atoms bits place : ℕ) (rule : Rule) : Type 0 where
  pub accepts : part_verdict bytes atoms bits place ≡ accepted
  pub kind_is : eqb (kind_byte bytes) 1 ≡ rule.defeasible
  pub head_is : rule.head ≡ head_byte bytes
  pub body_is : set_of rule.body ≡ insert_all 0 (body_bytes bytes)

-- what reading a part finds: the rule, or the first of causes 4 to 9 that applies
abbrev pub PartRead : Result Rule Refusal → List ℕ → (atoms bits place : ℕ) → Type 0
PartRead (Ok rule) bytes atoms bits place = RuleRead bytes atoms bits place rule
PartRead (Err refusal) bytes atoms bits place = part_verdict bytes atoms bits place ≡ Err refusal
