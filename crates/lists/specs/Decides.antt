-- When a test, which evaluates, stands for a statement, which a reader believes. Every computed definition is joined to
-- its published one in this form.
use Rattle.std.specs.Prelude.{Bool, T}

pub record Decides (test : Bool) (P : Type 0) : Type 0 where
  pub says : T test → P
  pub passes : P → T test
