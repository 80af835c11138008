-- What the private steps of the code compute.
use Rattle.std.specs.Prelude.{◌≡◌, Bool, List, ℕ, ◌+◌}
use Rattle.lists.specs.Lists.{choose}
use Rattle.literals.specs.Sets.{has, insert, within}
use Rattle.program.specs.Inside.Table.{head_at, body_at, need_at}

-- rule i is on: the mask has the bits that it needs
abbrev pub on_at : ℕ → List ℕ → ℕ → Bool
on_at mask t i = within (need_at t i) mask

-- s after the turn of rule i, which is on
abbrev pub fire_at : List ℕ → ℕ → ℕ → ℕ
fire_at t i s = choose (has s (head_at t i)) s (choose (within (body_at t i) s) (insert s (head_at t i)) s)

-- the turn of rule i: the set after it, and one body more if the rule is on and its head was not in the set
pub record Fired (mask : ℕ) (t : List ℕ) (i s u read after : ℕ) : Type 0 where
  pub set_is : u ≡ choose (on_at mask t i) (fire_at t i s) s
  pub read_is : after ≡ read + choose (on_at mask t i) (choose (has s (head_at t i)) 0 1) 0
