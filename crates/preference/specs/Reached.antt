-- The rules that some rule of a set beats, as a list that evaluates: grown from those that listed pairs name, pair by pair and
-- in rounds, until nothing is added.
use Rattle.std.specs.Prelude.{Bool, not, ◌&&◌, List, [], ◌∷◌, map, ℕ, zero, suc, length}
use Rattle.lists.specs.Lists.{keep, filter, member}
use Rattle.program.specs.Program.{Program}

-- the first rule of a pair is reached, and the second not yet
abbrev pub adds : ℕ × ℕ → List ℕ → Bool
adds q reached = member q.0 reached && not (member q.1 reached)

-- one pair: where its first rule is reached, so is its second
abbrev pub follow : ℕ × ℕ → List ℕ → List ℕ
follow q reached = keep (adds q reached) q.1 reached

-- a round: each pair once
unfoldable pub spread : List (ℕ × ℕ) → List ℕ → List ℕ
spread [] reached = reached
spread (q ∷ ps) reached = spread ps (follow q reached)

-- so many rounds
unfoldable pub rounds : ℕ → List (ℕ × ℕ) → List ℕ → List ℕ
unfolding spread
rounds zero ps reached = reached
rounds (suc n) ps reached = rounds n ps (spread ps reached)

module _ (p : Program) (of : ℕ → Bool) where
  -- the rules that a listed pair names after one of the set
  abbrev pub listed_after : List ℕ
  listed_after = map (λ q. q.1) (filter (λ q. of q.0) p.pairs)

  -- those that a chain leads to: each round but the last adds the second rule of some pair, so that there are no more rounds
  -- than pairs
  abbrev pub reached : List ℕ
  reached = rounds (length p.pairs) p.pairs listed_after
