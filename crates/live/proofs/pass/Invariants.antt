-- `pass` meets its contract: the rules before i had their turn.
use Rattle.literals.specs.Inside.Words.{set_of}
use Rattle.live.specs.Steps.{Taken, TakenTo}
use Rattle.live.proofs.pass.Given as goal

abbrev pub invariant-loop-i : goal.invariant-loop-i
invariant-loop-i l = Taken l.table (set_of l.derived) (set_of l.literals) l.p.n (set_of l.p.taken) l.live
    × TakenTo l.table (set_of l.derived) (set_of l.literals) (set_of l.from.waiting) l.i (set_of l.p.taken)
