-- `bits` gives one rule less with each step.
use Prim.Native.Nat.{◌<◌}
use Rattle.literals.proofs.Members.{minus_less}
use borrow.Author.Rules.{rules}
use Rattle.literals.proofs.masks.AscendingIterator.next.Goals as goal

pub returns-clause-goes : goal.returns-clause-goes
returns-clause-goes c =
    let less : c.rest-self.result < c.args.self.now.left =
    rw (c.rest-self.ensures _ c.lowest-bit.ensures) (minus_less c.args.self.now.left c.lowest-bit.result c.lowest-bit.ensures.member) in
    record { on = λ _. (tt, tt, less); keeps = tt; rests = λ _. tt }
