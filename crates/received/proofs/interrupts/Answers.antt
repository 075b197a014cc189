-- `received::interrupts` meets its contract. Assumes nothing.
use borrow.Author.Rules.{rules}
use Rattle.received.proofs.Events.{interrupted}
use Rattle.received.proofs.interrupts.Goals as goal

pub returns : goal.returns
returns c = search (rules, interrupted)
