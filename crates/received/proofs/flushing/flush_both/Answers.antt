-- `received::flushing::flush_both` meets its contract. Assumes nothing.
use borrow.Author.Rules.{rules}
use Rattle.received.proofs.flushing.Laws.{flushed_both}
use Rattle.received.proofs.flushing.flush_both.Goals as goal

pub returns : goal.returns
returns c = search (rules, flushed_both)
