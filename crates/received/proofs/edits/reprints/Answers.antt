-- `received::edits::reprints` meets its contract. Assumes nothing.
use Rattle.received.proofs.edits.Laws.{reprinted}
use Rattle.received.proofs.edits.reprints.Goals as goal

pub returns : goal.returns
returns c = reprinted _ _ _ _ _ _ _ _ c.requires c.of_reprinted-output.ensures c.with_output.ensures
