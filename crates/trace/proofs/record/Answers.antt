-- `trace::record` meets its contract. Assumes nothing.
use Rattle.trace.proofs.Laws.{recorded}
use Rattle.trace.proofs.record.Goals as goal

pub returns : goal.returns
returns c = recorded c.carry-given.ensures c.put_line-length.ensures
