-- `received::flushing::overflow` meets its contract. Assumes nothing.
use Rattle.received.proofs.flushing.Laws.{bell_of, flushes_of}
use Rattle.received.proofs.flushing.overflow.Goals as goal

pub returns-then-p : goal.returns-then-p
returns-then-p c = bell_of _ _ _ c.requires _ _ _ c.if-p.true c.bell.ensures c.with_output.ensures

pub returns-else-p : goal.returns-else-p
returns-else-p c = flushes_of _ _ _ c.requires _ c.if-p.false c.flush_input.ensures
