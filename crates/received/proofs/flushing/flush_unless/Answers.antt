-- `received::flushing::flush_unless` meets its contract. Assumes nothing.
use Rattle.received.proofs.flushing.Laws.{unless_kept, unless_flushed}
use Rattle.received.proofs.flushing.flush_unless.Goals as goal

pub returns-then-kept : goal.returns-then-kept
returns-then-kept c = unless_kept _ _ _ _ c.requires c.if-kept.true

pub returns-else-kept : goal.returns-else-kept
returns-else-kept c = unless_flushed _ _ _ _ _ c.if-kept.false c.flush_both.ensures
