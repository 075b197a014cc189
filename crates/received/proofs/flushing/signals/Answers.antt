-- `received::flushing::signals` meets its contract. Assumes nothing.
use Rattle.received.proofs.flushing.Laws.{signals_of}
use Rattle.received.proofs.flushing.signals.Goals as goal

pub returns : goal.returns
returns c = signals_of _ _ _ c.args.b _ _ _ _ c.flush_unless-flushed.ensures c.of_byte.ensures c.with_output.ensures
