-- `received::flushing::flush_input` meets its contract. Assumes nothing.
use mathlib.Core.Path.{refl}
use Rattle.received.proofs.flushing.Laws.{flushed_of}
use Rattle.received.proofs.flushing.flush_input.Goals as goal

pub returns : goal.returns
returns c =
    flushed_of _ _ _ c.requires _ _ _ c.flush.ensures (rw c.between_bytes-between.ensures at c.timer_flushed.ensures) refl
