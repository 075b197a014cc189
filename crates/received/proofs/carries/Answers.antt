-- `received::carries` meets its contract. Assumes nothing.
use mathlib.Core.Path.{refl, sym}
use mathlib.Core.Bool.{true, false}
use Rattle.port.proofs.Layers.{stays}
use Rattle.received.proofs.flushing.Laws.{literal_of, stopped_of}
use Rattle.received.proofs.carries.Goals as goal

pub returns-in-LiteralNext : goal.returns-in-LiteralNext
returns-in-LiteralNext c = rw c.in-LiteralNext.is (literal_of _ _ _ _ c.requires _ true c.sets_literal.ensures)

pub returns-in-Signals : goal.returns-in-Signals
returns-in-Signals c = rw c.in-Signals.is (c.signals.ensures _ _ refl (sym c.requires.same))

pub returns-in-Stops : goal.returns-in-Stops
returns-in-Stops c = rw c.in-Stops.is (stopped_of _ _ _ _ c.requires _ true c.stopped_to.ensures)

pub returns-in-Starts : goal.returns-in-Starts
returns-in-Starts c = rw c.in-Starts.is (stopped_of _ _ _ _ c.requires _ false c.stopped_to-in-Starts.ensures)

pub returns-in-Drops : goal.returns-in-Drops
returns-in-Drops c = rw c.in-Drops.is (stays _ _ _ _ c.requires)
