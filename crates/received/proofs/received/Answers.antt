-- `received::received` meets its contract. Assumes nothing.
use mathlib.Core.Path.{refl, sym}
use Rattle.port.proofs.Layers.{stays}
use Rattle.received.proofs.Events.{quiet_of, happens, ticked}
use Rattle.received.proofs.received.Goals as goal

pub returns-in-Nothing : goal.returns-in-Nothing
returns-in-Nothing c =
    happens _ _ _ _ _ _ _ _ _ _ c.arrives.ensures c.in-Nothing.is
    (quiet_of _ _ _ _ _ _ _ _ _ _ c.quiet.ensures (stays _ _ _ _ c.requires))

pub returns-in-Good : goal.returns-in-Good
returns-in-Good c = happens _ _ _ _ _ _ _ _ _ _ c.arrives.ensures c.in-Good.is c.good.ensures

pub returns-in-Silent : goal.returns-in-Silent
returns-in-Silent c =
    happens _ _ _ _ _ _ _ _ _ _ c.arrives.ensures c.in-Silent.is
    (quiet_of _ _ _ _ _ _ _ _ _ _ c.quiet-in-Silent.ensures c.stores.ensures)

pub returns-in-Interrupt : goal.returns-in-Interrupt
returns-in-Interrupt c =
    happens _ _ _ _ _ _ _ _ _ _ c.arrives.ensures c.in-Interrupt.is
    (c.interrupts.ensures _ _ refl (sym c.requires.same))

pub returns-in-Tick : goal.returns-in-Tick
returns-in-Tick c =
    happens _ _ _ _ _ _ _ _ _ _ c.arrives.ensures c.in-Tick.is
    (quiet_of _ _ _ _ _ _ _ _ _ _ c.quiet-in-Tick.ensures (ticked _ _ _ _ _ c.requires c.ticks.ensures))

pub returns-in-Hangup : goal.returns-in-Hangup
returns-in-Hangup c =
    happens _ _ _ _ _ _ _ _ _ _ c.arrives.ensures c.in-Hangup.is
    (c.hangs_up.ensures _ _ refl (sym c.requires.same))
