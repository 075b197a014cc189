-- What an event comes to, by the settings, and what the rules do then.
use Rattle.std.specs.Prelude.{ℕ, Bool, cond, []}
use Rattle.rules.specs.declared.Event.{Event}
use Rattle.rules.specs.declared.Event.TheVariants.{Good, Parity, Framing, Break, Tick, Hangup}
use Rattle.rules.specs.declared.Outcome.{Outcome}
use Rattle.rules.specs.declared.Outcome.TheVariants.{Ok}
use Rattle.rules.specs.declared.Settings.{Settings}
use Rattle.rules.specs.declared.Signal.TheVariants.{Int, Hup}
use Rattle.rules.specs.Sizes.{Sizes, State, with_waiting}
use Rattle.rules.specs.Fit.{stores_unit}
use Rattle.rules.specs.Flushing.{flush_both}
use Rattle.rules.specs.Received as steps
use Rattle.input.specs.declared.Unit.TheVariants.{Zero, Broken}
use Rattle.input.specs.Contract.{unit_of}
use Rattle.received.specs.declared.arrival.Arrival.{Arrival}
use Rattle.received.specs.declared.arrival.Arrival.TheVariants.{Nothing, Good as GoodByte, Silent, Interrupt, Tick as Ticks, Hangup as HangsUp}

---- What an event comes to

-- 'IGNPAR drops; else PARMRK stores 255,0,X; else 0.'
abbrev pub broken_of : Settings → ℕ → Arrival
broken_of x b = cond x.ignpar Nothing (cond x.parmrk (Silent (Broken b)) (Silent Zero))

-- 'Parity error with INPCK clear: a good byte.'
abbrev pub parity_of : Settings → ℕ → Arrival
parity_of x b = cond x.inpck (broken_of x b) (GoodByte b)

-- 'Break: IGNBRK, nothing. Else BRKINT, flush both and INT. Else PARMRK, store 255,0,0; else store 0.'
abbrev pub break_of : Settings → Arrival
break_of x = cond x.ignbrk Nothing (cond x.brkint Interrupt (cond x.parmrk (Silent (Broken 0)) (Silent Zero)))

-- 'Hangup: ignored under CLOCAL'
abbrev pub hangup_of : Settings → Arrival
hangup_of x = cond x.clocal Nothing HangsUp

abbrev pub event_of : Settings → Event → Arrival
event_of x (Good b) = GoodByte b
event_of x (Parity b) = parity_of x b
event_of x (Framing b) = broken_of x b
event_of x Break = break_of x
event_of x Tick = Ticks
event_of x Hangup = hangup_of x

-- 'A hung-up port ignores them, ticks too.'
abbrev pub arrival_of : Settings → Bool → Event → Arrival
arrival_of x hung e = cond hung Nothing (event_of x e)

---- What is then done. This alone would leave the arrival open: with ISTRIP set the bytes 1 and 129 are carried out alike.

abbrev pub carried : Sizes → State → Arrival → State × Outcome
carried z s Nothing = (s, Ok)
carried z s (GoodByte b) = steps.good z s b
carried z s (Silent u) = (stores_unit z s (unit_of u) [], Ok)
carried z s Interrupt = (flush_both s, steps.reported Int s.foreground)
carried z s Ticks = (with_waiting s (steps.lowered s.waiting), Ok)
carried z s HangsUp = (steps.hung_up (flush_both s), steps.reported Hup s.foreground)
