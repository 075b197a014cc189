-- What an event comes to is carried out as the rules say. Assumes nothing.
use Prim.Native.Nat.{ℕ}
use mathlib.Core.Path.{◌≡◌, refl}
use mathlib.Core.Bool.{Bool, true, false, cond}
use Rattle.rules.specs.declared.Event.{Event}
use Rattle.rules.specs.declared.Event.TheVariants.{Good, Parity, Framing, Break, Tick, Hangup}
use Rattle.rules.specs.Sizes.{Sizes, State}
use Rattle.rules.specs.Received as steps
use Rattle.input.specs.declared.Unit.TheVariants.{Zero, Broken}
use Rattle.received.specs.arrival.Arrival.{event_of, arrival_of, carried}
use Rattle.received.specs.declared.arrival.Arrival.{Arrival}
use Rattle.received.specs.declared.arrival.Arrival.TheVariants.{Nothing, Good as GoodByte, Silent, Interrupt, Hangup as HangsUp}

module _ (z : Sizes) (s : State) where
  broken_as : (b : ℕ) (ignored marked : Bool)
      → carried z s (cond ignored Nothing (cond marked (Silent (Broken b)) (Silent Zero))) ≡ steps.broken_on ignored marked z s b
  broken_as b true marked = refl
  broken_as b false true = refl
  broken_as b false false = refl

  parity_as : (b : ℕ) (a : Arrival) (checked : Bool) → carried z s a ≡ steps.broken z s b
      → carried z s (cond checked a (GoodByte b)) ≡ steps.parity_on checked z s b
  parity_as b a true e = e
  parity_as b a false e = refl

  break_as : (ignored signals marked : Bool)
      → carried z s (cond ignored Nothing (cond signals Interrupt (cond marked (Silent (Broken 0)) (Silent Zero))))
      ≡ steps.break_on ignored signals marked z s
  break_as true signals marked = refl
  break_as false true marked = refl
  break_as false false true = refl
  break_as false false false = refl

  hangup_as : (ignored : Bool) → carried z s (cond ignored Nothing HangsUp) ≡ steps.hangup_on ignored s
  hangup_as true = refl
  hangup_as false = refl

  event_as : (e : Event) → carried z s (event_of s.settings e) ≡ steps.event z s e
  event_as (Good b) = refl
  event_as (Parity b) = parity_as b _ s.settings.inpck (broken_as b s.settings.ignpar s.settings.parmrk)
  event_as (Framing b) = broken_as b s.settings.ignpar s.settings.parmrk
  event_as Break = break_as s.settings.ignbrk s.settings.brkint s.settings.parmrk
  event_as Tick = refl
  event_as Hangup = hangup_as s.settings.clocal

  received_on_lem : (hung : Bool) (e : Event) → carried z s (arrival_of s.settings hung e) ≡ steps.received_on hung z s e
  received_on_lem true e = refl
  received_on_lem false e = event_as e

  pub received_as : (e : Event) → carried z s (arrival_of s.settings s.hung_up e) ≡ steps.received z s e
  received_as e = received_on_lem s.hung_up e
