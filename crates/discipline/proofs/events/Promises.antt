-- The state after a call is the rules' next state, at the same sizes.
-- Assumes nothing.
use mathlib.Core.List.{List, []}
use Prim.Native.Nat.{ℕ}
use Rattle.rules.specs.declared.Call.TheVariants.{Receive, Flush}
use Rattle.rules.specs.declared.Event.{Event}
use Rattle.port.specs.State.{sizes, get}
use Rattle.port.specs.declared.Port.{Port}
use Rattle.port.specs.declared.Answered.{Answered}
use Rattle.port.proofs.following.Laws.{received_goes, flushed_goes}
use Rattle.port.specs.Calls.{step_of, Calls, Now, Leaves, Keeps, Asks}
use Rattle.port.proofs.Promises.{left_now, within_places, within_queue}
use mathlib.Core.Path.{ap}
use mathlib.Core.Bool.{Bool, true, false}
use lib.Dec.{eqb}
use Rattle.rules.specs.Sizes.{State}
use Rattle.rules.specs.Flushing as flushing
use Rattle.port.specs.Sending.{refused}
use Rattle.port.specs.following.Following.{Goes}

module _ (p : Port) (bs ms os : List ℕ) where
  pub received_now : (e : Event) (r : Answered) (bs' ms' os' : List ℕ) → Calls p bs ms os (step_of p bs ms os (Receive e) []) r bs' ms' os'
      → Now p bs ms os (step_of p bs ms os (Receive e) []).0 r.port bs' ms' os'
  received_now e r bs' ms' os' h =
      left_now p r.port bs ms os bs' ms' os' (step_of p bs ms os (Receive e) []).0
      (received_goes (sizes p bs ms os) (get p bs ms os) e (within_places p bs ms os) (within_queue p bs ms os)) h.leaves

  ---- A flush

  pub flushed_now : (choice : ℕ) (r : Answered) → Asks p bs ms os (step_of p bs ms os (Flush choice) []) r
      → Now p bs ms os (step_of p bs ms os (Flush choice) []).0 r.port bs ms os
  flushed_now choice r h =
      by (eqb choice 1) (eqb choice 2) (eqb choice 3) (flushed_goes (sizes p bs ms os) (get p bs ms os) choice (within_places p bs ms os)
      (within_queue p bs ms os)) h.keeps
    where
      leaves : (w : State) → Goes (sizes p bs ms os) (get p bs ms os) w → Leaves p bs ms os w r.port bs ms os → Now p bs ms os w r.port bs ms os
      leaves w g k = left_now p r.port bs ms os bs ms os w g k

      by : (a b c : Bool) → Goes (sizes p bs ms os) (get p bs ms os) (flushing.flushed_on a b c (get p bs ms os)).0
          → Keeps (refused (flushing.flushed_on a b c (get p bs ms os)).1.answer) p bs ms os (flushing.flushed_on a b c (get p bs ms os)).0 r.port
          → Now p bs ms os (flushing.flushed_on a b c (get p bs ms os)).0 r.port bs ms os
      by true b c g k = leaves (flushing.flush_input (get p bs ms os)) g k
      by false true c g k = leaves (flushing.flush_output (get p bs ms os)) g k
      by false false true g k = leaves (flushing.flush_both (get p bs ms os)) g k
      by false false false g k = record { state = ap (λ (y : Port). get y bs ms os) k; sizes = ap (λ (y : Port). sizes y bs ms os) k }
