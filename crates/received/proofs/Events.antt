-- One lemma for each way out of an event. Assumes nothing.
use mathlib.Core.Path.{◌≡◌, refl, sym, ap, subst, ◌∙◌}
use mathlib.Core.List.{List}
use Prim.Native.Nat.{ℕ}
use Rattle.rules.specs.declared.Event.{Event}
use Rattle.rules.specs.declared.Outcome.{Outcome}
use Rattle.rules.specs.declared.Outcome.TheVariants.{Ok}
use Rattle.rules.specs.declared.Signal.TheVariants.{Int}
use Rattle.rules.specs.Sizes.{Sizes, State, with_waiting}
use Rattle.rules.specs.Flushing as flushing
use Rattle.rules.specs.Received as steps
use Rattle.port.specs.declared.Port.{Port}
use Rattle.port.specs.Layers.{state, Ready, Becomes, Turns, assembled}
use Rattle.port.proofs.Layers.{as_assembled, input_stays, output_stays}
use Rattle.received.specs.Contract.{Answers, Announces, hung_up}
use Rattle.received.specs.declared.Reported.{Reported}
use Rattle.received.specs.arrival.Arrival.{arrival_of, carried}
use Rattle.received.specs.declared.arrival.Arrival.{Arrival}
use Rattle.received.proofs.arrival.Laws.{received_as}

---- The answers of events

-- nothing is reported
pub quiet_of : (p q : Port) (bs ms os bs' ms' os' : List ℕ) (w : State) (r : Reported) → r ≡ record { port = q; outcome = Ok }
    → Becomes p bs ms os w q bs' ms' os'
    → Answers p bs ms os (w, Ok) r bs' ms' os'
quiet_of p q bs ms os bs' ms' os' w r er b =
    subst (λ (y : Reported). Answers p bs ms os (w, Ok) y bs' ms' os') (sym er) (record { port = b; outcome = refl })

pub reports_of_lem : (p q : Port) (bs ms os bs' ms' os' : List ℕ) (w : State) (o : Outcome) (r : Reported) → r ≡ record { port = q; outcome = o }
    → Becomes p bs ms os w q bs' ms' os' → Answers p bs ms os (w, o) r bs' ms' os'
reports_of_lem p q bs ms os bs' ms' os' w o r er b =
    subst (λ (y : Reported). Answers p bs ms os (w, o) y bs' ms' os') (sym er) (record { port = b; outcome = refl })

-- both queues are flushed, and INT goes to the foreground group
pub interrupted : (p q : Port) (n : ℕ) (os : List ℕ) (r : Reported) → Turns p n os (λ z s. flushing.flush_both s) q os
    → r ≡ record { port = q; outcome = steps.reported Int p.foreground }
    → Announces p n os (λ s. (flushing.flush_both s, steps.reported Int s.foreground)) r
interrupted p q n os r b er bs ms eb em = reports_of_lem _ _ _ _ _ _ _ _ _ _ _ er (b bs ms eb em)

-- a hangup
pub hung_up_lem : (p q t : Port) (n : ℕ) (os : List ℕ) → Turns p n os (λ z s. flushing.flush_both s) q os → t ≡ hung_up q
    → Turns p n os (λ z s. steps.hung_up (flushing.flush_both s)) t os
hung_up_lem p q t n os b et bs ms eb em =
    let c = b bs ms eb em in
    as_assembled p (hung_up q) t bs ms os bs ms os (steps.hung_up (flushing.flush_both (state p bs ms os))) et
    (record {
      input = c.input;
      output = c.output;
      settings = c.settings;
      line = c.line;
      foreground = c.foreground;
      hung = refl;
      waiting = c.waiting;
    })

-- a tick
pub ticked : (p r : Port) (bs ms os : List ℕ) → Ready p bs ms os → r ≡ assembled p p.input p.output (steps.lowered p.waiting)
    → Becomes p bs ms os (with_waiting (state p bs ms os) (steps.lowered p.waiting)) r bs ms os
ticked p r bs ms os g er =
    as_assembled p (assembled p p.input p.output (steps.lowered p.waiting)) r bs ms os bs ms os
    (with_waiting (state p bs ms os) (steps.lowered p.waiting)) er
    (record {
      input = input_stays p.input bs ms g.same g.ranged.input;
      output = output_stays p.output os g.ranged.output;
      settings = refl;
      line = refl;
      foreground = refl;
      hung = refl;
      waiting = refl;
    })

-- in the arm of what the event comes to
pub happens : {a k : Arrival} (p : Port) (bs ms os bs' ms' os' : List ℕ) (z : Sizes) (e : Event) (r : Reported) → a ≡ arrival_of p.settings p.hung e
    → a ≡ k
    → Answers p bs ms os (carried z (state p bs ms os) k) r bs' ms' os' → Answers p bs ms os (steps.received z (state p bs ms os) e) r bs' ms' os'
happens p bs ms os bs' ms' os' z e r ea ek h =
    subst (λ (y : State × Outcome). Answers p bs ms os y r bs' ms' os')
    (ap (carried z (state p bs ms os)) (sym ek ∙ ea) ∙ received_as z (state p bs ms os) e) h
