-- What the calls promise: the answer, the port and every byte of the slices, by the rules' `step` at the state that `get` reads.
use Rattle.std.specs.Prelude.{ℕ, ◌≡◌, Bool, true, false, List, take, drop, Option}
use Rattle.rules.specs.declared.Call.{Call}
use Rattle.rules.specs.declared.Group.{Group}
use Rattle.rules.specs.Sizes.{State}
use Rattle.rules.specs.Refusals.{Reply}
use Rattle.rules.specs.Step.{step}
use Rattle.input.specs.Contract as input
use Rattle.output.specs.Contract.{in_range}
use Rattle.port.specs.State.{capacity, place_bytes, place_marks, sizes, get}
use Rattle.port.specs.Sending.{refused}
use Rattle.port.specs.declared.Port.{Port}
use Rattle.port.specs.declared.Answered.{Answered}
use Rattle.port.specs.Layers.{Becomes, assembled}

-- the rules' step from what a port and its slices are
abbrev pub step_of : Port → List ℕ → List ℕ → List ℕ → Call → List ℕ → State × Reply
step_of p bs ms os call lent = step (sizes p bs ms os) (get p bs ms os) call lent

-- Within the places of the input the port becomes the state w. Behind them, where one slice is longer than the other, every
-- byte is as it was.
pub record Leaves (p : Port) (bs ms os : List ℕ) (w : State) (r : Port) (bs' ms' os' : List ℕ) : Type 0 where
  pub port : Becomes p (place_bytes bs ms) (place_marks bs ms) os w r (take (capacity bs ms) bs') (take (capacity bs ms) ms') os'
  pub bytes : drop (capacity bs ms) bs' ≡ drop (capacity bs ms) bs
  pub marks : drop (capacity bs ms) ms' ≡ drop (capacity bs ms) ms

-- A call that is never refused.
pub record Calls (p : Port) (bs ms os : List ℕ) (w : State × Reply) (r : Answered) (bs' ms' os' : List ℕ) : Type 0 where
  pub answer : r.answer ≡ w.1.answer
  pub leaves : Leaves p bs ms os w.0 r.port bs' ms' os'

-- 'A refusal returns its number and count 0; port and buffers keep every byte.' A call that writes no slice.
abbrev pub Keeps : Bool → Port → List ℕ → List ℕ → List ℕ → State → Port → Type 0
Keeps true p bs ms os w r = r ≡ p
Keeps false p bs ms os w r = Leaves p bs ms os w r bs ms os

pub record Asks (p : Port) (bs ms os : List ℕ) (w : State × Reply) (r : Answered) : Type 0 where
  pub answer : r.answer ≡ w.1.answer
  pub keeps : Keeps (refused w.1.answer) p bs ms os w.0 r.port

-- the port with its numbers in range of n places of input and m bytes of output
abbrev pub ranged : Port → ℕ → ℕ → Port
ranged p n m = assembled p (input.fitted n p.input) (in_range m p.output) p.waiting

-- the port with another foreground group
abbrev pub with_group : Port → Option Group → Port
with_group p g =
    record { settings = p.settings; line = p.line; input = p.input; output = p.output; foreground = g; hung = p.hung; waiting = p.waiting }

-- a call that changes the foreground group at most, whatever the slices are
abbrev pub grouped : Port → State × Reply → Answered
grouped p w = record { port = with_group p w.0.foreground; answer = w.1.answer }

-- a call that ends a waiting read at most
abbrev pub cancelled : Port → State × Reply → Answered
cancelled p w = record { port = assembled p p.input p.output w.0.waiting; answer = w.1.answer }

-- a call that changes nothing
abbrev pub unchanged : Port → State × Reply → Answered
unchanged p w = record { port = p; answer = w.1.answer }

-- After a call: the state is w, and the sizes are as before.
pub record Now (p : Port) (bs ms os : List ℕ) (w : State) (r : Port) (bs' ms' os' : List ℕ) : Type 0 where
  pub state : get r bs' ms' os' ≡ w
  pub sizes : sizes r bs' ms' os' ≡ sizes p bs ms os
