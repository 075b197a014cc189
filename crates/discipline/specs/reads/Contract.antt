-- What a read on the input i promises: the answer, the port and the lent buffer.
use Rattle.std.specs.Prelude.{ℕ, ◌+◌, ◌%◌, ◌≡◌, cond, Bool, ◌||◌, List, [], length, ltb}
use Rattle.rules.specs.Sizes.{State}
use Rattle.rules.specs.Refusals.{Reply, lent_after}
use Rattle.rules.specs.Reads.{finish, part_of, enough, expired}
use Rattle.input.specs.Contract.{get, put, fitted}
use Rattle.input.specs.declared.Input.{Input}
use Rattle.output.specs.Contract as output
use Rattle.input.specs.reading.Contract.{gone}
use Rattle.port.specs.Sending.{refused}
use Rattle.port.specs.declared.Port.{Port}
use Rattle.port.specs.declared.Answered.{Answered}
use Rattle.port.specs.Layers.{assembled}
use Rattle.rules.specs.declared.Settings.{Settings}
use Rattle.rules.specs.declared.Waiting.{Waiting}
use Rattle.rules.specs.declared.Call.TheVariants.{Read}
use Rattle.port.specs.State.{capacity, place_bytes, place_marks}
use Rattle.port.specs.Calls.{step_of}

-- the port with the input i as a state; a read does not look at the output
abbrev pub state_of : Port → Input → List ℕ → List ℕ → State
state_of p i bs ms =
    record {
      settings = p.settings;
      input = get i bs ms;
      output = output.get p.output [];
      foreground = p.foreground;
      hung_up = p.hung;
      waiting = p.waiting;
    }

-- the port after a read that leaves w: the oldest place stands behind the places that are gone
abbrev pub took : Port → Input → List ℕ → List ℕ → State → Port
took p i bs ms w =
    assembled p (put w.input ((i.queue.head + gone (get i bs ms) w.input) % length bs)) p.output w.waiting

-- A read on the input i. On a refusal the port is as it was.
pub record ReadsFrom (p : Port) (i : Input) (bs ms d : List ℕ) (w : State × Reply) (r : Answered) (d' : List ℕ) : Type 0 where
  pub answer : r.answer ≡ w.1.answer
  pub buffer : d' ≡ lent_after d w.1
  pub port : r.port ≡ cond (refused w.1.answer) p (took p i bs ms w.0)

-- The same by a rule: what it answers to a read of as many bytes as the buffer d has.
abbrev pub ReadsBy : (State → ℕ → State × Reply) → Port → Input → List ℕ → List ℕ → List ℕ → Answered → List ℕ → Type 0
ReadsBy rule p i bs ms d r d' = ReadsFrom p i bs ms d (rule (state_of p i bs ms) (length d)) r d'

-- the read is done: it takes what there is of its n bytes
abbrev pub done : State → ℕ → State × Reply
done s n = finish s (part_of s.settings.icanon n s.input.finished)

---- When a read finds what it asks for

-- canonical, a finished line; else enough bytes, or the timer has expired
abbrev pub finds : Settings → ℕ → Waiting → ℕ → Bool
finds x finished w n = cond x.icanon (ltb 0 finished) (enough x n finished || expired w)

---- What a read promises: the answer, the port and the lent buffer, by the rules' `read`. The input's slices are lent shared: no byte
-- of them changes.

-- A read of as many bytes as the buffer d has, of the places that both slices have.
abbrev pub Reads : Port → List ℕ → List ℕ → List ℕ → Bool → Answered → List ℕ → Type 0
Reads p bs ms d nonblocking r d' =
    ReadsFrom p (fitted (capacity bs ms) p.input) (place_bytes bs ms) (place_marks bs ms) d (step_of p bs ms [] (Read nonblocking) d) r d'
