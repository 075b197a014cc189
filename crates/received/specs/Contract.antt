-- What the functions of a port promise: the state of the rules after it, every byte of the slices, and what is reported.
use Rattle.std.specs.Prelude.{Bool, false, not, ◌&&◌, true, ℕ, ◌≡◌, List, length, Option}
use Rattle.rules.specs.declared.Settings.{Settings}
use Rattle.port.specs.declared.Port.{Port}
use Rattle.port.specs.Layers.{assembled, Becomes, state, sizes_of}
use Rattle.received.specs.flushing.Contract.{literal_to, stop_to}
use Rattle.rules.specs.declared.Group.{Group}
use Rattle.rules.specs.declared.Outcome.{Outcome}
use Rattle.rules.specs.Sizes.{Sizes, State}
use Rattle.rules.specs.Received.{carry}
use Rattle.received.specs.meaning.Meaning.{meaning_of}
use Rattle.received.specs.declared.meaning.Meaning.{Meaning}
use Rattle.received.specs.declared.Reported.{Reported}

-- 'IXON and IXANY: output resumes.'
abbrev pub stopped_then : Settings → Bool → Bool
stopped_then x stopped = stopped && not (x.ixon && x.ixany)

-- the port at step 3
abbrev pub begun : Port → Port
begun p = assembled p (literal_to false p.input) (stop_to (stopped_then p.settings p.output.stopped) p.output) p.waiting

-- the port with its three slices becomes what the rules' step f makes of it
abbrev pub Does : Port → List ℕ → List ℕ → List ℕ → (Sizes → State → State) → Port → List ℕ → List ℕ → List ℕ → Type 0
Does p bs ms os f r bs' ms' os' = Becomes p bs ms os (f (sizes_of p (length bs) (length os)) (state p bs ms os)) r bs' ms' os'

---- What the functions of an event promise

pub record Answers (p : Port) (bs ms os : List ℕ) (w : State × Outcome) (r : Reported) (bs' ms' os' : List ℕ) : Type 0 where
  pub port : Becomes p bs ms os w.0 r.port bs' ms' os'
  pub outcome : r.outcome ≡ w.1

-- likewise, with what the rules' step f reports
abbrev pub Reports : Port → List ℕ → List ℕ → List ℕ → (Sizes → State → State × Outcome) → Reported → List ℕ → List ℕ → List ℕ → Type 0
Reports p bs ms os f r bs' ms' os' = Answers p bs ms os (f (sizes_of p (length bs) (length os)) (state p bs ms os)) r bs' ms' os'

-- what is reported of a meaning where f is the foreground group
abbrev pub Tells : Meaning → Option Group → Outcome → Type 0
Tells m f r = (z : Sizes) (s : State) (x : Settings) → s.foreground ≡ f → r ≡ (carry z s (meaning_of x m)).1

---- What a hangup and an interrupt promise

-- A function that writes no slice, for n places of input.
abbrev pub Announces : Port → ℕ → List ℕ → (State → State × Outcome) → Reported → Type 0
Announces p n os f r =
    (bs ms : List ℕ) → length bs ≡ n → length ms ≡ n → Answers p bs ms os (f (state p bs ms os)) r bs ms os

-- 'the port is hung up'
abbrev pub hung_up : Port → Port
hung_up p =
    record {
      settings = p.settings;
      line = p.line;
      input = p.input;
      output = p.output;
      foreground = p.foreground;
      hung = true;
      waiting = p.waiting;
    }
