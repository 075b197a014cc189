-- What the inner layers ask of a port and promise: the state of the rules after it, and every byte of the three slices.
use Rattle.std.specs.Prelude.{ℕ, ◌≡◌, List, length}
use Rattle.rules.specs.declared.Waiting.{Waiting}
use Rattle.rules.specs.Sizes.{Sizes, State, Place}
use Rattle.rules.specs.Editing.{units}
use Rattle.input.specs.Contract as input
use Rattle.input.specs.declared.Input.{Input}
use Rattle.output.specs.Contract as output
use Rattle.output.specs.declared.Output.{Output}
use Rattle.port.specs.declared.Port.{Port}

-- the port and slices of which the input's have one length
abbrev pub state : Port → List ℕ → List ℕ → List ℕ → State
state p bs ms os =
    record {
      settings = p.settings;
      input = input.get p.input bs ms;
      output = output.get p.output os;
      foreground = p.foreground;
      hung_up = p.hung;
      waiting = p.waiting;
    }

-- n places of input, m bytes of output
abbrev pub sizes_of : Port → ℕ → ℕ → Sizes
sizes_of p n m = record { line = p.line; input = n; output = m }

-- the units of the current line
abbrev pub units_of : Port → List ℕ → List ℕ → List (List Place)
units_of p bs ms = units (input.get p.input bs ms).current

-- the numbers of both queues are in range
pub record Ranged (p : Port) (n m : ℕ) : Type 0 where
  pub input : input.Within p.input n
  pub output : p.output ≡ output.in_range m p.output

-- After the call the port is the state w: input and output laid as they say, the rest as in w.
pub record Becomes (p : Port) (bs ms os : List ℕ) (w : State) (r : Port) (bs' ms' os' : List ℕ) : Type 0 where
  pub input : input.InputBecomes p.input bs ms w.input r.input bs' ms'
  pub output : output.OutputBecomes p.output os w.output r.output os'
  pub settings : r.settings ≡ w.settings
  pub line : r.line ≡ p.line
  pub foreground : r.foreground ≡ w.foreground
  pub hung : r.hung ≡ w.hung_up
  pub waiting : r.waiting ≡ w.waiting

-- the same of a function that is lent the output's slice alone, for n places of input
abbrev pub Turns : Port → ℕ → List ℕ → (Sizes → State → State) → Port → List ℕ → Type 0
Turns p n os f r os' =
    (bs ms : List ℕ) → length bs ≡ n → length ms ≡ n
    → Becomes p bs ms os (f (sizes_of p n (length os)) (state p bs ms os)) r bs ms os'

-- the port with other queues and another waiting read
abbrev pub assembled : Port → Input → Output → Waiting → Port
assembled p i o w =
    record { settings = p.settings; line = p.line; input = i; output = o; foreground = p.foreground; hung = p.hung; waiting = w }

-- The slices of the input have one length, and the numbers are in range.
pub record Ready (p : Port) (bs ms os : List ℕ) : Type 0 where
  pub same : length bs ≡ length ms
  pub ranged : Ranged p (length bs) (length os)
