-- A port and its three slices as a state of the rules (get). It is total: every port with any slices is a state.
use Rattle.std.specs.Prelude.{ℕ, min, List, length, take}
use Rattle.rules.specs.Sizes.{Sizes, State}
use Rattle.input.specs.Contract as input
use Rattle.output.specs.Contract as output
use Rattle.output.specs.declared.Output.{Output}
use Rattle.port.specs.declared.Port.{Port}

-- The input has as many places as the shorter of its two slices.
abbrev pub capacity : List ℕ → List ℕ → ℕ
capacity bs ms = min (length bs) (length ms)

-- the bytes of these places, and their marks
abbrev pub place_bytes : List ℕ → List ℕ → List ℕ
place_bytes bs ms = take (capacity bs ms) bs

abbrev pub place_marks : List ℕ → List ℕ → List ℕ
place_marks bs ms = take (capacity bs ms) ms

abbrev pub sizes : Port → List ℕ → List ℕ → List ℕ → Sizes
sizes p bs ms os = record { line = p.line; input = capacity bs ms; output = length os }

unfoldable pub get : Port → List ℕ → List ℕ → List ℕ → State
get p bs ms os =
    record {
      settings = p.settings;
      input = input.get p.input (place_bytes bs ms) (place_marks bs ms);
      output = output.get p.output os;
      foreground = p.foreground;
      hung_up = p.hung;
      waiting = p.waiting;
    }

-- the port with another output
abbrev pub with_output : Port → Output → Port
with_output p o =
    record { settings = p.settings; line = p.line; input = p.input; output = o; foreground = p.foreground; hung = p.hung; waiting = p.waiting }
