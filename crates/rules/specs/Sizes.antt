-- Document 01, 'A port and its sizes': the state that the rules speak of.
use Rattle.std.specs.Prelude.{ℕ, ◌+◌, Bool, true, false, List, [], ◌∷◌, map, length, Option, None}
use Rattle.rules.specs.Types.{Settings, Group, Waiting, Idle}

-- The sizes are a parameter of every rule that depends on them.
pub record Sizes : Type 0 where
  pub line : ℕ
  pub input : ℕ
  pub output : ℕ

-- 'Stored input: 1,024 places. A line: 254 bytes and its delimiter. Output queue: 2,048 bytes.'
abbrev pub base : Sizes
base = record { line = 254; input = 1024; output = 2048 }

-- One place of the stored input. Its byte; whether it is the first of a unit; whether a line ends with it; whether it
-- is an end-of-file mark and no byte; whether its unit is silent: stored by a break, a parity or a framing error.
pub record Place : Type 0 where
  pub byte : ℕ
  pub starts : Bool
  pub ends : Bool
  pub mark : Bool
  pub silent : Bool

-- Finished lines, oldest place first (all that is stored, with ICANON clear); the current line, newest place first.
pub record Input : Type 0 where
  pub finished : List Place
  pub current : List Place
  pub literal_next : Bool

pub record Output : Type 0 where
  pub queue : List ℕ  -- oldest byte first
  pub column : ℕ
  pub stopped : Bool

-- 'A port has at most one waiting read, and a foreground group: none, or a number with an orphaned mark.'
pub record State : Type 0 where
  pub settings : Settings
  pub input : Input
  pub output : Output
  pub foreground : Option Group
  pub hung_up : Bool
  pub waiting : Waiting

-- 'A fresh port holds no byte, column 0, no foreground group', here with settings x.
abbrev pub fresh_with : Settings → State
fresh_with x =
    record {
      settings = x;
      input = record { finished = []; current = []; literal_next = false };
      output = record { queue = []; column = 0; stopped = false };
      foreground = None;
      hung_up = false;
      waiting = Idle;
    }

-- 'A unit is the 1, 2 or 3 bytes stored by one event.' Its places, oldest first.
abbrev pub further : Bool → ℕ → Place
further silent b = record { byte = b; starts = false; ends = false; mark = false; silent = silent }

abbrev pub unit : Bool → ℕ → List ℕ → List Place
unit silent b more =
    record { byte = b; starts = true; ends = false; mark = false; silent = silent } ∷ map (further silent) more

-- A byte that ends its line.
abbrev pub delimiter : ℕ → Place
delimiter b = record { byte = b; starts = true; ends = true; mark = false; silent = false }

-- 'An end-of-file mark takes one place.'
abbrev pub end_of_file : Place
end_of_file = record { byte = 0; starts = true; ends = true; mark = true; silent = false }

-- The places used.
abbrev pub used : Input → ℕ
used i = length i.finished + length i.current

-- The state with one part replaced.
abbrev pub with_input : State → Input → State
with_input s i =
    record { settings = s.settings; input = i; output = s.output; foreground = s.foreground; hung_up = s.hung_up; waiting = s.waiting }

abbrev pub with_output : State → Output → State
with_output s o =
    record { settings = s.settings; input = s.input; output = o; foreground = s.foreground; hung_up = s.hung_up; waiting = s.waiting }

abbrev pub with_waiting : State → Waiting → State
with_waiting s w =
    record { settings = s.settings; input = s.input; output = s.output; foreground = s.foreground; hung_up = s.hung_up; waiting = w }

abbrev pub with_foreground : State → Option Group → State
with_foreground s g =
    record { settings = s.settings; input = s.input; output = s.output; foreground = g; hung_up = s.hung_up; waiting = s.waiting }

abbrev pub with_literal_next : Input → Bool → Input
with_literal_next i l = record { finished = i.finished; current = i.current; literal_next = l }

abbrev pub with_stopped : Output → Bool → Output
with_stopped o t = record { queue = o.queue; column = o.column; stopped = t }
