-- Document 01, 'Received events': flushing; and 'Reads': what an input flush does to a timer.
use Rattle.std.specs.Prelude.{ℕ, Bool, true, false, not, ◌&&◌, [], ltb, eqb}
use Rattle.rules.specs.Types.{Settings, OutOfRange, Ok, Waiting, Idle, Untimed, Timed}
use Rattle.rules.specs.Sizes.{State, with_output}
use Rattle.rules.specs.Refusals.{Reply, says, refuses}

-- The timer of 'MIN and TIME above 0' is the one in force: it runs between bytes.
abbrev pub between_bytes : Settings → Bool
between_bytes x = not x.icanon && ltb 0 x.min && ltb 0 x.time

-- 'An input flush turns this timer off, expired or not, until the next unit.' The timer of MIN 0: 'no flush touches it'.
abbrev pub timer_flushed : Bool → Waiting → Waiting
timer_flushed between Idle = Idle
timer_flushed between (Untimed n) = Untimed n
timer_flushed true (Timed n t) = Untimed n
timer_flushed false (Timed n t) = Timed n t

-- 'Flushing input drops finished lines, the current line and "literal next".'
abbrev pub flush_input : State → State
flush_input s =
    record {
      settings = s.settings;
      input = record { finished = []; current = []; literal_next = false };
      output = s.output;
      foreground = s.foreground;
      hung_up = s.hung_up;
      waiting = timer_flushed (between_bytes s.settings) s.waiting;
    }

-- 'Flushing output empties its queue; column and "stopped" stay.'
abbrev pub flush_output : State → State
flush_output s =
    with_output s (record { queue = []; column = s.output.column; stopped = s.output.stopped })

abbrev pub flush_both : State → State
flush_both s = flush_output (flush_input s)

-- The call: '1 input, 2 output, 3 both'; 'a flush choice not 1, 2 or 3' is refusal 2. The tests are for 1, 2, 3.
abbrev pub flushed_on : Bool → Bool → Bool → State → State × Reply
flushed_on true two three s = (flush_input s, says Ok 0)
flushed_on false true three s = (flush_output s, says Ok 0)
flushed_on false false true s = (flush_both s, says Ok 0)
flushed_on false false false s = refuses s OutOfRange

abbrev pub flushed : State → ℕ → State × Reply
flushed s choice = flushed_on (eqb choice 1) (eqb choice 2) (eqb choice 3) s
