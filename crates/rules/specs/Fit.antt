-- Document 01, 'Received events': what fits, what is stored, and what happens to the rest.
use Rattle.std.specs.Prelude.{ℕ, ◌+◌, Bool, true, false, ◌&&◌, List, [], ◌∷◌, ◌++◌, reverse, length, leb, ltb, eqb}
use Rattle.rules.specs.Types.{Settings, Timer, Waiting, Idle, Untimed, Timed}
use Rattle.rules.specs.Sizes.{Sizes, Place, Input, State, used, with_output}
use Rattle.rules.specs.Settings.{stored}
use Rattle.rules.specs.Flushing.{between_bytes, flush_input}
use Rattle.rules.specs.Output.{queued_whole}
use Rattle.rules.specs.Echo.{shown}

-- 'a delimiter or mark fits if at most 1,023 places are used'
abbrev pub end_fits : Sizes → Input → Bool
end_fits z i = ltb (used i) z.input

-- 'another unit of u bytes if the current line has at most 254 − u and the places used are at most 1,023 − u';
-- 'without ICANON, used places plus u must be at most 1,024'
abbrev pub unit_fits : Bool → Sizes → Input → ℕ → Bool
unit_fits true z i u = leb (length i.current + u) z.line && ltb (used i + u) z.input
unit_fits false z i u = leb (used i + u) z.input

-- 'the timer starts .. with the first unit stored; it starts again with each further unit'; at zero 'new bytes no longer
-- restart it'. The test is for 0 left.
abbrev pub restarted_on : Bool → Settings → ℕ → Timer → Waiting
restarted_on true x n t = Timed n t
restarted_on false x n t = Timed n (record { left = x.time })

abbrev pub timer_stored : Bool → Settings → Waiting → Waiting
timer_stored between x Idle = Idle
timer_stored true x (Untimed n) = Timed n (record { left = x.time })
timer_stored false x (Untimed n) = Untimed n
timer_stored true x (Timed n t) = restarted_on (eqb t.left 0) x n t
timer_stored false x (Timed n t) = Timed n t

-- The input with a unit more, its places oldest first. ICANON; without it all that is stored is readable.
abbrev pub kept_in : Bool → Input → List Place → Input
kept_in true i u = record { finished = i.finished; current = reverse u ++ i.current; literal_next = i.literal_next }
kept_in false i u = record { finished = stored i ++ u; current = []; literal_next = i.literal_next }

abbrev pub kept : State → List Place → State
kept s u =
    record {
      settings = s.settings;
      input = kept_in s.settings.icanon s.input u;
      output = s.output;
      foreground = s.foreground;
      hung_up = s.hung_up;
      waiting = timer_stored (between_bytes s.settings) s.settings s.waiting;
    }

-- The current line ends with the place p: a delimiter or a mark.
abbrev pub ended : State → Place → State
ended s p =
    record {
      settings = s.settings;
      input =
          record {
            finished = s.input.finished ++ reverse (p ∷ s.input.current);
            current = [];
            literal_next = s.input.literal_next;
          };
      output = s.output;
      foreground = s.foreground;
      hung_up = s.hung_up;
      waiting = timer_stored (between_bytes s.settings) s.settings s.waiting;
    }

-- 'What does not fit is dropped without echo: IMAXBEL queues byte 7 unprocessed, if there is room; else all input is flushed.'
abbrev pub overflow_on : Bool → Sizes → State → State
overflow_on true z s = with_output s (queued_whole z.output s.settings s.output (7 ∷ []))
overflow_on false z s = flush_input s

abbrev pub overflow : Sizes → State → State
overflow z s = overflow_on s.settings.imaxbel z s

-- a unit and what it shows
abbrev pub unit_on : Bool → Sizes → State → List Place → List ℕ → State
unit_on true z s u echo = shown z (kept s u) echo
unit_on false z s u echo = overflow z s

abbrev pub stores_unit : Sizes → State → List Place → List ℕ → State
stores_unit z s u echo = unit_on (unit_fits s.settings.icanon z s.input (length u)) z s u echo

-- a delimiter or a mark, and what it shows
abbrev pub end_on : Bool → Sizes → State → Place → List ℕ → State
end_on true z s p echo = shown z (ended s p) echo
end_on false z s p echo = overflow z s

abbrev pub stores_end : Sizes → State → Place → List ℕ → State
stores_end z s p echo = end_on (end_fits z s.input) z s p echo
