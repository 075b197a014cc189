-- Every call that document 01 has: one step, and a run of them.
use Rattle.std.specs.Prelude.{ℕ, Bool, true, false, List, [], ◌∷◌, length}
use Rattle.rules.specs.Types.{Settings, Event, Good, Parity, Framing, Break, Tick, Hangup, Call, Set, Receive, Read, Write, Transmit, Flush}
use Rattle.rules.specs.Types.{Cancel, Foreground, ReadVerdict, WriteVerdict, SettingsVerdict, BadSettings, ReadWaits, Outcome, Ok, Waiting}
use Rattle.rules.specs.Types.{Idle, Untimed, Timed}
use Rattle.rules.specs.Sizes.{Sizes, State, with_waiting}
use Rattle.rules.specs.Settings.{acceptable, changed}
use Rattle.rules.specs.Refusals.{Reply, says, refuses}
use Rattle.rules.specs.Flushing.{flushed}
use Rattle.rules.specs.Received.{received}
use Rattle.rules.specs.Output.{write, transmit}
use Rattle.rules.specs.Reads.{read}
use Rattle.rules.specs.Verdicts.{foreground, judged, read_verdict, write_verdict, settings_verdict}

abbrev pub a_read_waits : Waiting → Bool
a_read_waits Idle = false
a_read_waits (Untimed n) = true
a_read_waits (Timed n t) = true

-- 'Settings test 4, then 1.'
abbrev pub set_on : Bool → Bool → State → Settings → State × Reply
set_on true good s x = refuses s ReadWaits
set_on false true s x = (changed s x, says Ok 0)
set_on false false s x = refuses s BadSettings

abbrev pub set : State → Settings → State × Reply
set s x = set_on (a_read_waits s.waiting) (acceptable x) s x

-- the count of an event: a byte is taken, or none comes
abbrev pub bytes_in : Event → ℕ
bytes_in (Good b) = 1
bytes_in (Parity b) = 1
bytes_in (Framing b) = 1
bytes_in Break = 0
bytes_in Tick = 0
bytes_in Hangup = 0

abbrev pub reports : Event → State × Outcome → State × Reply
reports e r = (r.0, says r.1 (bytes_in e))

-- One call. 'A read or transmit asks for as many bytes as the lent buffer has'; a write writes the lent bytes.
abbrev pub step : Sizes → State → Call → List ℕ → State × Reply
step z s (Set x) lent = set s x
step z s (Receive e) lent = reports e (received z s e)
step z s (Read nonblocking) lent = read s nonblocking (length lent)
step z s Write lent = write z s lent
step z s Transmit lent = transmit s (length lent)
step z s (Flush choice) lent = flushed s choice
step z s Cancel lent = (with_waiting s Idle, says Ok 0)
step z s (Foreground group orphaned) lent = foreground s group orphaned
step z s (ReadVerdict p) lent = judged s p (read_verdict s.foreground p)
step z s (WriteVerdict p) lent = judged s p (write_verdict s.settings.tostop s.foreground p)
step z s (SettingsVerdict p) lent = judged s p (settings_verdict s.foreground p)

-- A call and the buffer lent to it; what the buffer holds matters to a write alone.
pub record Asked : Type 0 where
  pub call : Call
  pub lent : List ℕ

abbrev pub step_of : Sizes → State → Asked → State × Reply
step_of z s a = step z s a.call a.lent

-- The replies to a list of calls, and the state after them.
abbrev pub run : Sizes → State → List Asked → List Reply
run z s [] = []
run z s (a ∷ more) = (step_of z s a).1 ∷ run z (step_of z s a).0 more

abbrev pub after : Sizes → State → List Asked → State
after z s [] = s
after z s (a ∷ more) = after z (step_of z s a).0 more
