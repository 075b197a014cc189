-- A stronger form of demand 3: which event a place delivers is the same in all runs, whatever the bytes are.
use Rattle.std.specs.Prelude.{ℕ, ◌≡◌, List, map}
use Rattle.secrecy.specs.Types.{Settings, Event, Good, Parity, Framing, Break, Tick, Hangup, Call, Set, Receive, Read, Write, Transmit, Flush}
use Rattle.secrecy.specs.Types.{Cancel, Foreground, ReadVerdict, WriteVerdict, SettingsVerdict, Answer}
use Rattle.rules.specs.Sizes.{Sizes, State}
use Rattle.rules.specs.Refusals.{Reply}
use Rattle.rules.specs.Received.{step1}
use Rattle.rules.specs.Step.{Asked}
use Rattle.secrecy.specs.Statement.{Each, nth, Quiet, MayDiffer}

-- A byte given: the same in all runs, or in each run the byte of the i-th call.
pub data Given : Type 0 where
  fixed : ℕ → Given
  of_call : ℕ → Given

-- A reply without the bytes that may differ.
pub record Report : Type 0 where
  pub answer : Answer
  pub sent : List ℕ
  pub given : List Given

-- the byte of a good or parity event, 0 of any other
abbrev pub event_byte : Event → ℕ
event_byte (Good b) = b
event_byte (Parity b) = b
event_byte (Framing b) = 0
event_byte Break = 0
event_byte Tick = 0
event_byte Hangup = 0

abbrev pub byte_in : Call → ℕ
byte_in (Set x) = 0
byte_in (Receive e) = event_byte e
byte_in (Read nonblocking) = 0
byte_in Write = 0
byte_in Transmit = 0
byte_in (Flush choice) = 0
byte_in Cancel = 0
byte_in (Foreground group orphaned) = 0
byte_in (ReadVerdict p) = 0
byte_in (WriteVerdict p) = 0
byte_in (SettingsVerdict p) = 0

-- with the bytes of these calls put in
abbrev pub byte_of : Settings → List Asked → Given → ℕ
byte_of x calls (fixed b) = b
byte_of x calls (of_call i) = step1 x (byte_in (nth calls i))

abbrev pub reply_of : Settings → List Asked → Report → Reply
reply_of x calls r = record { answer = r.answer; sent = r.sent; given = map (byte_of x calls) r.given }

-- There is one list of reports that gives the answers to every list of calls that may differ from the first.
abbrev pub OneReport : (Sizes → State → List Asked → List Reply) → Type 0
OneReport answers =
    (z : Sizes) (s : State) (one : List Asked) → Quiet s.settings
    → (reports : List Report)
    × ((other : List Asked) → Each (MayDiffer s.settings) one other
    → answers z s other ≡ map (reply_of s.settings other) reports)
