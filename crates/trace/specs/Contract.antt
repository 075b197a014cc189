-- What a record promises: the rules' answer to it, the state after it, and its line.
use Rattle.std.specs.Prelude.{ℕ, ◌≤◌, min, ◌≡◌, List, ◌++◌, length, take, drop, replicate}
use Rattle.rules.specs.declared.Answer.{Answer}
use Rattle.rules.specs.declared.Call.{Call}
use Rattle.rules.specs.declared.Call.TheVariants.{Set, Receive, Read, Write, Transmit, Flush, Cancel, Foreground, ReadVerdict, WriteVerdict}
use Rattle.rules.specs.declared.Call.TheVariants.{SettingsVerdict}
use Rattle.rules.specs.Sizes.{State}
use Rattle.rules.specs.Refusals.{Reply, handed}
use Rattle.rules.specs.Trace.{decode, answered, line, well_formed, malformed}
use Rattle.rules.specs.Trace as trace
use Rattle.port.specs.State.{sizes, get}
use Rattle.port.specs.declared.Port.{Port}
use Rattle.records.specs.lines.Puts.{Prints}
use Rattle.port.specs.Calls.{Now}
use Rattle.discipline.specs.Contract.{Exact, held}
use Rattle.trace.specs.declared.Carried.{Carried}
use Rattle.trace.specs.declared.Recorded.{Recorded}
use Rattle.trace.specs.Numbers.{most_lent}

-- the rules' answer to a record, from what a port and its slices are
abbrev pub answered_of : Port → List ℕ → List ℕ → List ℕ → ℕ → List ℕ → State × Reply
answered_of p bs ms os kind body = answered (sizes p bs ms os) (get p bs ms os) (decode kind body)

-- A read and a transmit hand out as many bytes as they count, the other calls none.
abbrev pub given_of : Call → ℕ → ℕ
given_of (Set x) n = 0
given_of (Receive e) n = 0
given_of (Read nonblocking) n = n
given_of Write n = 0
given_of Transmit n = n
given_of (Flush choice) n = 0
given_of Cancel n = 0
given_of (Foreground group orphaned) n = 0
given_of (ReadVerdict p) n = 0
given_of (WriteVerdict p) n = 0
given_of (SettingsVerdict p) n = 0

-- the buffer l with the first n bytes of the body in it, as far as there are so many and it holds them
abbrev pub loaded : List ℕ → ℕ → List ℕ → List ℕ
loaded l n body = take (min n (min (length body) (length l))) body ++ drop (min n (min (length body) (length l))) l

-- the n bytes lent to a record's call
abbrev pub lent_from : List ℕ → ℕ → List ℕ → List ℕ
lent_from l n body = take n (loaded l n body)

-- the port and every byte of the slices after the call that a record asks for, with the rules' answer a, and some buffer
pub record CallMade (p : Port) (bs ms os lent : List ℕ) (call : Call) (a : Answer) (q : Port) (bs' ms' os' : List ℕ) : Type 0 where
  pub after : List ℕ
  pub exact : Exact p (held bs ms os lent) call (record { port = q; answer = a }) (held bs' ms' os' after)

-- A malformed record leaves port and slices as they were.
abbrev pub Exactly : trace.Decoded → Port → List ℕ → List ℕ → List ℕ → List ℕ → List ℕ → Answer → Port → List ℕ → List ℕ → List ℕ → Type 0
Exactly (well_formed x) p bs ms os l body a q bs' ms' os' =
    CallMade p bs ms os (lent_from l (length x.lent) body) x.call a q bs' ms' os'
Exactly malformed p bs ms os l body a q bs' ms' os' = (q ≡ p) × (bs' ≡ bs) × (ms' ≡ ms) × (os' ≡ os)

-- The record is carried out with the buffer l: what is handed out stands first in it after.
pub record Carries (p : Port) (bs ms os : List ℕ) (kind : ℕ) (body l : List ℕ) (r : Carried) (bs' ms' os' lent' : List ℕ) : Type 0 where
  pub answer : r.answer ≡ (answered_of p bs ms os kind body).1.answer
  pub given : take r.given lent' ≡ handed (answered_of p bs ms os kind body).1
  pub upto : r.given ≤ length lent'
  pub now : Now p bs ms os (answered_of p bs ms os kind body).0 r.port bs' ms' os'
  pub exact : Exactly (decode kind body) p bs ms os l body (answered_of p bs ms os kind body).1.answer r.port bs' ms' os'

-- its line, as much of it as the buffer l holds; the record is carried out with a buffer of zeros
pub record Records (p : Port) (bs ms os : List ℕ) (index kind : ℕ) (body l : List ℕ) (r : Recorded) (bs' ms' os' l' : List ℕ) : Type 0 where
  pub line : Prints l (line index kind (answered_of p bs ms os kind body).1) r.length l'
  pub now : Now p bs ms os (answered_of p bs ms os kind body).0 r.port bs' ms' os'
  pub exact : Exactly (decode kind body) p bs ms os (replicate most_lent 0) body (answered_of p bs ms os kind body).1.answer r.port bs' ms' os'
