-- What `decode` promises: its answer is what rules' `decode` says of the record.
use Rattle.std.specs.Prelude.{ℕ, ◌≡◌, List, [], Option, Some, None, length, replicate}
use Rattle.rules.specs.declared.Call.{Call}
use Rattle.rules.specs.declared.Call.TheVariants.{Set, Receive, Read, Write, Transmit, Flush, Cancel, Foreground, ReadVerdict, WriteVerdict, SettingsVerdict}
use Rattle.rules.specs.Trace.{Decoded, well_formed, malformed, asks, decode}
use Rattle.records.specs.declared.Asked.{Asked}

-- the bytes lent to a call: for a write the body, for a read and a transmit n zeros, else none
abbrev pub lent_of : Call → ℕ → List ℕ → List ℕ
lent_of (Set x) n body = []
lent_of (Receive e) n body = []
lent_of (Read nonblocking) n body = replicate n 0
lent_of Write n body = body
lent_of Transmit n body = replicate n 0
lent_of (Flush choice) n body = []
lent_of Cancel n body = []
lent_of (Foreground group orphaned) n body = []
lent_of (ReadVerdict p) n body = []
lent_of (WriteVerdict p) n body = []
lent_of (SettingsVerdict p) n body = []

-- what an answer means, for this body
abbrev pub meant : Option Asked → List ℕ → Decoded
meant (Some a) body = asks a.call (lent_of a.call a.lent body)
meant None body = malformed

-- the answer for what a record asks for: the call, and how many bytes are lent to it
abbrev pub told : Decoded → Option Asked
told (well_formed a) = Some (record { call = a.call; lent = length a.lent })
told malformed = None

pub record Decodes (kind : ℕ) (body : List ℕ) (r : Option Asked) : Type 0 where
  pub tells : r ≡ told (decode kind body)
  pub means : meant r body ≡ decode kind body
