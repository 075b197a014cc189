-- What a well-formed record can ask for, whatever its kind.
use Rattle.std.specs.Prelude.{ℕ, ◌≤◌, ◌≡◌, List, length}
use Rattle.rules.specs.declared.Call.{Call}
use Rattle.rules.specs.declared.Call.TheVariants.{Set, Receive, Read, Write, Transmit, Flush, Cancel, Foreground, ReadVerdict, WriteVerdict}
use Rattle.rules.specs.declared.Call.TheVariants.{SettingsVerdict}
use Rattle.rules.specs.Trace.{Decoded, well_formed, malformed}

-- a read has kind 8
abbrev pub ReadBy : ℕ → Call → Type 0
ReadBy kind (Set x) = Unit {0}
ReadBy kind (Receive e) = Unit {0}
ReadBy kind (Read nonblocking) = kind ≡ 8
ReadBy kind Write = Unit {0}
ReadBy kind Transmit = Unit {0}
ReadBy kind (Flush choice) = Unit {0}
ReadBy kind Cancel = Unit {0}
ReadBy kind (Foreground group orphaned) = Unit {0}
ReadBy kind (ReadVerdict p) = Unit {0}
ReadBy kind (WriteVerdict p) = Unit {0}
ReadBy kind (SettingsVerdict p) = Unit {0}

-- Its body has at most 512 bytes, at most 2,048 bytes are lent to the call, and only kind 8 asks for a read.
pub record Bounds (kind : ℕ) (body : List ℕ) (c : Call) (lent : List ℕ) : Type 0 where
  pub short : length body ≤ 512
  pub few : length lent ≤ 2048
  pub read : ReadBy kind c

abbrev pub Asked : ℕ → List ℕ → Decoded → Type 0
Asked kind body (well_formed a) = Bounds kind body a.call a.lent
Asked kind body malformed = Unit {0}
