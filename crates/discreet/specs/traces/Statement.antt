-- Demand 3 of traces: two traces that differ only in plain bytes received print the same, but for the hex of the bytes that a read
-- delivers. The words are those of secrecy's statement and of the rules' trace. It is proved in proofs/traces/Theorem.antt; that every trace is
-- such a one, in proofs/traces/Every.antt; two traces that meet the premises stand in proofs/traces/Examples.antt.
use Rattle.std.specs.Prelude.{ℕ, ◌/◌, ◌%◌, ◌<◌, ◌≡◌, List, [], ◌∷◌, ◌++◌, length}
use Rattle.rules.specs.declared.Settings.{Settings}
use Rattle.rules.specs.Sizes.{Sizes, State, base}
use Rattle.rules.specs.Settings.{fresh}
use Rattle.rules.specs.Refusals.{Reply}
use Rattle.rules.specs.Step.{Asked, after}
use Rattle.rules.specs.Trace.{Decoded, well_formed, malformed, decode, line, front, nothing, cut, trace_from, trace}
use Rattle.secrecy.specs.Statement.{Each, KeepsSettings, Quiet, Brings, Alike}

---- Traces

-- A record of a trace.
pub record Rec : Type 0 where
  pub kind : ℕ
  pub body : List ℕ

-- 'two-byte length of the body, two-byte kind, body, little-endian'
abbrev pub encoded : Rec → List ℕ
encoded r = (length r.body % 256) ∷ (length r.body / 256) ∷ (r.kind % 256) ∷ (r.kind / 256) ∷ r.body

-- the records, one after the other
abbrev pub encoded_all : List Rec → List ℕ
encoded_all [] = []
encoded_all (r ∷ rs) = encoded r ++ encoded_all rs

-- what may come after the last whole record: nothing, or a record that is cut
pub data Ends (tail : List ℕ) : Type 0 where
  at_end : front tail ≡ nothing → Ends tail
  in_record : front tail ≡ cut → Ends tail

-- what a record asks for
abbrev pub meant : Rec → Decoded
meant r = decode r.kind r.body

-- a malformed record makes no call
abbrev pub asked : Decoded → List Asked
asked (well_formed a) = a ∷ []
asked malformed = []

-- the calls that the records make, in order
abbrev pub calls_of : List Rec → List Asked
calls_of [] = []
calls_of (r ∷ rs) = asked (meant r) ++ calls_of rs

---- The premises

-- no change of settings
abbrev pub Keeps : Decoded → Type 0
Keeps (well_formed a) = KeepsSettings a.call
Keeps malformed = Unit {0}

-- A record of one trace, and the record at the same place of the other: the same; or of the same kind, and both bring a plain byte.
pub data RecordsDiffer (x : Settings) (r t : Rec) : Type 0 where
  same : r ≡ t → Keeps (meant r) → RecordsDiffer x r t
  differ : (a b : Asked) (m n : ℕ) → r.kind ≡ t.kind → meant r ≡ well_formed a → meant t ≡ well_formed b
      → Brings x a.call m → Brings x b.call n → RecordsDiffer x r t

---- The conclusion

-- Two texts, line by line: index, kind, outcome and count are the same, and so are the bytes given, but where a read delivers in both runs
-- the byte of one call, and the two runs' calls bring two bytes. The kind of a read is 8: in a line of any other kind all bytes are the same.
-- From some line on the texts may be one text.
pub data PrintedAlike (x : Settings) (one other : List Asked) : List ℕ → List ℕ → Type 0 where
  ends : {l : List ℕ} → PrintedAlike x one other l l
  prints : {l m : List ℕ} (index kind : ℕ) (r t : Reply) → Alike x one other r t → ((kind ≡ 8 → ⊥) → r.given ≡ t.given)
      → PrintedAlike x one other l m
      → PrintedAlike x one other (line index kind r ++ l) (line index kind t ++ m)

---- Demand 3

-- of the lines printed from any state on: any sizes, any limit on the records read, any index
abbrev pub FromState : Type 0
FromState =
    (z : Sizes) (limit index : ℕ) (s : State) (rs ts : List Rec) (tail : List ℕ)
    → Quiet s.settings → Each (RecordsDiffer s.settings) rs ts → Ends tail
    → PrintedAlike s.settings (calls_of rs) (calls_of ts)
    (trace_from z limit index s (encoded_all rs ++ tail)) (trace_from z limit index s (encoded_all ts ++ tail))

-- the settings after these records
abbrev pub settings_after : List Rec → Settings
settings_after rs = (after base fresh (calls_of rs)).settings

-- Of two whole traces. Both begin with the same records, which may change settings, and after which ECHO is clear and WERASE disabled. What is
-- printed for these is the same; what is printed after it is alike. It holds for any number of records, wherever the limit falls.
abbrev pub Demand3Traces : Type 0
Demand3Traces =
    (before rs ts : List Rec) (tail : List ℕ)
    → Quiet (settings_after before) → Each (RecordsDiffer (settings_after before)) rs ts → Ends tail
    → (l : List ℕ) × (m : List ℕ)
    × (trace (encoded_all before ++ (encoded_all rs ++ tail)) ≡ trace (encoded_all before) ++ l)
    × (trace (encoded_all before ++ (encoded_all ts ++ tail)) ≡ trace (encoded_all before) ++ m)
    × PrintedAlike (settings_after before) (calls_of rs) (calls_of ts) l m

---- That these are all traces

abbrev pub Bytes : List ℕ → Type 0
Bytes [] = Unit {0}
Bytes (b ∷ l) = (b < 256) × Bytes l

-- whatever bytes a trace has, they are records and what may come after the last
abbrev pub EveryTrace : Type 0
EveryTrace = (l : List ℕ) → Bytes l → (rs : List Rec) × (tail : List ℕ) × Ends tail × (l ≡ encoded_all rs ++ tail)
