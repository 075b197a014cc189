-- Demand 3 of the trace program: two callers of `feed` and `finish`, each with a trace in whatever pieces.
use Rattle.std.specs.Prelude.{ℕ, ◌≡◌, List, ◌++◌, length}
use Rattle.rules.specs.Trace.{trace}
use Rattle.secrecy.specs.Statement.{Each, Quiet}
use Rattle.trace.specs.stream.Contract.{beginning}
use Rattle.trace.specs.stream.Pieces.{joined, Writes}
use Rattle.discreet.specs.traces.Statement.{Rec, encoded_all, Ends, calls_of, RecordsDiffer, PrintedAlike, settings_after}

-- what one caller writes, with a port of document 01's sizes and any slices
pub record Caller (input t : List ℕ) : Type 0 where
  pub pieces : List (List ℕ)
  pub bytes : List ℕ
  pub marks : List ℕ
  pub out : List ℕ
  pub kept : List ℕ
  pub whole : joined pieces ≡ input
  pub sizes : (length bytes ≡ 1024) × (length marks ≡ 1024) × (length out ≡ 2048)
  pub writes : Writes pieces beginning bytes marks out kept t

-- The premises are those of two traces; what the two callers write is alike.
abbrev pub Demand3Program : Type 0
Demand3Program =
    (before rs ts : List Rec) (tail t u : List ℕ)
    → Quiet (settings_after before) → Each (RecordsDiffer (settings_after before)) rs ts → Ends tail
    → Caller (encoded_all before ++ (encoded_all rs ++ tail)) t → Caller (encoded_all before ++ (encoded_all ts ++ tail)) u
    → (l : List ℕ) × (m : List ℕ)
    × (t ≡ trace (encoded_all before) ++ l) × (u ≡ trace (encoded_all before) ++ m)
    × PrintedAlike (settings_after before) (calls_of rs) (calls_of ts) l m
