-- The trace program on an input that comes in pieces: what is still to come, and what is printed at the end.
use Rattle.std.specs.Prelude.{ℕ, ◌-◌, ◌≤◌, ◌<◌, ◌≡◌, true, false, ◌||◌, cond, List, [], ◌++◌, length, drop, leb, eqb, ◌⊎◌}
use Rattle.rules.specs.Trace.{cut_line, full_line, trace_from}
use Rattle.records.specs.lines.Puts.{Prints}
use Rattle.port.specs.Sending as port
use Rattle.port.specs.State.{sizes, get}
use Rattle.trace.specs.gathering.Contract.{size_of, come, pending, kind_of, body_of}
use Rattle.trace.specs.declared.stream.Stream.{Stream}
use Rattle.trace.specs.declared.stream.Taken.{Taken}
use Rattle.trace.specs.declared.stream.Taken.TheVariants.{Nothing, Full, Open, Complete}
use Rattle.port.specs.declared.Port.{Port}
use Rattle.trace.specs.Contract.{Records}
use Rattle.trace.specs.declared.stream.Fed.{Fed}
use Rattle.trace.specs.Numbers.{most_kept, most_line, most_records}

-- what is printed from here on, the rest of the input being as it is; 'At most 65,535 records are read'
abbrev pub future : Stream → List ℕ → List ℕ → List ℕ → List ℕ → List ℕ → List ℕ
future stream bs ms os kept rest =
    cond stream.done []
    (trace_from (sizes stream.port bs ms os) (most_records - stream.index) stream.index (get stream.port bs ms os)
    (pending kept stream.have ++ rest))

-- what is printed at the end of the input: 'A cut last record prints its index and `cut`'; 'one more, even cut, prints its index and `full`'
abbrev pub left : Stream → List ℕ → List ℕ
left stream kept =
    cond (stream.done || eqb (length (pending kept stream.have)) 0) []
    (cond (leb most_records stream.index) (full_line stream.index) (cut_line stream.index))

abbrev pub beginning : Stream
beginning = record { port = port.fresh; index = 0; have = 0; done = false }

---- The next bytes of the input

-- No record is complete: of the piece so many bytes are used, at least one if there is one; a text is printed, none only if the whole piece
-- is used; whatever comes after, it and what is printed from then on are what was to be printed.
pub record Passed (stream : Stream) (kept piece l : List ℕ) (used n : ℕ) (next : Stream) (kept' l' : List ℕ) : Type 0 where
  pub upto : used ≤ length piece
  pub further : 0 < length piece → 0 < used
  pub text : List ℕ
  pub printed : Prints l text n l'
  pub short : length text ≤ most_line
  pub silent : text ≡ [] → used ≡ length piece
  pub along : (bs ms os rest : List ℕ)
      → future stream bs ms os kept (piece ++ rest) ≡ text ++ future next bs ms os kept' (drop used piece ++ rest)

-- A record is complete and kept, with so many bytes of the piece, at least one if there is one: whatever comes after, it stands before that
-- in what is still to be printed.
pub record Completed (stream : Stream) (kept piece l : List ℕ) (used : ℕ) (kept' l' : List ℕ) : Type 0 where
  pub upto : used ≤ length piece
  pub further : 0 < length piece → 0 < used
  pub below : stream.index < most_records
  pub long : length kept' ≡ most_kept
  pub line : l' ≡ l
  pub along : (bs ms os rest : List ℕ) → future stream bs ms os kept (piece ++ rest)
      ≡ trace_from (sizes stream.port bs ms os) (most_records - stream.index) stream.index (get stream.port bs ms os)
      (come kept' (size_of kept') ++ (drop used piece ++ rest))

-- by what the bytes come to; the port stays as it was
abbrev pub TakesIn : Stream → List ℕ → List ℕ → List ℕ → Taken → List ℕ → List ℕ → Type 0
TakesIn stream kept piece l Nothing kept' l' = Passed stream kept piece l (length piece) 0 stream kept' l'
TakesIn stream kept piece l (Full n) kept' l' = Passed stream kept piece l (length piece) n (record stream { have = 0; done = true }) kept' l'
TakesIn stream kept piece l (Open used have) kept' l' = Passed stream kept piece l used 0 (record stream { have = have }) kept' l'
TakesIn stream kept piece l (Complete used) kept' l' = Completed stream kept piece l used kept' l'

---- What a piece of the input does: bytes are used, a text is printed for them, and the rest is still to come

-- the port and its slices are as they were
pub record Untouched (p : Port) (bs ms os : List ℕ) (q : Port) (bs' ms' os' : List ℕ) : Type 0 where
  pub port : q ≡ p
  pub bytes : bs' ≡ bs
  pub marks : ms' ≡ ms
  pub out : os' ≡ os

-- Of the piece so many bytes are used, at least one if there is one; a text is printed for them, none only if the whole piece is used;
-- whatever comes after, it and what is printed from then on are what was to be printed. Port and slices are as they were, or a record is
-- carried out on them.
pub record Feeds (stream : Stream) (bs ms os kept piece l : List ℕ) (r : Fed) (bs' ms' os' kept' l' : List ℕ) : Type 0 where
  pub text : List ℕ
  pub printed : Prints l text r.length l'
  pub short : length text ≤ most_line
  pub used : r.used ≤ length piece
  pub further : 0 < length piece → 0 < r.used
  pub silent : text ≡ [] → r.used ≡ length piece
  pub along : (rest : List ℕ) → future stream bs ms os kept (piece ++ rest) ≡ text ++ future r.stream bs' ms' os' kept' (drop r.used piece ++ rest)
  pub exact : Untouched stream.port bs ms os r.stream.port bs' ms' os'
      ⊎ Records stream.port bs ms os stream.index (kind_of kept') (body_of kept') l (record { port = r.stream.port; length = r.length }) bs' ms' os' l'
