-- What is kept of a record that is not complete.
use Rattle.std.specs.Prelude.{ℕ, ◌+◌, ◌-◌, ◌≤◌, ◌<◌, min, ◌≡◌, Bool, true, cond, List, [], ◌++◌, length, take, drop, get_or, replicate, ltb}
use Rattle.rules.specs.Sizes.{Sizes, State}
use Rattle.rules.specs.Trace.{two, trace_from}
use Rattle.trace.specs.Numbers.{header, most_body, most_kept, most_size}

-- 'two-byte length of the body, two-byte kind, body'; the size is that of header and body
abbrev pub size_of : List ℕ → ℕ
size_of kept = header + two (get_or kept 0 0) (get_or kept 1 0)

abbrev pub kind_of : List ℕ → ℕ
kind_of kept = two (get_or kept 2 0) (get_or kept 3 0)

-- A body of more than 512 bytes is malformed whatever it holds, so 513 of them are enough.
abbrev pub end_of : List ℕ → ℕ
end_of kept = header + min (two (get_or kept 0 0) (get_or kept 1 0)) most_body

abbrev pub body_of : List ℕ → List ℕ
body_of kept = take (min (two (get_or kept 0 0) (get_or kept 1 0)) most_body) (drop header kept)

-- fewer bytes have come than the record has
abbrev pub is_open : List ℕ → ℕ → Bool
is_open kept have = ltb have (size_of kept)

-- so many bytes that have come, zeros for those that are not kept
abbrev pub come : List ℕ → ℕ → List ℕ
come kept have = take have kept ++ replicate (have - length kept) 0

-- the bytes of an incomplete record
abbrev pub pending : List ℕ → ℕ → List ℕ
pending kept have = cond (is_open kept have) (come kept have) []

-- So many bytes of the piece are kept behind those that have come: whoever reads them from here on prints the same.
pub record Gathers (kept : List ℕ) (have : ℕ) (piece : List ℕ) (r : ℕ) (kept' : List ℕ) : Type 0 where
  pub used : r ≤ length piece
  pub further : 0 < length piece → 0 < r
  pub all : is_open kept' (have + r) ≡ true → r ≡ length piece
  pub upto : have + r ≤ size_of kept'
  pub low : have + r ≤ most_size
  pub long : length kept' ≡ most_kept
  pub same : (z : Sizes) (m i : ℕ) (s : State) (rest : List ℕ)
      → trace_from z m i s (come kept have ++ (piece ++ rest)) ≡ trace_from z m i s (come kept' (have + r) ++ (drop r piece ++ rest))
