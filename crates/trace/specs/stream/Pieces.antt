-- 'A trace' in whatever pieces it arrives: what a caller of `feed` and `finish` writes.
use Rattle.std.specs.Prelude.{ℕ, ◌≤◌, ◌≡◌, List, [], ◌∷◌, ◌++◌, length, take, drop}
use Rattle.rules.specs.Trace.{trace}
use Rattle.records.specs.lines.Puts.{Prints}
use Rattle.trace.specs.declared.stream.Stream.{Stream}
use Rattle.trace.specs.declared.stream.Fed.{Fed}
use Rattle.trace.specs.stream.Contract.{future, left, beginning, Feeds}
use Rattle.trace.specs.Numbers.{most_kept, most_line}

-- the pieces, one after the other
abbrev pub joined : List (List ℕ) → List ℕ
joined [] = []
joined (p ∷ ps) = p ++ joined ps

-- From this stream, port and buffers the pieces that are left are fed, each until it is used, and the last line is finished; the lines
-- are written one after the other. Each is put into a buffer that has room for any line.
pub data Writes : List (List ℕ) → Stream → List ℕ → List ℕ → List ℕ → List ℕ → List ℕ → Type 0 where
  feeds : {stream : Stream} {bs ms os kept p l : List ℕ} {ps : List (List ℕ)} {r : Fed} {bs' ms' os' kept' l' t : List ℕ}
      → most_line ≤ length l → Feeds stream bs ms os kept p l r bs' ms' os' kept' l' → Writes (drop r.used p ∷ ps) r.stream bs' ms' os' kept' t
      → Writes (p ∷ ps) stream bs ms os kept (take r.length l' ++ t)
  used : {stream : Stream} {bs ms os kept : List ℕ} {ps : List (List ℕ)} {t : List ℕ}
      → Writes ps stream bs ms os kept t → Writes ([] ∷ ps) stream bs ms os kept t
  finishes : {stream : Stream} {bs ms os kept l : List ℕ} {r : ℕ} {l' : List ℕ}
      → length kept ≡ most_kept → most_line ≤ length l → Prints l (left stream kept) r l' → Writes [] stream bs ms os kept (take r l')

-- Who begins with a port of document 01's sizes writes the lines of the whole input.
abbrev pub WritesTheWhole : Type 0
WritesTheWhole =
    (pieces : List (List ℕ)) (bs ms os kept t : List ℕ)
    → length bs ≡ 1024 → length ms ≡ 1024 → length os ≡ 2048 → Writes pieces beginning bs ms os kept t → t ≡ trace (joined pieces)

-- A piece is fed as a whole: some text is written for it, and what is printed from then on is what was to be printed.
pub record Passes (stream : Stream) (bs ms os kept piece : List ℕ) (r : Stream) (bs' ms' os' kept' : List ℕ) : Type 0 where
  pub text : List ℕ
  pub along : (rest : List ℕ) → future stream bs ms os kept (piece ++ rest) ≡ text ++ future r bs' ms' os' kept' rest
