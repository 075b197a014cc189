-- What a line has of a reply. Assumes nothing.
use Prim.Native.Nat.{ℕ}
use mathlib.Core.Path.{◌≡◌, refl}
use Rattle.rules.specs.Refusals.{Reply, handed}
use Rattle.rules.specs.Trace.{line}
use Rattle.records.specs.lines.Lines.{line_of}

-- the line of any reply is that of its answer and of the bytes that it hands out
pub line_of_lem : (index kind : ℕ) (r : Reply) → line_of index kind r.answer (handed r) ≡ line index kind r
line_of_lem index kind r = refl
