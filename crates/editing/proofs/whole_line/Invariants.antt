use lib.ListN.{length}
use Prim.Native.Nat.{ℕ}
use mathlib.Core.List.{List}
use mathlib.Core.Bool.{true}
use mathlib.Core.Path.{◌≡◌}
use Rattle.editing.proofs.Laws.{Walked}
use Rattle.editing.proofs.whole_line.Given as goal

abbrev pub invariant-loop-at : goal.invariant-loop-at
invariant-loop-at l = (bs : List ℕ) → length bs ≡ length l.marks → Walked l.i bs l.marks l.i.queue.len (λ u. true) l.at l.units

abbrev pub decreases-loop-at : goal.decreases-loop-at
decreases-loop-at l = l.at
